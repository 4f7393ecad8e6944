-- A write to a register, by what it changes. Here the registers of a queue are listed.
use Rattle.std.proofs.Common.{ℕ}
use Rattle.guest_memory.specs.Memory.{Memory}
use Rattle.negotiation.specs.Negotiation.{with_features_written}
use Rattle.mmio_window.specs.declared.interrupts.Interrupts.{Interrupts}
use Rattle.mmio_window.specs.declared.register.Register.{Register}
use Rattle.mmio_window.specs.declared.register.Register.TheVariants.{DeviceFeaturesSel, DriverFeatures, DriverFeaturesSel, QueueSel, InterruptAck, Status, ShmSel, QueueNum, QueueReady, QueueDescLow, QueueDescHigh, QueueDriverLow, QueueDriverHigh, QueueDeviceLow, QueueDeviceHigh}
use Rattle.mmio_window.specs.Interrupts.{acknowledged}
use Rattle.mmio_window.specs.Window.{WindowState}
use Rattle.mmio_window.specs.Writing.{register_written, status_written, with_queue_written}

-- What holds of a window after a write to a register of a queue, to Status and to DriverFeatures, and with
-- other selectors and interrupts, holds after every write to a register of which this is true.
pub written_by_cases : (P : WindowState → Type 0) (Is : Register → Type 0) (value : ℕ) (m : Memory)
    (w : WindowState)
    → ((register : Register) → Is register → P (with_queue_written register value m w))
    → (Is Status → P (status_written value w))
    → P (record w { negotiation = with_features_written w.driver_features_sel value w.negotiation })
    → ((device_sel driver_sel queue_sel shm_sel : ℕ) (interrupts : Interrupts)
    → P (record w {
      device_features_sel = device_sel;
      driver_features_sel = driver_sel;
      queue_sel = queue_sel;
      shm_sel = shm_sel;
      interrupts = interrupts;
    }))
    → P w → (register : Register) → Is register → P (register_written register value m w)
written_by_cases P Is value m w queue status features aside same DeviceFeaturesSel is =
    aside value w.driver_features_sel w.queue_sel w.shm_sel w.interrupts
written_by_cases P Is value m w queue status features aside same DriverFeatures is = features
written_by_cases P Is value m w queue status features aside same DriverFeaturesSel is =
    aside w.device_features_sel value w.queue_sel w.shm_sel w.interrupts
written_by_cases P Is value m w queue status features aside same QueueSel is =
    aside w.device_features_sel w.driver_features_sel value w.shm_sel w.interrupts
written_by_cases P Is value m w queue status features aside same QueueNum is = queue QueueNum is
written_by_cases P Is value m w queue status features aside same QueueReady is = queue QueueReady is
written_by_cases P Is value m w queue status features aside same InterruptAck is =
    aside w.device_features_sel w.driver_features_sel w.queue_sel w.shm_sel (acknowledged value w.interrupts)
written_by_cases P Is value m w queue status features aside same Status is = status is
written_by_cases P Is value m w queue status features aside same QueueDescLow is = queue QueueDescLow is
written_by_cases P Is value m w queue status features aside same QueueDescHigh is = queue QueueDescHigh is
written_by_cases P Is value m w queue status features aside same QueueDriverLow is = queue QueueDriverLow is
written_by_cases P Is value m w queue status features aside same QueueDriverHigh is = queue QueueDriverHigh is
written_by_cases P Is value m w queue status features aside same QueueDeviceLow is = queue QueueDeviceLow is
written_by_cases P Is value m w queue status features aside same QueueDeviceHigh is = queue QueueDeviceHigh is
written_by_cases P Is value m w queue status features aside same ShmSel is =
    aside w.device_features_sel w.driver_features_sel w.queue_sel value w.interrupts
written_by_cases P Is value m w queue status features aside same _ is = same
