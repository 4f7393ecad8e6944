-- Writing a window's registers (4.2.2), by cases in the order of their table, and what is left for the device
-- to do.
use Rattle.std.specs.Prelude.{ℕ, ◌==◌, ◌&&◌, nat_lt, if◌then◌else◌, is_some}
use Rattle.std.specs.Option.{option_map_or}
use Rattle.guest_memory.specs.Memory.{Memory}
use Rattle.negotiation.specs.Features.{notification_data}
use Rattle.negotiation.specs.Negotiation.{negotiated_of, with_features_written, with_status_written}
use Rattle.negotiation.specs.Sets.{has}
use Rattle.mmio_window.specs.declared.action.Action.{Action}
use Rattle.mmio_window.specs.declared.action.Action.TheVariants.{Notify, Reset, ConfigWrite, None}
use Rattle.mmio_window.specs.declared.register.Register.{Register}
use Rattle.mmio_window.specs.declared.register.Register.TheVariants.{DeviceFeaturesSel, DriverFeatures, DriverFeaturesSel, QueueSel, QueueNum, QueueReady, QueueNotify, InterruptAck, Status, QueueDescLow, QueueDescHigh, QueueDriverLow, QueueDriverHigh, QueueDeviceLow, QueueDeviceHigh, ShmSel}
use Rattle.mmio_window.specs.Configuration.{is_configuration_access, narrowed}
use Rattle.mmio_window.specs.Interrupts.{acknowledged}
use Rattle.mmio_window.specs.QueueRegisters.{queue_written}
use Rattle.mmio_window.specs.Reading.{configuration_offset}
use Rattle.mmio_window.specs.Registers.{register_at}
use Rattle.mmio_window.specs.Window.{WindowState, queue_at, reset, with_registers}

-- the window with a register of the selected queue written
abbrev pub with_queue_written : Register → ℕ → Memory → WindowState → WindowState
with_queue_written register value m w =
    with_registers w.queue_sel (queue_written register value m w.negotiation) w

-- the window after a write to Status: 0 resets it (2.4)
abbrev pub status_written : ℕ → WindowState → WindowState
status_written value w =
    if value == 0 then reset w
    else record w { negotiation = with_status_written value w.negotiation }

-- the window after a write to a register; one that can't be written stays
abbrev pub register_written : Register → ℕ → Memory → WindowState → WindowState
register_written DeviceFeaturesSel value m w = record w { device_features_sel = value }
register_written DriverFeatures value m w =
    record w { negotiation = with_features_written w.driver_features_sel value w.negotiation }
register_written DriverFeaturesSel value m w = record w { driver_features_sel = value }
register_written QueueSel value m w = record w { queue_sel = value }
register_written QueueNum value m w = with_queue_written QueueNum value m w
register_written QueueReady value m w = with_queue_written QueueReady value m w
register_written InterruptAck value m w = record w { interrupts = acknowledged value w.interrupts }
register_written Status value m w = status_written value w
register_written QueueDescLow value m w = with_queue_written QueueDescLow value m w
register_written QueueDescHigh value m w = with_queue_written QueueDescHigh value m w
register_written QueueDriverLow value m w = with_queue_written QueueDriverLow value m w
register_written QueueDriverHigh value m w = with_queue_written QueueDriverHigh value m w
register_written QueueDeviceLow value m w = with_queue_written QueueDeviceLow value m w
register_written QueueDeviceHigh value m w = with_queue_written QueueDeviceHigh value m w
register_written ShmSel value m w = record w { shm_sel = value }
register_written _ value m w = w

-- the queue that a value names in QueueNotify: with NOTIFICATION_DATA its low half does (4.2.3.3)
abbrev pub notified_queue : ℕ → WindowState → ℕ
notified_queue value w = if has (negotiated_of w.negotiation) notification_data then
    narrowed 2 value else value

-- what a write to a register leaves for the device to do: a notification of a queue that is ready in a live
-- window (2.1.2), or its part of a reset
abbrev pub register_action : Register → ℕ → WindowState → Action
register_action QueueNotify value w =
    if is_some (queue_at (notified_queue value w) w) then Notify (notified_queue value w) else None
register_action Status value w = if value == 0 then Reset else None
register_action _ value w = None

-- the window after a write of some width at an offset: control registers take a width of 4 alone
abbrev pub written : ℕ → ℕ → ℕ → Memory → WindowState → WindowState
written offset width value m w =
    if nat_lt offset configuration_offset && width == 4
    then option_map_or (λ register. register_written register value m w) (register_at offset) w
    else w

-- what a write to a control register leaves for the device to do
abbrev pub control_action : ℕ → ℕ → ℕ → WindowState → Action
control_action offset width value w =
    if width == 4 then option_map_or (λ register. register_action register value w)
    (register_at offset) None else None

-- what a write to the configuration does: the device has those that are answered
abbrev pub configuration_action : ℕ → ℕ → ℕ → Action
configuration_action offset width value =
    if is_configuration_access offset width then ConfigWrite offset width (narrowed width value) else None

-- what a write of some width at an offset leaves for the device to do
abbrev pub action_of : ℕ → ℕ → ℕ → WindowState → Action
action_of offset width value w =
    if nat_lt offset configuration_offset then control_action offset width value w
    else configuration_action offset width value
