-- What a write to QueueNotify may change (4.2.2, 2.9).
use Rattle.std.specs.Prelude.{◌≡◌, ℕ, ◌%◌, ◌^◌, true}
use Rattle.guest_memory.specs.Memory.{Memory}
use Rattle.negotiation.specs.Features.{notification_data}
use Rattle.negotiation.specs.Negotiation.{negotiated_of}
use Rattle.negotiation.specs.Sets.{has}
use Rattle.mmio_window.specs.declared.register.Register.TheVariants.{QueueNotify}
use Rattle.mmio_window.specs.Window.{WindowState}
use Rattle.mmio_window.specs.Writing.{register_action, register_written}

-- Where NOTIFICATION_DATA was negotiated, two values with equal low halves ask the same of the device: the
-- driver's next offset and next wrap counter, above them, change nothing.
abbrev pub NextPlaceIsIgnored : Type 0
NextPlaceIsIgnored =
    (w : WindowState) (first second : ℕ) → has (negotiated_of w.negotiation) notification_data ≡ true
    → first % 2 ^ 16 ≡ second % 2 ^ 16
    → register_action QueueNotify first w ≡ register_action QueueNotify second w

-- Whatever its value is, a write to QueueNotify changes no register.
abbrev pub NotificationKeepsRegisters : Type 0
NotificationKeepsRegisters = (w : WindowState) (value : ℕ) (m : Memory)
    → register_written QueueNotify value m w ≡ w
