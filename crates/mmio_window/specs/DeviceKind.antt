-- The types of device: which queues each has, and whether its configuration changes.
use Rattle.std.specs.Prelude.{ℕ, ◌==◌, ◌&&◌, Bool, true, false, if◌then◌else◌, Option, None, Some}
use Rattle.mmio_window.specs.declared.device_kind.DeviceKind.{DeviceKind}
use Rattle.mmio_window.specs.declared.device_kind.DeviceKind.TheVariants.{Network, Block, Console, Entropy}
use Rattle.mmio_window.specs.declared.device_kind.QueueIndex.{QueueIndex}
use Rattle.mmio_window.specs.declared.device_kind.QueueIndex.TheVariants.{Queue0, Queue1}

-- the device type (5.1.1, 5.2.1, 5.3.1, 5.4.1)
abbrev pub device_id_of : DeviceKind → ℕ
device_id_of Network = 1
device_id_of Block = 2
device_id_of Console = 3
device_id_of Entropy = 4

-- whether the device has a second queue: a network card (5.1.2) and a console (5.3.2) have two, a block device
-- (5.2.2) and an entropy device (5.4.2) have one
abbrev pub has_queue_1 : DeviceKind → Bool
has_queue_1 Network = true
has_queue_1 Block = false
has_queue_1 Console = true
has_queue_1 Entropy = false

-- the queue of this number, if the device has it
abbrev pub queue_of : DeviceKind → ℕ → Option QueueIndex
queue_of kind q =
    if q == 0 then Some Queue0
    else if q == 1 && has_queue_1 kind then Some Queue1
    else None

-- whether the device's configuration changes: a network card's does with its link (5.1.4), and a console's with its
-- size (5.3.4)
abbrev pub configuration_changes : DeviceKind → Bool
configuration_changes Network = true
configuration_changes Block = false
configuration_changes Console = true
configuration_changes Entropy = false
