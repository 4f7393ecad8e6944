-- The disks of a slot that its host serves, its own and those among its further devices, and what one of them does.
use Rattle.std.specs.Prelude.{◌≡◌, Bool, Option, Some, List, slice_set}
use Rattle.std.specs.List.{slice_get}
use Rattle.std.specs.Option.{option_and_then, option_map}
use Rattle.guest_memory.specs.Memory.{Memory}
use Rattle.mmio_window.specs.Window.{WindowState}
use Rattle.block_device.specs.declared.operation.HostEvent.{HostEvent}
use Rattle.block_device.specs.Flights.{HostedQueue, InFlight}
use Rattle.hosted_disk.specs.Disk.{HostedDisk, queue_of}
use Rattle.hosted_disk.specs.Told.{DoesAsTold}
use Rattle.device_list.specs.Device.{DeviceState}
use Rattle.device_list.specs.List.{disk_at}
use Rattle.device_list.specs.Model.{Block, disk_of}
use Rattle.board.specs.Backing.{is_held, tags_in}
use Rattle.board.specs.Slot.{BoardSlot, SlotState}
pub use Rattle.board.specs.declared.slot_disk.SlotDisk.{SlotDisk}
pub use Rattle.board.specs.declared.slot_disk.SlotDisk.TheVariants.{Own, Further}

-- the disk, of the slot's own and of its further devices, if the slot has it and the host serves it
abbrev pub disk_by : SlotDisk → Option HostedDisk → List DeviceState → Option HostedDisk
disk_by Own host devices = host
disk_by (Further n) host devices = disk_at n devices

-- of a slot as the board keeps it
abbrev pub disk_in : SlotDisk → BoardSlot → Option HostedDisk
disk_in disk slot = disk_by disk slot.host slot.devices

-- and as its guest sees it
abbrev pub disk_for : SlotDisk → SlotState → Option HostedDisk
disk_for disk state = disk_by disk state.host state.devices

-- what is in flight of it, by tags
abbrev pub in_flight_of : SlotDisk → SlotState → List (Option InFlight)
in_flight_of disk state = tags_in (disk_for disk state)

-- and whether its queue is on hold
abbrev pub on_hold_of : SlotDisk → SlotState → Bool
on_hold_of disk state = is_held (disk_for disk state)

-- a disk that the host serves, and its window
pub record DiskUnit : Type 0 where
  pub window : WindowState
  pub disk : HostedDisk

-- a further device, if it is one
abbrev pub unit_of : DeviceState → Option DiskUnit
unit_of d = option_map (λ disk. record { window = d.window; disk = disk }) (disk_of d.model)

-- the disk of a slot with its window
abbrev pub unit_at : SlotDisk → SlotState → Option DiskUnit
unit_at Own state = option_map (λ disk. record { window = state.block; disk = disk }) state.host
unit_at (Further n) state = option_and_then unit_of (slice_get state.devices n)

-- where its queue stands in this memory
abbrev pub unit_queue : Memory → DiskUnit → HostedQueue
unit_queue m unit = queue_of m unit.window unit.disk

-- the slot with this disk in the place of that one
abbrev pub with_disk : SlotDisk → DiskUnit → SlotState → SlotState
with_disk Own unit state = record state { block = unit.window; host = Some unit.disk }
with_disk (Further n) unit state = record state {
  devices = slice_set state.devices n (record { window = unit.window; model = Block unit.disk });
}

-- The disk does this, and all else of the slot stays.
pub record DoesToDisk (Does : HostedDisk → Memory → Memory → WindowState → WindowState → HostedDisk → Type 0)
    (disk : SlotDisk) (old new : SlotState) : Type 0 where
  pub before : DiskUnit
  pub after : DiskUnit
  pub there : unit_at disk old ≡ Some before
  pub does : Does before.disk old.memory new.memory before.window after.window after.disk
  pub is : new ≡ record (with_disk disk after old) { memory = new.memory }

-- it does as its host says
abbrev pub DoesAsSaid : SlotDisk → HostEvent → SlotState → SlotState → Type 0
DoesAsSaid disk said old new = DoesToDisk (DoesAsTold said) disk old new
