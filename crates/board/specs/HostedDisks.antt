-- Which events are of a disk that the host serves, the slot's own or a further one: what the host says of it, a hold, and a
-- notification of its queue.
use Rattle.std.specs.Prelude.{◌≢◌, ℕ, zero, ◌==◌, ◌&&◌, if◌then◌else◌, Bool, true, false, Option, Some, None}
use Rattle.std.specs.List.{slice_get}
use Rattle.std.specs.Option.{option_and_then, option_map_or}
use Rattle.mmio_window.specs.declared.action.Action.{Action}
use Rattle.mmio_window.specs.declared.action.Action.TheVariants.{Notify}
use Rattle.mmio_window.specs.Writing.{action_of}
use Rattle.block_device.specs.declared.operation.HostEvent.{HostEvent}
use Rattle.block_device.specs.declared.operation.HostEvent.TheVariants.{Drop}
use Rattle.device_list.specs.Device.{DeviceState}
use Rattle.board.specs.declared.event.DeviceEvent.{DeviceEvent}
use Rattle.board.specs.declared.event.DeviceEvent.TheVariants as device
use Rattle.board.specs.declared.event.EventKind.{EventKind}
use Rattle.board.specs.declared.event.EventKind.TheVariants.{Device, Host}
use Rattle.board.specs.Backing.{held_disk}
use Rattle.board.specs.Hosting.{notifies_block, tag_of, told_in, waits_now}
use Rattle.board.specs.Slot.{SlotState}
use Rattle.board.specs.Units.{DiskUnit, Further, Own, SlotDisk, unit_at, with_disk}
use Rattle.board.specs.Waiting.{waits_beside}

-- ---- what the host says of one

-- what it says of a further device
abbrev pub said_there : {A : Type 0} → DeviceEvent A → Option HostEvent
said_there (device.Host said) = Some said
said_there what = None

-- what it says of the disk by an event, if it says anything of it
abbrev pub said_of : {A : Type 0} → SlotDisk → EventKind A → Option HostEvent
said_of Own what = told_in what
said_of (Further n) (Device k what) = if k == n then said_there what else None
said_of (Further n) what = None

-- an event that doesn't end what is in flight of the disk with this tag: it is neither its completion nor a drop
pub record LeavesTagOf {A : Type 0} (disk : SlotDisk) (tag : ℕ) (what : EventKind A) : Type 0 where
  pub other : option_and_then tag_of (said_of disk what) ≢ Some tag
  pub no_drop : said_of disk what ≢ Some Drop

-- ---- a hold, a release, and a notification

-- a disk with its window, on hold, or not
abbrev pub held_unit : Bool → DiskUnit → DiskUnit
held_unit on_hold unit = record unit { disk = held_disk on_hold unit.disk }

-- the slot with the disk on hold, or not
abbrev pub held_so : Bool → SlotDisk → SlotState → SlotState
held_so on_hold disk state =
    option_map_or (λ unit. with_disk disk (held_unit on_hold unit) state) (unit_at disk state) state

-- the event by which the host says this of the disk
abbrev pub saying : {A : Type 0} → SlotDisk → HostEvent → EventKind A
saying Own said = Host said
saying (Further n) said = Device n (device.Host said)

-- whether a write leaves the service of queue 0 to be done
abbrev pub asks_service : Action → Bool
asks_service (Notify zero) = true
asks_service action = false

-- whether what is done to a device notifies its queue 0
abbrev pub notifies_there : {A : Type 0} → DeviceEvent A → DeviceState → Bool
notifies_there (device.Write offset width value) d = asks_service (action_of offset width value d.window)
notifies_there what d = false

-- whether an event notifies the disk of its queue
abbrev pub notifies_disk : {A : Type 0} → SlotDisk → EventKind A → SlotState → Bool
notifies_disk Own what state = notifies_block what state
notifies_disk (Further n) (Device k what) state =
    k == n && option_map_or (notifies_there what) (slice_get state.devices n) false
notifies_disk (Further n) what state = false

-- and whether it waits for what is in flight of the disk
abbrev pub waits_for : {A : Type 0} → SlotDisk → EventKind A → SlotState → Bool
waits_for Own what state = waits_now what state.host
waits_for (Further n) what state = waits_beside what state
