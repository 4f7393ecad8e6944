-- Which events wait for what is in flight of a slot's disks that the host serves.
use Rattle.std.specs.Prelude.{Bool, false}
use Rattle.mmio_window.specs.Ready.{may_stop_queues}
use Rattle.device_list.specs.List.{are_at_work}
use Rattle.board.specs.declared.event.DeviceEvent.{DeviceEvent}
use Rattle.board.specs.declared.event.DeviceEvent.TheVariants as device
use Rattle.board.specs.declared.event.EventKind.{EventKind}
use Rattle.board.specs.declared.event.EventKind.TheVariants.{Restore, Device}
use Rattle.board.specs.Devices.{waits_for_disk}
use Rattle.board.specs.Hosting.{must_wait}
use Rattle.board.specs.Slot.{SlotState}

-- of what is done to a further device a write that may stop its queue
abbrev pub may_wait_there : {A : Type 0} → DeviceEvent A → Bool
may_wait_there (device.Write offset width value) = may_stop_queues offset
may_wait_there what = false

-- whether an event may wait: a write that may stop the queue of a disk, and a restore
abbrev pub may_wait : {A : Type 0} → EventKind A → Bool
may_wait (Device n what) = may_wait_there what
may_wait what = must_wait what

-- whether it waits for what is in flight of a further disk
abbrev pub waits_beside : {A : Type 0} → EventKind A → SlotState → Bool
waits_beside (Restore bytes) state = are_at_work state.devices
waits_beside (Device n what) state = waits_for_disk what n state.devices
waits_beside what state = false
