-- What the host says of a disk that it serves, and what comes of that.
use Rattle.std.specs.Prelude.{◌≡◌, ℕ, Bool, true, false, not, get_or, is_some, None}
use Rattle.guest_memory.specs.Memory.{Memory}
use Rattle.mmio_window.specs.Window.{WindowState}
use Rattle.block_device.specs.declared.device.BlockDevice.{BlockDevice}
use Rattle.block_device.specs.declared.operation.HostEvent.{HostEvent}
use Rattle.block_device.specs.declared.operation.HostEvent.TheVariants.{Complete, Drop, Hold, Release}
use Rattle.block_device.specs.declared.operation.Verdict.{Verdict}
use Rattle.block_device.specs.Flights.{HostedQueue, IsLanding, IsLook, given_up}
use Rattle.block_device.specs.Tags.{is_any}
use Rattle.hosted_disk.specs.Disk.{HostedDisk, LooksUnless, queue_of}

-- Whether there is something to do: an operation has the tag, anything is in flight, the queue isn't on hold, or it is.
abbrev pub has_effect : HostEvent → HostedDisk → Bool
has_effect (Complete tag verdict) disk = is_some (get_or disk.tags tag None)
has_effect Drop disk = is_any disk.tags
has_effect Hold disk = not disk.on_hold
has_effect Release disk = disk.on_hold

-- The operation of this tag was done, or failed: its chain is given back, and the device looks at its queue again.
pub record Completes (tag : ℕ) (verdict : Verdict) (device : BlockDevice) (on_hold : Bool)
    (old new : HostedQueue) : Type 0 where
  pub landed : HostedQueue
  pub lands : IsLanding tag verdict old landed
  pub looks : LooksUnless on_hold device landed new

-- how the queue of a device changes by what the host says
abbrev pub QueueTold : HostEvent → BlockDevice → Bool → HostedQueue → HostedQueue → Type 0
QueueTold (Complete tag verdict) device on_hold old new = Completes tag verdict device on_hold old new
QueueTold Drop device on_hold old new = new ≡ given_up old
QueueTold Hold device on_hold old new = new ≡ old
QueueTold Release device on_hold old new = IsLook device old new

-- whether the queue is on hold then
abbrev pub held_by : HostEvent → Bool → Bool
held_by Hold on_hold = true
held_by Release on_hold = false
held_by said on_hold = on_hold

-- The disk does what the host says.
pub record DoesAsTold (said : HostEvent) (disk : HostedDisk) (m m' : Memory) (w w' : WindowState)
    (disk' : HostedDisk) : Type 0 where
  pub queue : QueueTold said disk.device disk.on_hold (queue_of m w disk) (queue_of m' w' disk')
  pub is : disk' ≡ record disk { tags = disk'.tags; on_hold = held_by said disk.on_hold }
