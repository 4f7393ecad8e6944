-- A disk that the host serves: the block device as its driver knows it (5.2), what is in flight of it, and whether its
-- queue is on hold. The disk's bytes are the host's.
use Rattle.std.specs.Prelude.{◌≡◌, ℕ, zero, suc, ◌&&◌, Bool, true, false, List, Option, None, replicate}
use Rattle.guest_memory.specs.Memory.{Memory}
use Rattle.chain.specs.declared.budget.Budget.{Budget}
use Rattle.chain.specs.declared.budget.Progress.{Progress}
use Rattle.chain.specs.declared.budget.Progress.TheVariants.{Done}
use Rattle.mmio_window.specs.declared.stage.Stage.{Stage}
use Rattle.mmio_window.specs.Ready.{may_stop_queues}
use Rattle.mmio_window.specs.Serving.{NothingHappens}
use Rattle.mmio_window.specs.Window.{WindowState}
use Rattle.block_device.specs.declared.device.BlockDevice.{BlockDevice}
use Rattle.block_device.specs.Flights.{AreHeld, HostedQueue, InFlight, IsLook, IsLookTo}
use Rattle.block_device.specs.Tags.{is_any}

pub record HostedDisk : Type 0 where
  pub device : BlockDevice
  pub tags : List (Option InFlight)
  pub on_hold : Bool

-- one of so many sectors, of which so many operations may be in flight: none is
abbrev pub fresh_disk : ℕ → Bool → List ℕ → ℕ → HostedDisk
fresh_disk sectors read_only identity depth = record {
  device = record {
    extent = record { start = 0; count = sectors };
    read_only = read_only;
    identity = identity;
  };
  tags = replicate depth None;
  on_hold = false;
}

-- where its queue stands
abbrev pub queue_of : Memory → WindowState → HostedDisk → HostedQueue
queue_of m w disk = record { memory = m; window = w; tags = disk.tags }

-- What is in flight is held: nothing that the host is told lies outside the guest's memory or the disk, and each chain
-- lies between the next used entry and the next chain of the queue.
abbrev pub HoldsFlights : Memory → WindowState → HostedDisk → Type 0
HoldsFlights m w disk = AreHeld disk.device.extent.count (queue_of m w disk)

-- What a look at the queue comes to, by whether it is on hold: then no further chain is taken.
abbrev pub LooksUnless : Bool → BlockDevice → HostedQueue → HostedQueue → Type 0
LooksUnless true device old new = new ≡ old
LooksUnless false device old new = IsLook device old new

-- The device looks at its queue: chains that ask for nothing are served, and those that ask take free tags.
pub record LooksAtQueue (disk : HostedDisk) (m m' : Memory) (w w' : WindowState) (disk' : HostedDisk) : Type 0 where
  pub looks : LooksUnless disk.on_hold disk.device (queue_of m w disk) (queue_of m' w' disk')
  pub is : disk' ≡ record disk { tags = disk'.tags }

-- what it does whose queue of this number is notified: it has one
abbrev pub ServesDisk : HostedDisk → ℕ → Memory → Memory → WindowState → WindowState → HostedDisk → Type 0
ServesDisk disk zero m m' w w' disk' = LooksAtQueue disk m m' w w' disk'
ServesDisk disk (suc q) m m' w w' disk' = NothingHappens m m' w w' disk disk'

-- ---- a piece of that, within a budget

-- How far a look comes, by whether the queue is on hold: then it is at its end.
abbrev pub LooksUnlessTo : Bool → BlockDevice → Stage → Budget → Progress → HostedQueue → HostedQueue → Type 0
LooksUnlessTo true device stage budget progress old new = (progress ≡ Done) × (new ≡ old)
LooksUnlessTo false device stage budget progress old new = IsLookTo device stage budget progress old new

-- The device looks at its queue within a budget. In a pause the queue stands open.
pub record LooksAtQueueTo (stage : Stage) (budget : Budget) (progress : Progress) (disk : HostedDisk) (m m' : Memory)
    (w w' : WindowState) (disk' : HostedDisk) : Type 0 where
  pub looks : LooksUnlessTo disk.on_hold disk.device stage budget progress (queue_of m w disk) (queue_of m' w' disk')
  pub is : disk' ≡ record disk { tags = disk'.tags }

-- what it does so of its queue of this number
abbrev pub ServesDiskTo : Stage → Budget → Progress → HostedDisk → ℕ → Memory → Memory → WindowState → WindowState
    → HostedDisk → Type 0
ServesDiskTo stage budget progress disk zero m m' w w' disk' = LooksAtQueueTo stage budget progress disk m m' w w' disk'
ServesDiskTo stage budget progress disk (suc q) m m' w w' disk' =
    (progress ≡ Done) × NothingHappens m m' w w' disk disk'

-- whether a write at this offset of its window waits for what is in flight: one that may stop the queue
abbrev pub must_wait : ℕ → HostedDisk → Bool
must_wait offset disk = is_any disk.tags && may_stop_queues offset
