-- Operations in flight of one disk that the host serves, in its window: what a look at the queue, a landing and a drop
-- make of its tags.
use Rattle.std.specs.Prelude.{◌≡◌, ℕ, Option, Some, None, List, [], ◌∷◌, get_or, set, All, IfSome}
use Rattle.guest_memory.specs.Memory.{Memory}
use Rattle.chain.specs.declared.budget.Budget.{Budget}
use Rattle.chain.specs.declared.budget.Progress.{Progress}
use Rattle.chain.specs.declared.budget.Progress.TheVariants as came
use Rattle.chain.specs.declared.segment.Buffer.{Buffer}
use Rattle.sector_cache.specs.Disk.{Disk}
use Rattle.mmio_window.specs.declared.queue.Queue.{Queue}
use Rattle.mmio_window.specs.declared.queue.Token.{Token}
use Rattle.mmio_window.specs.declared.stage.Stage.{Stage}
use Rattle.mmio_window.specs.declared.stage.Stage.TheVariants.{First, Next}
use Rattle.mmio_window.specs.Queue.{AreAhead}
use Rattle.mmio_window.specs.Window.{WindowState, queue_at, with_reset_asked}
use Rattle.block_device.specs.declared.device.BlockDevice.{BlockDevice}
use Rattle.block_device.specs.declared.hosting.Hosted.TheVariants.{Asks, Done}
use Rattle.block_device.specs.declared.operation.Verdict.{Verdict}
use Rattle.block_device.specs.Hosting.{CompletesIn, HostsTo, HostsWithin, hosted_by}
use Rattle.block_device.specs.Tags as tables
use Rattle.block_device.specs.Tags.{TagIsHeld, free_tag, freed, tokens_of}

-- a chain in flight of a window's queue
abbrev pub InFlight : Type 0
InFlight = tables.InFlight Token

-- where the queue of such a disk stands: the guest's memory, the window, and the tags
pub record HostedQueue : Type 0 where
  pub memory : Memory
  pub window : WindowState
  pub tags : List (Option InFlight)

-- ---- a look at the queue

abbrev pub unlimited : Budget
unlimited = record { chains = None; bytes = None }

-- Chains are served that ask for nothing, whatever the disk is, and the next one asks: it takes the first free
-- tag, and the queue stands open behind it.
pub record AsksNext (device : BlockDevice) (stage : Stage) (old : HostedQueue) (here : InFlight)
    (new : HostedQueue) : Type 0 where
  pub tag : ℕ
  pub free : free_tag old.tags ≡ Some tag
  pub buffers : List Buffer
  pub asks :
      (disk : Disk) → HostsTo device stage unlimited (queue_at 0 old.window) (Asks here.flight)
      old.memory new.memory old.window new.window buffers here.runs disk
  pub tags : new.tags ≡ set old.tags tag (Some here)

-- From one state of the queue to another, whichever chain it is.
pub record LooksOn (device : BlockDevice) (stage : Stage) (old new : HostedQueue) : Type 0 where
  pub here : InFlight
  pub asks : AsksNext device stage old here new

-- No further chain asks, and the service ends.
pub record AsksNoMore (device : BlockDevice) (stage : Stage) (old new : HostedQueue) : Type 0 where
  pub ends :
      (disk : Disk) → HostsTo device stage unlimited (queue_at 0 old.window) Done
      old.memory new.memory old.window new.window [] [] disk
  pub tags : new.tags ≡ old.tags

-- How a look ends, by whether a tag is free: where none is, it goes no further, and the queue is left as it
-- stands.
abbrev pub LookEnds : Option ℕ → BlockDevice → Stage → HostedQueue → HostedQueue → Type 0
LookEnds None device stage old new = new ≡ old
LookEnds (Some tag) device stage old new = AsksNoMore device stage old new

-- From here on these chains ask, one after another, and then the look ends.
abbrev pub LooksFrom : BlockDevice → Stage → HostedQueue → List InFlight → HostedQueue → Type 0
LooksFrom device stage old [] new = LookEnds (free_tag old.tags) device stage old new
LooksFrom device stage old (here ∷ asked) new =
    (mid : HostedQueue) × AsksNext device stage old here mid × LooksFrom device Next mid asked new

-- a look, and what it asks for
abbrev pub LooksAt : BlockDevice → HostedQueue → List InFlight → HostedQueue → Type 0
LooksAt device = LooksFrom device First

-- from one state of the queue to another, whatever it asks for
pub record IsLook (device : BlockDevice) (old new : HostedQueue) : Type 0 where
  pub asked : List InFlight
  pub looks : LooksAt device old asked new

-- ---- a piece of a look, within a budget

-- The next chain asks within a budget, of which this is left behind it.
pub record AsksNextWithin (device : BlockDevice) (stage : Stage) (budget left : Budget) (old : HostedQueue)
    (here : InFlight) (new : HostedQueue) : Type 0 where
  pub tag : ℕ
  pub free : free_tag old.tags ≡ Some tag
  pub buffers : List Buffer
  pub asks :
      (disk : Disk) → HostsWithin device stage budget left (queue_at 0 old.window) (Asks here.flight)
      old.memory new.memory old.window new.window buffers here.runs disk
  pub tags : new.tags ≡ set old.tags tag (Some here)

-- Whichever chain it is, and whatever is left.
pub record LooksOnWithin (device : BlockDevice) (stage : Stage) (budget left : Budget) (old new : HostedQueue)
    : Type 0 where
  pub here : InFlight
  pub asks : AsksNextWithin device stage budget left old here new

-- No further chain asks within the budget: the service ends, or the budget is spent and a chain is on offer.
pub record StopsWithin (device : BlockDevice) (stage : Stage) (budget : Budget) (progress : Progress)
    (old new : HostedQueue) : Type 0 where
  pub stops :
      (disk : Disk) → HostsTo device stage budget (queue_at 0 old.window) (hosted_by progress)
      old.memory new.memory old.window new.window [] [] disk
  pub tags : new.tags ≡ old.tags

-- How the piece comes out, by whether a tag is free: where none is, the look is at its end.
abbrev pub PieceStops : Option ℕ → BlockDevice → Stage → Budget → Progress → HostedQueue → HostedQueue → Type 0
PieceStops None device stage budget progress old new = (progress ≡ came.Done) × (new ≡ old)
PieceStops (Some tag) device stage budget progress old new = StopsWithin device stage budget progress old new

-- From here on these chains ask within the budget, one after another, and then the piece is over. In a pause the queue
-- stands open.
abbrev pub LooksTo : BlockDevice → Stage → Budget → Progress → HostedQueue → List InFlight → HostedQueue → Type 0
LooksTo device stage budget progress old [] new =
    PieceStops (free_tag old.tags) device stage budget progress old new
LooksTo device stage budget progress old (here ∷ asked) new =
    (left : Budget) × (mid : HostedQueue) × AsksNextWithin device stage budget left old here mid
    × LooksTo device Next left progress mid asked new

-- from one state of the queue to another, whatever it asks for
pub record IsLookTo (device : BlockDevice) (stage : Stage) (budget : Budget) (progress : Progress)
    (old new : HostedQueue) : Type 0 where
  pub asked : List InFlight
  pub looks : LooksTo device stage budget progress old asked new

-- ---- a landing

-- The chain is given back, and its driver is notified where it wants to be; its tag is free again.
pub record IsGivenIn (tag : ℕ) (here : InFlight) (verdict : Verdict) (old new : HostedQueue) : Type 0 where
  pub completes : CompletesIn here.flight verdict old.memory new.memory old.window new.window
  pub tags : new.tags ≡ set old.tags tag None

-- What becomes of the chain in this tag, by whether the device may serve its queue: in a window that asks to
-- be reset nothing is written, since its driver can't count on what was in flight (2.1.2).
abbrev pub LandsBy : Option Queue → ℕ → InFlight → Verdict → HostedQueue → HostedQueue → Type 0
LandsBy None tag here verdict old new = new ≡ record old { tags = set old.tags tag None }
LandsBy (Some queue) tag here verdict old new = IsGivenIn tag here verdict old new

-- Such a chain is there.
pub record IsLanding (tag : ℕ) (verdict : Verdict) (old new : HostedQueue) : Type 0 where
  pub here : InFlight
  pub there : get_or old.tags tag None ≡ Some here
  pub lands : LandsBy (queue_at 0 old.window) tag here verdict old new

-- ---- a drop

-- What is in flight is given up: each tag is free, nothing is written, and the device asks to be reset, since its
-- driver can't count on what was in flight (2.1.2).
abbrev pub given_up : HostedQueue → HostedQueue
given_up q = record q { window = with_reset_asked q.window; tags = freed q.tags }

-- ---- what holds between two calls

-- What is in flight is held: of a queue that may be served it lies between the next used entry and the next
-- chain.
pub record AreHeld (capacity : ℕ) (h : HostedQueue) : Type 0 where
  pub each : All (TagIsHeld capacity h.memory) h.tags
  pub ahead : IfSome (queue_at 0 h.window) (λ queue. AreAhead queue (tokens_of h.tags))
