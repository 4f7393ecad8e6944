-- A queue at rest: its device would find nothing to serve in it.
use Rattle.std.specs.Prelude.{◌≡◌, false, ◌&&◌, None, IfSome, ℕ}
use Rattle.guest_memory.specs.Memory.{Memory}
use Rattle.chain.specs.Service.{Device}
use Rattle.split_ring.specs.Ring.{avail_idx}
use Rattle.packed_ring.specs.Ring.{is_available}
use Rattle.mmio_window.specs.declared.queue.Queue.{Queue}
use Rattle.mmio_window.specs.declared.queue.Queue.TheVariants.{Packed, Split}
use Rattle.mmio_window.specs.Queue.{queue_kind}
use Rattle.mmio_window.specs.Window.{WindowState, queue_at}

-- A device in this state would open the queue without a fault, and take no chain: none is on offer, or it wants none.
pub record IsAtRest {State : Type 0} (device : Device State) (m : Memory) (queue : Queue) (state : State) : Type 0 where
  pub opens : queue_kind.opening_fault m queue ≡ None
  pub none : (device.takes state && queue_kind.offers m (queue_kind.opened m queue)) ≡ false

-- the queue of this number, where the device may serve it
abbrev pub WindowRests : {State : Type 0} → Device State → ℕ → Memory → WindowState → State → Type 0
WindowRests device q m w state = IfSome (queue_at q w) (λ queue. IsAtRest device m queue state)

-- What says what is on offer in a queue stands as it did: the available idx of a split ring (2.7.6). Of a packed ring the
-- descriptor at the next place isn't available (2.8.1).
abbrev pub OfferStands : Memory → Memory → Queue → Type 0
OfferStands old new (Split ring) = avail_idx new ring ≡ avail_idx old ring
OfferStands old new (Packed ring) = is_available new ring ≡ false

-- that of the queue of this number
abbrev pub WindowStands : ℕ → Memory → Memory → WindowState → Type 0
WindowStands q old new w = IfSome (queue_at q w) (OfferStands old new)
