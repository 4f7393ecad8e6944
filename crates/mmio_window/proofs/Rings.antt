-- What makes a ring, and which memories it lies in.
use Rattle.std.proofs.Common.{◌≡◌, ℕ, Bool, true, false, cond, Some, None, refl, sym, ap, subst}
use Rattle.guest_memory.specs.Memory.{Memory, SameRange}
use Rattle.chain.specs.declared.setup.Setup.{Setup}
use Rattle.chain.specs.Setup.{new_ring}
use Rattle.chain.specs.declared.state.RingState.{RingState}
use Rattle.chain.proofs.Setups.{LiesIn-from_SameRange, LiesIn-from_test}
use Rattle.negotiation.specs.Features.{ring_packed}
use Rattle.negotiation.specs.Sets.{has}
use Rattle.split_ring.specs.Ring as split
use Rattle.packed_ring.specs.Ring as packed
use Rattle.mmio_window.specs.declared.queue.Queue.{Queue}
use Rattle.mmio_window.specs.declared.queue.Queue.TheVariants.{Split, Packed}
use Rattle.mmio_window.specs.declared.queue_registers.QueueRegisters.{QueueRegisters}
use Rattle.mmio_window.specs.Queue.{LiesIn, made_as}
use Rattle.mmio_window.specs.QueueRegisters.{packed_ring_of, ring_of, setup_of, split_ring_of}

-- a ring that was made is as it was made, and lies in the memory
pub record IsMade (m : Memory) (ring : Queue) : Type 0 where
  pub fresh : made_as ring ≡ ring
  pub lies : LiesIn m ring

-- of a ring that is made where its test passes
made_by_test : (m : Memory) (fresh : Queue) (usable : Bool) (ring : Queue) → (usable ≡ true → IsMade m fresh)
    → cond usable (Some fresh) None ≡ Some ring → IsMade m ring
made_by_test m fresh false ring is_made made = cc
made_by_test m fresh true ring is_made made = let same : fresh ≡ ring = cc in
    subst (IsMade m) same (is_made refl)

-- of either layout: its areas lie in the memory where its test passes
module _ (m : Memory) (setup : Setup) (ring : Queue) where
  made_by_kind : (is_packed : Bool)
      → cond is_packed (packed_ring_of m setup) (split_ring_of m setup) ≡ Some ring → IsMade m ring
  made_by_kind true =
      made_by_test m (Packed (new_ring setup)) (packed.can_set_up m setup) ring
      (λ test. record { fresh = refl; lies = LiesIn-from_test m setup (packed.areas_of setup.size) _ test })
  made_by_kind false =
      made_by_test m (Split (new_ring setup)) (split.can_set_up m setup) ring
      (λ test. record { fresh = refl; lies = LiesIn-from_test m setup (split.areas_of setup.size) _ test })

pub is_made : (m : Memory) (features : ℕ) (registers : QueueRegisters) (ring : Queue)
    → ring_of m features registers ≡ Some ring → IsMade m ring
is_made m features registers ring made =
    made_by_kind m (setup_of features registers) ring (has features ring_packed) made

-- in a memory of the same range the same rings are made
pub ring_of-same : (m m' : Memory) (features : ℕ) (registers : QueueRegisters) → SameRange m m'
    → ring_of m' features registers ≡ ring_of m features registers
ring_of-same m m' features registers same = rw (same.base, same.size, same.gaps) refl

-- rings that were made alike have one setup
same_setup : (ring served : RingState) → new_ring served.setup ≡ new_ring ring.setup
    → ring.setup ≡ served.setup
same_setup ring served same = sym (ap (λ (r : RingState). r.setup) same)

-- a ring lies where another of its setup does, also once the memory's bytes have changed
pub LiesIn-same : (m m' : Memory) (ring served : Queue) → SameRange m m' → made_as served ≡ made_as ring
    → LiesIn m ring → LiesIn m' served
LiesIn-same m m' (Split ring) (Split served) same e lies =
    let is : ring.setup ≡ served.setup = same_setup ring served cc in
    LiesIn-from_SameRange m m' served.setup (split.areas_of served.setup.size) same
    (subst (split.LiesIn m) is lies)
LiesIn-same m m' (Packed ring) (Packed served) same e lies =
    let is : ring.setup ≡ served.setup = same_setup ring served cc in
    LiesIn-from_SameRange m m' served.setup (packed.areas_of served.setup.size) same
    (subst (packed.LiesIn m) is lies)
LiesIn-same m m' (Split ring) (Packed served) same e lies = cc
LiesIn-same m m' (Packed ring) (Split served) same e lies = cc
