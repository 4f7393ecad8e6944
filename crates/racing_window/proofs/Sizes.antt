-- The queue of a sound window lies in the memory, and has a descriptor.
use Rattle.std.proofs.Common.{◌≡◌, ℕ, zero, suc, ◌<◌, Bool, true, false, cond, Option, Some, None, refl, subst, arith}
use lib.Count.{ones}
use Rattle.std.specs.Prelude.{◌&&◌}
use Rattle.std.specs.Option.{option_and_then}
use Rattle.guest_memory.specs.Memory.{Memory}
use Rattle.chain.specs.declared.setup.Setup.{Setup}
use Rattle.chain.specs.Setup.{new_ring}
use Rattle.negotiation.specs.Features.{ring_packed}
use Rattle.negotiation.specs.Negotiation.{is_live, negotiated_of}
use Rattle.negotiation.specs.Sets.{has}
use Rattle.split_ring.specs.Ring as split
use Rattle.packed_ring.specs.Ring as packed
use Rattle.mmio_window.specs.declared.queue.Queue.{Queue}
use Rattle.mmio_window.specs.declared.queue.Queue.TheVariants.{Split, Packed}
use Rattle.mmio_window.specs.declared.queue_registers.QueueRegisters.{QueueRegisters}
use Rattle.mmio_window.specs.Queue.{LiesIn, made_as}
use Rattle.mmio_window.specs.QueueRegisters.{packed_ring_of, setup_of, split_ring_of}
use Rattle.mmio_window.specs.Soundness.{IsRingOf, IsSound}
use Rattle.mmio_window.specs.Window.{WindowState, queue_at, registers_of}
use Rattle.mmio_window.proofs.Soundness.{ready_queue_is_its_ring}
use Rattle.racing_window.specs.Laws.{size_of}
use Rattle.racing_window.proofs.Rings.{IsQueueSound}

-- a size that passes its layout's test
split_some : (n : ℕ) (rest : Bool) → (split.is_queue_size n && rest) ≡ true → 0 < n
unfolding ones
split_some zero rest test = let no : false ≡ true = test in cc
split_some (suc n) rest test = omega arith

packed_some : (n : ℕ) (rest : Bool) → (packed.is_queue_size n && rest) ≡ true → 0 < n
packed_some zero rest test = let no : false ≡ true = test in cc
packed_some (suc n) rest test = omega arith

-- how far a queue is served doesn't change its size
size_made : (queue : Queue) → 0 < size_of (made_as queue) → 0 < size_of queue
size_made (Split ring) some = some
size_made (Packed ring) some = some

made_by_test : (usable : Bool) (fresh queue : Queue) → (usable ≡ true → 0 < size_of fresh)
    → cond usable (Some fresh) None ≡ Some (made_as queue) → 0 < size_of queue
made_by_test false fresh queue some made = cc
made_by_test true fresh queue some made =
    let same : fresh ≡ made_as queue = cc in
    size_made queue (subst (λ (q : Queue). 0 < size_of q) same (some refl))

module _ (m : Memory) (setup : Setup) (queue : Queue) where
  made_by_kind : (is_packed : Bool)
      → cond is_packed (packed_ring_of m setup) (split_ring_of m setup) ≡ Some (made_as queue) → 0 < size_of queue
  made_by_kind true = made_by_test (packed.can_set_up m setup) (Packed (new_ring setup)) queue (packed_some setup.size _)
  made_by_kind false = made_by_test (split.can_set_up m setup) (Split (new_ring setup)) queue (split_some setup.size _)

-- a ring that lies in a memory, and has a descriptor
pub is_sound : (m : Memory) (queue : Queue) → LiesIn m queue → 0 < size_of queue → IsQueueSound m queue
is_sound m (Split ring) lies some = record { lies = lies; some = some }
is_sound m (Packed ring) lies some = record { some = some }

its_ring : (m : Memory) (w : WindowState) (registers : QueueRegisters) (queue : Queue)
    → IsRingOf m w.negotiation registers queue → IsQueueSound m queue
its_ring m w registers queue r =
    is_sound m queue r.lies
    (made_by_kind m (setup_of (negotiated_of w.negotiation) registers) queue
    (has (negotiated_of w.negotiation) ring_packed) r.made)

by_cases : (m : Memory) (w : WindowState) (q : ℕ) (live : Bool) (found : Option QueueRegisters) (queue : Queue) → IsSound m w
    → registers_of q w ≡ found → cond live (option_and_then (λ registers. registers.ring) found) None ≡ Some queue
    → IsQueueSound m queue
by_cases m w q false found queue sound e is = cc
by_cases m w q true None queue sound e is = cc
by_cases m w q true (Some registers) queue sound e is =
    its_ring m w registers queue (ready_queue_is_its_ring m w q registers queue sound e is)

pub sound_queue : (m : Memory) (w : WindowState) (q : ℕ) (queue : Queue) → IsSound m w → queue_at q w ≡ Some queue
    → IsQueueSound m queue
sound_queue m w q queue sound is = by_cases m w q (is_live w.negotiation) (registers_of q w) queue sound refl is
