-- What is restored is as it was saved, and sound.
use Rattle.std.proofs.Common.{◌≡◌, ◌∙◌, ℕ, Bool, true, false, cond, Option, Some, None, refl, sym, ap, subst}
use Rattle.std.proofs.lemmas.Bool.{eqb-true}
use Rattle.std.specs.Option.{option_and_then, option_map}
use Rattle.guest_memory.specs.Memory.{Memory}
use Rattle.chain.specs.declared.setup.Setup.{Setup}
use Rattle.chain.specs.Setup.{new_ring}
use Rattle.chain.specs.declared.state.RingState.{RingState}
use Rattle.negotiation.specs.Negotiation.{NegotiationState, negotiated_of, standing}
use Rattle.negotiation.specs.Sets.{has, Has}
use Rattle.negotiation.specs.Status.{features_ok}
use Rattle.mmio_window.specs.declared.queue.Queue.{Queue}
use Rattle.mmio_window.specs.declared.queue.Queue.TheVariants.{Split, Packed}
use Rattle.mmio_window.specs.declared.queue_registers.QueueRegisters.{QueueRegisters}
use Rattle.mmio_window.specs.declared.saved.Reached.{Reached}
use Rattle.mmio_window.specs.declared.saved.SavedQueue.{SavedQueue}
use Rattle.mmio_window.specs.declared.saved.SavedWindow.{SavedWindow}
use Rattle.mmio_window.specs.Queue.{made_as}
use Rattle.mmio_window.specs.QueueRegisters.{ring_of}
use Rattle.mmio_window.specs.Saved.{queue_at_reached, queue_restored, registers_with, ring_reached, saved_queue, saved_window, served_to, window_restored}
use Rattle.mmio_window.specs.Soundness.{HasItsRing, IsRingOf}
use Rattle.mmio_window.specs.Window.{WindowState}
use Rattle.mmio_window.proofs.Rings.{LiesIn-same, is_made}

-- ---- a ring

-- a ring that is served so far was made as it was
made_by_test : (of : RingState → Queue) (ring : RingState) (place pending used_count ahead : ℕ)
    (reached : Bool) (to : Queue)
    → (kept : (r : RingState) → r.setup ≡ ring.setup → made_as (of r) ≡ made_as (of ring))
    → option_map of (cond reached
    (Some (record ring { place = place; pending = pending; used_count = used_count; ahead = ahead })) None) ≡ Some to
    → made_as to ≡ made_as (of ring)
made_by_test of ring place pending used_count ahead false to kept e = cc
made_by_test of ring place pending used_count ahead true to kept e =
    let served : RingState = record ring { place = place; pending = pending; used_count = used_count; ahead = ahead } in
    let same : of served ≡ to = cc in
    sym (ap made_as same) ∙ kept served refl

made_as-served_to : (reached : Reached) (ring to : Queue) → served_to reached ring ≡ Some to
    → made_as to ≡ made_as ring
made_as-served_to reached (Split ring) to e =
    made_by_test Split ring reached.place reached.pending reached.used_count reached.ahead _ to
    (λ r same. ap (λ (s : Setup). Split (new_ring s)) same) e
made_as-served_to reached (Packed ring) to e =
    made_by_test Packed ring reached.place reached.pending reached.used_count reached.ahead _ to
    (λ r same. ap (λ (s : Setup). Packed (new_ring s)) same) e

-- ---- a queue

-- a ring that was made anew and is served so far is the queue's
its_ring-served : (m : Memory) (n : NegotiationState) (saved : SavedQueue) (reached : Reached)
    (fresh : Option Queue) (ring : Queue)
    → Has n.status features_ok → ring_of m (negotiated_of n) (registers_with saved None) ≡ fresh
    → option_and_then (served_to reached) fresh ≡ Some ring
    → IsRingOf m n (registers_with saved (Some ring)) ring
its_ring-served m n saved reached None ring settled made e = cc
its_ring-served m n saved reached (Some fresh) ring settled made e =
    let is : made_as ring ≡ made_as fresh = made_as-served_to reached fresh ring e in
    let as_made = is_made m (negotiated_of n) (registers_with saved None) fresh made in
    record {
      settled = settled;
      made = made ∙ ap Some (sym (is ∙ as_made.fresh));
      lies = LiesIn-same m m fresh ring (record { base = refl; size = refl; gaps = refl }) is as_made.lies;
    }

its_ring-by_test : (m : Memory) (n : NegotiationState) (saved : SavedQueue) (reached : Reached)
    (stands : Bool) (ring : Queue)
    → has n.status features_ok ≡ stands
    → cond stands (option_and_then (served_to reached)
    (ring_of m (negotiated_of n) (registers_with saved None))) None ≡ Some ring
    → IsRingOf m n (registers_with saved (Some ring)) ring
its_ring-by_test m n saved reached false ring is e = cc
its_ring-by_test m n saved reached true ring is e =
    its_ring-served m n saved reached (ring_of m (negotiated_of n) (registers_with saved None)) ring
    (eqb-true _ _ is) refl e

registers-of_ring : (m : Memory) (n : NegotiationState) (saved : SavedQueue) (reached : Reached)
    (found : Option Queue) (registers : QueueRegisters)
    → ring_reached m n saved reached ≡ found
    → option_map (λ ring. registers_with saved (Some ring)) found ≡ Some registers
    → HasItsRing m n registers
registers-of_ring m n saved reached None registers is e = cc
registers-of_ring m n saved reached (Some ring) registers is e =
    let same : registers_with saved (Some ring) ≡ registers = cc in
    subst (HasItsRing m n) same (its_ring-by_test m n saved reached (has n.status features_ok) ring refl is)

registers-at : (m : Memory) (n : NegotiationState) (saved : SavedQueue) (reached : Option Reached)
    (registers : QueueRegisters)
    → queue_at_reached m n saved reached ≡ Some registers → HasItsRing m n registers
registers-at m n saved None registers e =
    let same : registers_with saved None ≡ registers = cc in
    subst (HasItsRing m n) same tt
registers-at m n saved (Some reached) registers e =
    registers-of_ring m n saved reached (ring_reached m n saved reached) registers refl e

-- a queue that is restored has its ring
pub HasItsRing-restored : (m : Memory) (n : NegotiationState) (saved : SavedQueue)
    (registers : QueueRegisters)
    → queue_restored m n saved ≡ Some registers → HasItsRing m n registers
HasItsRing-restored m n saved registers e = registers-at m n saved saved.reached registers e

-- ---- the window

-- what was saved of a window restores it, where it does so of its parts
pub window-back : (m : Memory) (w : WindowState) (from : SavedWindow) → from ≡ saved_window w
    → standing w.negotiation ≡ Some w.negotiation
    → queue_restored m w.negotiation (saved_queue w.queue_0) ≡ Some w.queue_0
    → queue_restored m w.negotiation (saved_queue w.queue_1) ≡ Some w.queue_1
    → window_restored w.kind m from ≡ Some w
window-back m w from is stands queue_0 queue_1 = rw (is, stands, queue_0, queue_1) refl
