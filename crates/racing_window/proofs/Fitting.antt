-- A sound window whose ready queues could be made ready over another memory is sound for that.
use Rattle.std.proofs.Common.{◌≡◌, ◌∙◌, Bool, true, false, cond, Option, Some, None, refl, sym, ap}
use Rattle.std.specs.Prelude.{◌&&◌, ◌||◌, IfSome, is_none, is_some}
use Rattle.std.specs.Option.{option_map}
use Rattle.guest_memory.specs.Memory.{Memory, SameRange}
use Rattle.chain.specs.Setup.{new_ring}
use Rattle.negotiation.specs.Features.{ring_packed}
use Rattle.negotiation.specs.Negotiation.{NegotiationState, negotiated_of}
use Rattle.negotiation.specs.Sets.{has}
use Rattle.negotiation.specs.Status.{features_ok}
use Rattle.split_ring.specs.Ring as split
use Rattle.packed_ring.specs.Ring as packed
use Rattle.mmio_window.specs.declared.queue.Queue.{Queue}
use Rattle.mmio_window.specs.declared.queue.Queue.TheVariants.{Split, Packed}
use Rattle.mmio_window.specs.declared.queue_registers.QueueRegisters.{QueueRegisters}
use Rattle.mmio_window.specs.declared.saved.SavedQueue.{SavedQueue}
use Rattle.mmio_window.specs.declared.saved.SavedWindow.{SavedWindow}
use Rattle.mmio_window.specs.Queue.{LiesIn, made_as}
use Rattle.mmio_window.specs.QueueRegisters.{ring_of, setup_of}
use Rattle.mmio_window.specs.Saved.{reached_of, registers_with, saved_queue, saved_window}
use Rattle.mmio_window.specs.Soundness.{IsRingOf, IsSound}
use Rattle.mmio_window.specs.Window.{WindowState}
use Rattle.mmio_window.proofs.Rings.{is_made, ring_of-same}
use Rattle.racing_window.specs.Memory.{is_made_ready, queue_fits, window_fits}

-- ---- one queue

-- of two rings that are made by tests the same is made again
made_again : (is_packed was_packed is_packed_again was_split is_split_again : Bool) (P S made : Queue)
    → cond is_packed (cond was_packed (Some P) None) (cond was_split (Some S) None) ≡ Some made
    → is_some (cond is_packed (cond is_packed_again (Some P) None) (cond is_split_again (Some S) None)) ≡ true
    → cond is_packed (cond is_packed_again (Some P) None) (cond is_split_again (Some S) None) ≡ Some made
made_again true true true was_split is_split_again P S made is again = is
made_again true true false was_split is_split_again P S made is again = absurd (cc again)
made_again true false is_packed_again was_split is_split_again P S made is again = absurd (cc is)
made_again false was_packed is_packed_again true true P S made is again = is
made_again false was_packed is_packed_again true false P S made is again = absurd (cc again)
made_again false was_packed is_packed_again false is_split_again P S made is again = absurd (cc is)

-- a ring lies where it was made
lies_as_made : (m : Memory) (queue : Queue) → LiesIn m (made_as queue) → LiesIn m queue
lies_as_made m (Split ring) lies = lies
lies_as_made m (Packed ring) lies = lies

-- the test whether a queue is made ready, where FEATURES_OK stands
ready_by_test : (settled : Bool) (ring : Option Queue) (registers : QueueRegisters) → registers.ring ≡ None
    → is_some (cond settled (record registers { ring = ring }) registers).ring ≡ true → is_some ring ≡ true
ready_by_test true ring registers none ready = ready
ready_by_test false ring registers none ready = absurd (cc (ready, none))

module _ (old new : Memory) (n : NegotiationState) (registers : QueueRegisters) where
  ring_again : (ring : Queue) → IsRingOf old n registers ring
      → is_made_ready new n (saved_queue registers) ≡ true → IsRingOf new n registers ring
  ring_again ring is ready =
      let features = negotiated_of n in
      let setup = setup_of features registers in
      let made : ring_of new features registers ≡ Some (made_as ring) =
      made_again (has features ring_packed) (packed.can_set_up old setup) (packed.can_set_up new setup)
      (split.can_set_up old setup) (split.can_set_up new setup) (Packed (new_ring setup)) (Split (new_ring setup))
      (made_as ring) is.made
      (ready_by_test (has n.status features_ok) (ring_of new features registers) (registers_with (saved_queue registers) None)
      refl ready) in
      record {
        settled = is.settled;
        made = made;
        lies = lies_as_made new ring (is_made new features registers (made_as ring) made).lies;
      }

  has_again : (ring : Option Queue) → IfSome ring (IsRingOf old n registers)
      → (is_none (option_map reached_of ring) || is_made_ready new n (saved_queue registers)) ≡ true
      → IfSome ring (IsRingOf new n registers)
  has_again None is fits = tt
  has_again (Some ring) is fits = ring_again ring is fits

-- ---- the window

both : (a b : Bool) → (a && b) ≡ true → (a ≡ true) × (b ≡ true)
both true b is = (refl, is)
both false b is = absurd (cc is)

pub sound_again : (old new : Memory) (w : WindowState) → window_fits new w ≡ true → IsSound old w → IsSound new w
sound_again old new w fits sound =
    let each = both (queue_fits new w.negotiation (saved_queue w.queue_0)) (queue_fits new w.negotiation (saved_queue w.queue_1))
    fits in
    record {
      queue_0 = has_again old new w.negotiation w.queue_0 w.queue_0.ring sound.queue_0 each.0;
      queue_1 = has_again old new w.negotiation w.queue_1 w.queue_1.ring sound.queue_1 each.1;
    }

-- by what is asked of each queue as it is saved
pub sound_by_tests : (old new : Memory) (w : WindowState) (n : NegotiationState) (saved : SavedWindow) (first second : Bool)
    → saved ≡ saved_window w → n ≡ w.negotiation → first ≡ queue_fits new n saved.queue_0 → second ≡ queue_fits new n saved.queue_1
    → first ≡ true → second ≡ true → IsSound old w → IsSound new w
sound_by_tests old new w n saved first second saved_is n_is first_is second_is one other sound =
    let zeroth : queue_fits new w.negotiation (saved_queue w.queue_0) ≡ true =
    sym (ap (λ (s : SavedWindow). queue_fits new w.negotiation s.queue_0) saved_is)
    ∙ sym (ap (λ (k : NegotiationState). queue_fits new k saved.queue_0) n_is) ∙ sym first_is ∙ one in
    let next : queue_fits new w.negotiation (saved_queue w.queue_1) ≡ true =
    sym (ap (λ (s : SavedWindow). queue_fits new w.negotiation s.queue_1) saved_is)
    ∙ sym (ap (λ (k : NegotiationState). queue_fits new k saved.queue_1) n_is) ∙ sym second_is ∙ other in
    sound_again old new w
    (ap (λ (fits : Bool). fits && queue_fits new w.negotiation (saved_queue w.queue_1)) zeroth ∙ next) sound

-- ---- another memory of the range

fits_alike-queue : (m m' : Memory) (n : NegotiationState) (queue : SavedQueue) → SameRange m m'
    → queue_fits m' n queue ≡ queue_fits m n queue
fits_alike-queue m m' n queue same =
    let registers = registers_with queue None in
    ap (λ (ring : Option Queue). is_none queue.reached
    || is_some (cond (has n.status features_ok) (record registers { ring = ring }) registers).ring)
    (ring_of-same m m' (negotiated_of n) registers same)

-- a window fits each memory of a range or none
pub fits_alike : (m m' : Memory) (w : WindowState) → SameRange m m' → window_fits m' w ≡ window_fits m w
fits_alike m m' w same =
    ap (λ (fits : Bool). fits && queue_fits m' w.negotiation (saved_queue w.queue_1))
    (fits_alike-queue m m' w.negotiation (saved_queue w.queue_0) same)
    ∙ ap (λ (fits : Bool). queue_fits m w.negotiation (saved_queue w.queue_0) && fits)
    (fits_alike-queue m m' w.negotiation (saved_queue w.queue_1) same)
