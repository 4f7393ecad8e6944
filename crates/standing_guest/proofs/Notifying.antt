-- A notification of a queue of a window that stands still begins as one of mmio_window's, by whichever device does the same.
use Rattle.std.proofs.Common.{◌≡◌, ◌∙◌, ℕ, Bool, true, false, Option, Some, None, refl, sym, ap, subst}
use Rattle.std.specs.Prelude.{if◌then◌else◌, IfSome}
use Rattle.std.specs.Option.{option_and_then}
use Rattle.guest_memory.specs.Memory.{Memory}
use Rattle.chain.specs.declared.budget.Budget.{Budget}
use Rattle.chain.specs.declared.budget.Progress.TheVariants as progress
use Rattle.chain.specs.declared.fault.Fault.{Fault}
use Rattle.chain.specs.Service.{Device, Site}
use Rattle.negotiation.specs.Negotiation.{is_live}
use Rattle.mmio_window.specs.declared.device_kind.DeviceKind.{DeviceKind}
use Rattle.mmio_window.specs.declared.device_kind.DeviceKind.TheVariants.{Block, Console}
use Rattle.mmio_window.specs.declared.queue.Queue.{Queue}
use Rattle.mmio_window.specs.declared.queue_registers.QueueRegisters.{QueueRegisters}
use Rattle.mmio_window.specs.DeviceKind.{queue_of}
use Rattle.mmio_window.specs.Queue.{queue_kind}
use Rattle.mmio_window.specs.Serving.{Notified, after_service, ending_of, site_at}
use Rattle.mmio_window.specs.Soundness.{IsSound}
use Rattle.mmio_window.specs.Window.{WindowState, queue_at, registers_in, with_ring, with_used_interrupt}
use Rattle.mmio_window.proofs.Pieces.{queue_stands_open}
use Rattle.shared_memory.specs.Sightings.{Sightings, memory}
use Rattle.racing_service.specs.declared.service.Ending.{Ending}
use Rattle.racing_service.specs.Service.{standing_at}
use Rattle.racing_window.specs.Serving as racing
use Rattle.racing_window.specs.Serving.{fault_of}
use Rattle.racing_window.proofs.Sizes.{sound_queue}
use Rattle.standing_guest.specs.Rest.{IsAtRest, OfferStands, WindowRests, WindowStands}
use Rattle.standing_guest.proofs.Resting.{rest_behind}
use Rattle.standing_guest.proofs.Beginning.{Begins, begins}
use Rattle.standing_guest.proofs.Simulating.{Simulates, service_too}

-- an interrupt leaves a queue
abbrev pub IsLeftByInterrupt : ℕ → Type 0
IsLeftByInterrupt q = (w : WindowState) → queue_at q (with_used_interrupt w) ≡ queue_at q w

pub first_is_left : IsLeftByInterrupt 0
first_is_left w = refl

second_registers : (kind : DeviceKind) (w : WindowState)
    → registers_in (queue_of kind 1) (with_used_interrupt w) ≡ registers_in (queue_of kind 1) w
second_registers Block w = refl
second_registers Console w = refl
second_registers _ w = refl

pub second_is_left : IsLeftByInterrupt 1
second_is_left w =
    ap (λ (found : Option QueueRegisters).
    if is_live w.negotiation then option_and_then (λ registers. registers.ring) found else None) (second_registers w.kind w)

-- the queue stands in the window as a service without a fault left it
pub rests_there : (q : ℕ) → IsLeftByInterrupt q → (w : WindowState) (queue last : Queue) (wanted : Bool) → queue_at q w ≡ Some queue
    → queue_at q (if wanted then with_used_interrupt (with_ring q w last) else with_ring q w last) ≡ Some last
rests_there q plain w queue last true at = plain (with_ring q w last) ∙ queue_stands_open q w queue last at
rests_there q plain w queue last false at = queue_stands_open q w queue last at

pub if_some : {X : Type 0} (P : X → Type 0) (found : Option X) (x : X) → found ≡ Some x → IfSome found P → P x
if_some P None x is h = cc
if_some P (Some y) x is h = let same : y ≡ x = cc in subst P same h

-- what is said of the queue that the window shows behind a service is said of it as the service left it, where it met no fault
pub without_fault : (q : ℕ) → IsLeftByInterrupt q → (w : WindowState) (queue last : Queue) (P : Queue → Type 0)
    (met : Option Fault) (wanted : Bool) → queue_at q w ≡ Some queue → met ≡ None
    → IfSome (queue_at q (after_service (ending_of met) wanted (with_ring q w last))) P → P last
without_fault q plain w queue last P None wanted at met says = if_some P _ last (rests_there q plain w queue last wanted at) says
without_fault q plain w queue last P (Some fault) wanted at met says = cc

-- ---- the same of another device

module _ {S T : Type 0} (device : Device S) (other : Device T) (Alike : S → T → Type 0)
    (is : Simulates device other Alike) where
  pub record AlsoNotified (q : ℕ) (found : Option Queue) (met : Option Fault) (old new : Memory)
      (before after : WindowState) (s' : S) (t : T) : Type 0 where
    pub state : T
    pub notified : Notified other q found (ending_of met) old new before after t state
    pub alike : Alike s' state

  pub notified_too : (met : Option Fault) (q : ℕ) (found : Option Queue) (old new : Memory) (before after : WindowState)
      (s s' : S) (t : T) → Alike s t → Notified device q found (ending_of met) old new before after s s'
      → AlsoNotified q found met old new before after s' t
  notified_too met q None old new before after s s' t alike n = record {
    state = t;
    notified = (n.0, record { memory = n.1.memory; window = n.1.window; state = refl });
    alike = subst (λ (x : S). Alike x t) (sym n.1.state) alike;
  }
  notified_too met q (Some queue) old new before after s s' t alike n =
      let also = service_too queue_kind device other Alike is met (site_at old queue s) (site_at new n.last s') n.wanted t
      alike n.service in
      record {
        state = also.state;
        notified = record { last = n.last; wanted = n.wanted; service = also.service; window = n.window };
        alike = also.alike;
      }

-- ---- what a call begins with

module _ {State : Type 0} (device : Device State) where
  -- A notification of a guest that stands still, which ends by this fault or none. It is all where the queue rests behind it.
  pub record BeginsNotified (q : ℕ) (old new : Memory) (before after : WindowState) (s s' : State) : Type 0 where
    pub memory : Memory
    pub window : WindowState
    pub state : State
    pub met : Option Fault
    pub notified : Notified device q (queue_at q before) (ending_of met) old memory before window s state
    pub whole : WindowRests device q memory window state → (new ≡ memory) × (after ≡ window) × (s' ≡ state)
    pub stands : WindowStands q old memory window → (new ≡ memory) × (after ≡ window) × (s' ≡ state)

  module _ (most q : ℕ) (plain : IsLeftByInterrupt q) (budget : Budget) (old new : Sightings)
      (before after : WindowState) (s s' : State) (sound : IsSound (memory old) before) where
    pub by_service : (queue last : Queue) (left : Budget) (ending : Ending) (wanted : Bool) → queue_at q before ≡ Some queue
        → after ≡ after_service (ending_of (fault_of ending)) wanted (with_ring q before last)
        → (b : Begins device (standing_at old queue s budget) (standing_at new last s' left) ending wanted)
        → BeginsNotified q (memory old) (memory new) before after s s'
    by_service queue last left ending wanted at shown b =
        let first = b.first in
        let window = after_service (ending_of b.met) b.asked (with_ring q before first.ring) in
        record {
          memory = memory first.sightings;
          window = window;
          state = first.state;
          met = b.met;
          notified = rw at (record { last = first.ring; wanted = b.asked; service = b.service; window = refl });
          whole = λ rests. all shown b (λ met. without_fault q plain before queue first.ring
              (λ queue. IsAtRest device (memory first.sightings) queue first.state) b.met b.asked at met rests);
          stands = λ stands. all shown b (λ met. rest_behind device (memory old) (memory first.sightings) queue first.ring s
              first.state b.asked (rw met at b.service)
              (without_fault q plain before queue first.ring (OfferStands (memory old) (memory first.sightings)) b.met b.asked
              at met stands));
        }
      where
        all : after ≡ after_service (ending_of (fault_of ending)) wanted (with_ring q before last)
            → (b : Begins device (standing_at old queue s budget) (standing_at new last s' left) ending wanted)
            → (b.met ≡ None → IsAtRest device (memory b.first.sightings) b.first.ring b.first.state)
            → (memory new ≡ memory b.first.sightings)
            × (after ≡ after_service (ending_of b.met) b.asked (with_ring q before b.first.ring)) × (s' ≡ b.first.state)
        all shown b rest =
            let whole = b.whole rest in (
              ap (λ (site : Site Queue State). site.memory) whole.0,
              shown ∙ rw (whole.1, whole.2, ap (λ (site : Site Queue State). site.ring) whole.0) refl,
              ap (λ (site : Site Queue State). site.state) whole.0,
            )

    begins_found : (found : Option Queue) → queue_at q before ≡ found
        → racing.Notified device false most q budget found progress.Done old new before after s s'
        → BeginsNotified q (memory old) (memory new) before after s s'
    begins_found None at n =
        let nothing = n.1 in
        record {
          memory = memory old;
          window = before;
          state = s;
          met = None;
          notified = rw at ((refl, record { memory = refl; window = refl; state = refl }));
          whole = λ rests. (ap memory nothing.memory, nothing.window, nothing.state);
          stands = λ stands. (ap memory nothing.memory, nothing.window, nothing.state);
        }
    begins_found (Some queue) at n =
        by_service queue n.last n.left n.ending n.wanted at n.window
        (begins device most (standing_at old queue s budget) (standing_at new n.last s' n.left) n.wanted
        (sound_queue (memory old) before q queue sound at) n.ending (sym n.progress_is) n.service)

    pub begins_notified :
        racing.Notified device false most q budget (queue_at q before) progress.Done old new before after s s'
        → BeginsNotified q (memory old) (memory new) before after s s'
    begins_notified n = begins_found (queue_at q before) refl n
