-- How a piece of a slot's look ends: with the round that the racing disk ends its service with, or with the first one before a
-- request that it found behind its closing writes.
use Rattle.std.proofs.Common.{◌≡◌, ◌∙◌, ℕ, Bool, true, false, Option, Some, None, List, [], ◌∷◌, refl, sym}
use Rattle.guest_memory.specs.Memory.{Memory}
use Rattle.chain.specs.declared.budget.Progress.TheVariants as progress
use Rattle.chain.specs.declared.fault.Fault.{Fault}
use Rattle.chain.specs.declared.segment.Buffer.{Buffer}
use Rattle.chain.specs.Service.{Entry, Faulted}
use Rattle.mmio_window.specs.declared.queue.Queue.{Queue}
use Rattle.mmio_window.specs.declared.stage.Stage.{Stage}
use Rattle.mmio_window.specs.Queue.{queue_kind}
use Rattle.mmio_window.specs.Serving.{ending_of}
use Rattle.shared_memory.specs.Sightings.{memory}
use Rattle.block_device.specs.declared.device.BlockDevice.{BlockDevice}
use Rattle.block_device.specs.Hosting.{hosted_device}
use Rattle.racing_service.specs.declared.service.Ending.{Ending as RacingEnding}
use Rattle.racing_service.specs.declared.service.Ending.TheVariants as end
use Rattle.racing_service.specs.declared.stage.Stage.{Stage as RacingStage}
use Rattle.racing_service.specs.declared.stage.Stage.TheVariants.{Next, Again}
use Rattle.racing_service.specs.Laws.{site_of}
use Rattle.racing_service.specs.Service.{AreRounds, EndsWith, IsRacingService, IsRound, IsSettled, LeavesOne, Met, Round, RunsUpTo, ServesSome, progress_of}
use Rattle.racing_service.proofs.Rounds.{same_memory}
use Rattle.racing_window.specs.Queue.{racing_queue}
use Rattle.racing_window.specs.Serving.{fault_of}
use Rattle.racing_window.proofs.Rings.{queue_stands_still}
use Rattle.standing_guest.specs.Rest.{IsAtRest}
use Rattle.standing_guest.proofs.Beginning.{no_both, no_broken, no_busy, none_served, opened_none, or_false}
use Rattle.standing_guest.proofs.Coming.{ComesTo, Here, IsOpen, Spot}
use Rattle.standing_guest.proofs.Round.{IsOver, drained_over, round_over}

module _ (device : BlockDevice) (m : Memory) (piece : Stage) (old : Spot) where
  -- The piece ends with this round. What is said of all that comes behind it (`Whole`) holds where the queue is at rest then,
  -- or where it met a fault.
  pub record Ends (Whole : Here → Option Fault → Bool → Type 0) : Type 0 where
    pub first : Here
    pub met : Option Fault
    pub asked : Bool
    pub over : IsOver device m piece old first (ending_of met) asked
    pub whole : (met ≡ None → IsAtRest (hosted_device device) (memory first.sightings) first.ring tt)
        → Whole first met asked

  -- a chain that is left would be one on offer
  module _ {E : Type 0} (Refuses : Unit {0} → List ℕ → List Buffer → E → Type 0) (buffers : List Buffer) (entry : Entry)
      (why : E) where
    none_left : (between : List Here) (a at b : Here) → queue_kind.offers (memory a.sightings) a.ring ≡ false
        → ServesSome racing_queue (hosted_device device) false a between at
        → LeavesOne racing_queue (hosted_device device) false Refuses buffers entry why at b → ⊥
    none_left [] a at b none s l =
        let here : LeavesOne racing_queue (hosted_device device) false Refuses buffers entry why a b = rw s at l in
        no_both true (queue_kind.offers (memory a.sightings) a.ring) none refl
        (sym (queue_stands_still.told a.sightings here.taken a.ring true here.loads here.told))
    none_left (x ∷ between) a at b none s l = none_served (hosted_device device) a x none s.0

    none_behind : (a b : Here) → IsAtRest (hosted_device device) (memory a.sightings) a.ring tt
        → RunsUpTo racing_queue (hosted_device device) false Refuses Again buffers entry why a b → ⊥
    none_behind a b rest r =
        none_left r.serves.between r.opened r.serves.at b (opened_none (hosted_device device) a r.opened r.opens rest)
        r.serves.serves r.serves.leaves

    -- A look whose first round came to an end, and which found its request behind that.
    pub ends_before : (Whole : Here → Option Fault → Bool → Type 0) (stage : RacingStage) (now at b : Here)
        (x : Round Queue (Unit {0})) (rounds : List (Round Queue (Unit {0}))) → ComesTo device stage m piece old now
        → AreRounds racing_queue (hosted_device device) false stage now (x ∷ rounds) at
        → RunsUpTo racing_queue (hosted_device device) false Refuses Again buffers entry why at b → Ends Whole
    ends_before Whole stage now at b x [] c rounds up = record {
      first = x.after;
      met = None;
      asked = x.wanted;
      over = drained_over device m piece old stage now x.after x.wanted c rounds.0;
      whole = λ rest. absurd (none_behind x.after b (rest refl) (rw rounds.1 at up));
    }
    ends_before Whole stage now at b x (y ∷ more) c rounds up = record {
      first = x.after;
      met = None;
      asked = x.wanted;
      over = drained_over device m piece old stage now x.after x.wanted c rounds.0;
      whole = λ rest. absurd (no_busy (hosted_device device) x.after y.after y.wanted (rest refl) rounds.1.0);
    }

  -- ---- a service that finds no request, from a queue that stands open

  module _ (now b : Here) (wanted : Bool) (c : IsOpen device m piece old now) where
    -- all comes to what the round left
    abbrev pub IsAll : RacingEnding → Here → Option Fault → Bool → Type 0
    IsAll ending first met asked = (site_of b ≡ site_of first) × (fault_of ending ≡ met) × (wanted ≡ asked)

    settled_there : (x at : Here) (last : Queue) (rounds : List (Round Queue (Unit {0}))) → x.ring ≡ queue_kind.shut last
        → at ≡ x → IsSettled racing_queue (hosted_device device) false Next rounds at b wanted → site_of b ≡ site_of x
    settled_there x at last rounds shut is ends =
        let s : IsSettled racing_queue (hosted_device device) false Next rounds x b wanted = rw is at ends in
        let o = s.look.opened in
        let first = same_memory queue_stands_still (hosted_device device) x o s.look.opens.only in
        let then = same_memory queue_stands_still (hosted_device device) o s.looked s.look.finds.only in
        let ring : s.looked.ring ≡ queue_kind.opened (memory o.sightings) x.ring = s.look.finds.ring ∙ s.look.opens.ring in
        let back : queue_kind.shut (queue_kind.opened (memory o.sightings) x.ring) ≡ x.ring =
        rw shut (queue_stands_still.shut_opened (memory o.sightings) last) in
        rw (s.shut, then, first, ring, back, s.look.finds.only.state, s.look.opens.only.state) refl

    ends_settled : (rounds : List (Round Queue (Unit {0}))) (at : Here)
        → AreRounds racing_queue (hosted_device device) false Next now rounds at
        → IsSettled racing_queue (hosted_device device) false Next rounds at b wanted → Ends (IsAll end.Settled)
    ends_settled [] at r e = let no : Next ≡ Again = e.behind in cc
    ends_settled (x ∷ []) at r e =
        let over = drained_over device m piece old Next now x.after x.wanted c r.0 in
        record {
          first = x.after;
          met = None;
          asked = x.wanted;
          over = over;
          whole = λ rest. (
            settled_there x.after at over.last (x ∷ []) over.shut r.1 e,
            refl,
            e.wanted_is ∙ or_false x.wanted,
          );
        }
    ends_settled (x ∷ y ∷ rounds) at r e = record {
      first = x.after;
      met = None;
      asked = x.wanted;
      over = drained_over device m piece old Next now x.after x.wanted c r.0;
      whole = λ rest. absurd (no_busy (hosted_device device) x.after y.after y.wanted (rest refl) r.1.0);
    }

    ends_broken : (fault : Fault) (rounds : List (Round Queue (Unit {0}))) (at : Here)
        → AreRounds racing_queue (hosted_device device) false Next now rounds at
        → EndsWith racing_queue (hosted_device device) false Next (Met fault) rounds at b wanted
        → Ends (IsAll (end.Faulted fault))
    ends_broken fault [] at r e =
        let round : IsRound racing_queue (hosted_device device) false Next now (Met fault) b e.asked = rw r at e.round in
        record {
          first = b;
          met = Some fault;
          asked = e.asked;
          over = round_over device m piece old Next (Met fault) (Faulted fault) now b e.asked c refl round refl;
          whole = λ rest. (refl, refl, e.wanted_is);
        }
    ends_broken fault (x ∷ []) at r e =
        let over = drained_over device m piece old Next now x.after x.wanted c r.0 in
        let round : IsRound racing_queue (hosted_device device) false Again x.after (Met fault) b e.asked = rw r.1 at e.round in
        record {
          first = x.after;
          met = None;
          asked = x.wanted;
          over = over;
          whole = λ rest. absurd (no_broken (hosted_device device) fault x.after b e.asked over.sound (rest refl) round);
        }
    ends_broken fault (x ∷ y ∷ rounds) at r e = record {
      first = x.after;
      met = None;
      asked = x.wanted;
      over = drained_over device m piece old Next now x.after x.wanted c r.0;
      whole = λ rest. absurd (no_busy (hosted_device device) x.after y.after y.wanted (rest refl) r.1.0);
    }

    pub ends_all : (most : ℕ) (ending : RacingEnding) → progress_of ending ≡ progress.Done
        → IsRacingService racing_queue (hosted_device device) false Next most now b ending wanted → Ends (IsAll ending)
    ends_all most end.Settled done s = ends_settled s.rounds s.at s.serves s.ends
    ends_all most (end.Faulted fault) done s = ends_broken fault s.rounds s.at s.serves s.ends
    ends_all most end.More done s = cc
