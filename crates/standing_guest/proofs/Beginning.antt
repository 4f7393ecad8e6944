-- A service of a queue that stands still begins with one service, and is no more than that where nothing is to be served behind it.
use Rattle.std.proofs.Common.{◌≡◌, ◌∙◌, ℕ, Bool, true, false, Option, Some, None, List, [], ◌∷◌, refl, sym, ap}
use Rattle.std.specs.Prelude.{◌&&◌, ◌||◌, ⊤}
use Rattle.chain.specs.declared.budget.Progress.TheVariants as progress
use Rattle.chain.specs.declared.fault.Fault.{Fault}
use Rattle.chain.specs.Service.{Device, IsService, Spent, Faulted}
use Rattle.mmio_window.specs.declared.queue.Queue.{Queue}
use Rattle.mmio_window.specs.Queue.{queue_kind}
use Rattle.mmio_window.specs.Serving.{ending_of}
use Rattle.shared_memory.specs.Sightings.{memory}
use Rattle.racing_service.specs.declared.stage.Stage.{Stage}
use Rattle.racing_service.specs.declared.stage.Stage.TheVariants.{First, Next, Again}
use Rattle.racing_service.specs.declared.service.Ending.{Ending}
use Rattle.racing_service.specs.declared.service.Ending.TheVariants as end
use Rattle.racing_service.specs.Laws.{site_of}
use Rattle.racing_service.specs.Service.{AreRounds, Drained, EndsBy, FindsFault, IsBusyRound, IsLook, IsOpened, IsRacingService, IsRound, Met, OnlyLoads, Round, ServesOne, ServesSome, Standing, Works, progress_of}
use Rattle.racing_service.proofs.Coming.{busy_is_round}
use Rattle.racing_service.proofs.Rounds.{again_is_first, one_service, settled_there}
use Rattle.chain_handler.proofs.Still.{one_still}
use Rattle.racing_window.specs.Queue.{racing_queue}
use Rattle.racing_window.specs.Serving.{fault_of}
use Rattle.racing_window.proofs.Rings.{IsQueueSound, queue_stands_still}
use Rattle.standing_guest.specs.Rest.{IsAtRest}
use Rattle.standing_guest.proofs.Closing.{IsJustClosed, idle_service}

pub no_both : (takes offers : Bool) → (takes && offers) ≡ false → takes ≡ true → offers ≡ true → ⊥
no_both true true none t o = let no : true ≡ false = none in cc
no_both true false none t o = let no : false ≡ true = o in cc
no_both false offers none t o = let no : false ≡ true = t in cc

pub or_false : (w : Bool) → (w || false) ≡ w
or_false true = refl
or_false false = refl

none_ready : (takes offers : Bool) → (takes ≡ true → false ≡ offers) → (takes && offers) ≡ false
none_ready true offers none = sym (none refl)
none_ready false offers none = refl

module _ {State : Type 0} (device : Device State) where
  same_there : (a b : Standing Queue State) → OnlyLoads racing_queue device false a b
      → memory b.sightings ≡ memory a.sightings
  same_there a b only = one_still a.sightings b.sightings only.loads

  -- where nothing is to be served no chain is
  pub none_served : (a b : Standing Queue State)
      → (device.takes a.state && queue_kind.offers (memory a.sightings) a.ring) ≡ false
      → ServesOne racing_queue device false a b → ⊥
  none_served a b none s =
      no_both (device.takes a.state) (queue_kind.offers (memory a.sightings) a.ring) none s.takes
      (sym (queue_stands_still.told a.sightings s.taken a.ring true s.loads s.told))

  -- behind an opening it is as where the service stood before
  pub opened_none : (a o : Standing Queue State) → IsOpened racing_queue device false Again a o
      → IsAtRest device (memory a.sightings) a.ring a.state
      → (device.takes o.state && queue_kind.offers (memory o.sightings) o.ring) ≡ false
  opened_none a o opens rest = rw (opens.only.state, opens.ring, same_there a o opens.only) rest.none

  pub no_busy : (a b : Standing Queue State) (wanted : Bool) → IsAtRest device (memory a.sightings) a.ring a.state
      → IsBusyRound racing_queue device false a b wanted → ⊥
  no_busy a b wanted rest r =
      let o = r.run.opened in
      none_served o r.run.serves.first (opened_none a o r.run.opens rest) r.run.serves.one

  no_fault_there : (fault : Fault) (a b : Standing Queue State) → IsQueueSound (memory a.sightings) a.ring
      → (device.takes a.state && queue_kind.offers (memory a.sightings) a.ring) ≡ false
      → FindsFault racing_queue device false fault a b → ⊥
  no_fault_there fault a b sound none f =
      no_both (device.takes a.state) (queue_kind.offers (memory a.sightings) a.ring) none f.takes
      (queue_stands_still.met a.sightings b.sightings a.ring fault sound f.only.loads f.faulty)

  no_serving : (fault : Fault) (between : List (Standing Queue State)) (a at b : Standing Queue State)
      → IsQueueSound (memory a.sightings) a.ring
      → (device.takes a.state && queue_kind.offers (memory a.sightings) a.ring) ≡ false
      → ServesSome racing_queue device false a between at → FindsFault racing_queue device false fault at b → ⊥
  no_serving fault [] a at b sound none s f = no_fault_there fault a b sound none (rw s at f)
  no_serving fault (x ∷ between) a at b sound none s f = none_served a x none s.0

  no_working : (opening : Option Fault) (fault : Fault) (a b : Standing Queue State)
      → IsQueueSound (memory a.sightings) a.ring → opening ≡ None
      → (device.takes a.state && queue_kind.offers (memory a.sightings) a.ring) ≡ false
      → Works racing_queue device false opening a (Met fault) b → ⊥
  no_working (Some met) fault a b sound opens none w = cc
  no_working None fault a b sound opens none w = no_serving fault w.between a w.at b sound none w.serves w.halts

  pub no_broken : (fault : Fault) (a b : Standing Queue State) (wanted : Bool) → IsQueueSound (memory a.sightings) a.ring
      → IsAtRest device (memory a.sightings) a.ring a.state
      → IsRound racing_queue device false Again a (Met fault) b wanted → ⊥
  no_broken fault a b wanted sound rest r =
      let o = r.run.opened in
      let same = same_there a o r.run.opens.only in
      let there : IsQueueSound (memory o.sightings) o.ring =
      rw (r.run.opens.ring, same) (queue_stands_still.sound_opened (memory a.sightings) (memory a.sightings) a.ring sound) in
      let opens : queue_kind.opening_fault (memory o.sightings) a.ring ≡ None = rw same rest.opens in
      no_working (queue_kind.opening_fault (memory o.sightings) a.ring) fault o r.last there opens
      (opened_none a o r.run.opens rest) r.run.works

  -- What a service begins with: one service of a guest that stands still, by this fault or none. It is all where nothing is to
  -- be served behind it, or where it met a fault.
  pub record Begins (a b : Standing Queue State) (ending : Ending) (wanted : Bool) : Type 0 where
    pub first : Standing Queue State
    pub met : Option Fault
    pub asked : Bool
    pub service : IsService queue_kind device (site_of a) (site_of first) (ending_of met) asked
    pub whole : (met ≡ None → IsAtRest device (memory first.sightings) first.ring first.state)
        → (site_of b ≡ site_of first) × (fault_of ending ≡ met) × (wanted ≡ asked)

  module _ (most : ℕ) (a b : Standing Queue State) (wanted : Bool) (sound : IsQueueSound (memory a.sightings) a.ring) where
    begins_settled : (rounds : List (Round Queue State)) (at : Standing Queue State)
        → AreRounds racing_queue device false First a rounds at
        → EndsBy racing_queue device false First end.Settled most rounds at b wanted → Begins a b end.Settled wanted
    begins_settled [] at r e = let no : First ≡ Again = e.behind in cc
    begins_settled (x ∷ []) at r e =
        let one = one_service queue_stands_still device Drained Spent a x.after x.wanted refl sound r.0 in
        let there : site_of b ≡ site_of x.after =
        settled_there queue_stands_still device (x ∷ []) a at b wanted r e ∙ ap site_of r.1 in
        record {
          first = x.after;
          met = None;
          asked = x.wanted;
          service = one.service;
          whole = λ rest. (there, refl, e.wanted_is ∙ or_false x.wanted);
        }
    begins_settled (x ∷ y ∷ rounds) at r e =
        let one = one_service queue_stands_still device Drained Spent a x.after x.wanted refl sound r.0 in
        record {
          first = x.after;
          met = None;
          asked = x.wanted;
          service = one.service;
          whole = λ rest. absurd (no_busy x.after y.after y.wanted (rest refl) r.1.0);
        }

    begins_broken : (fault : Fault) (rounds : List (Round Queue State)) (at : Standing Queue State)
        → AreRounds racing_queue device false First a rounds at
        → EndsBy racing_queue device false First (end.Faulted fault) most rounds at b wanted → Begins a b (end.Faulted fault) wanted
    begins_broken fault [] at r e =
        let round : IsRound racing_queue device false First a (Met fault) b e.asked = rw r at e.round in
        let one = one_service queue_stands_still device (Met fault) (Faulted fault) a b e.asked refl sound round in
        record {
          first = b;
          met = Some fault;
          asked = e.asked;
          service = one.service;
          whole = λ rest. (refl, refl, e.wanted_is);
        }
    begins_broken fault (x ∷ []) at r e =
        let one = one_service queue_stands_still device Drained Spent a x.after x.wanted refl sound r.0 in
        let round : IsRound racing_queue device false Again x.after (Met fault) b e.asked = rw r.1 at e.round in
        record {
          first = x.after;
          met = None;
          asked = x.wanted;
          service = one.service;
          whole = λ rest. absurd (no_broken fault x.after b e.asked one.sound (rest refl) round);
        }
    begins_broken fault (x ∷ y ∷ rounds) at r e =
        let one = one_service queue_stands_still device Drained Spent a x.after x.wanted refl sound r.0 in
        record {
          first = x.after;
          met = None;
          asked = x.wanted;
          service = one.service;
          whole = λ rest. absurd (no_busy x.after y.after y.wanted (rest refl) r.1.0);
        }

    pub begins : (ending : Ending) → progress_of ending ≡ progress.Done
        → IsRacingService racing_queue device false First most a b ending wanted → Begins a b ending wanted
    begins end.Settled done s = begins_settled s.rounds s.at s.serves s.ends
    begins (end.Faulted fault) done s = begins_broken fault s.rounds s.at s.serves s.ends
    begins end.More done s = cc

    -- ---- behind closing writes

    -- a service that finds nothing is one that the slot has once more
    idle_begins : IsJustClosed (memory a.sightings) a.ring → IsLook racing_queue device false Again a b
        → Begins a (record b { ring = queue_kind.shut b.ring }) end.Settled false
    idle_begins closed look =
        let m = memory a.sightings in
        let o = look.opened in
        let opened : memory o.sightings ≡ m = same_there a o look.opens.only in
        let seen : memory b.sightings ≡ memory o.sightings = same_there o b look.finds.only in
        let opens : queue_kind.opening_fault m a.ring ≡ None = rw opened at look.no_fault in
        let none = none_ready (device.takes o.state) (queue_kind.offers (memory o.sightings) o.ring)
        (λ takes. queue_stands_still.told o.sightings b.sightings o.ring false look.finds.only.loads
        (look.finds.none takes)) in
        let ring : b.ring ≡ queue_kind.opened (memory o.sightings) a.ring = look.finds.ring ∙ look.opens.ring in
        let back : queue_kind.shut (queue_kind.opened (memory o.sightings) a.ring) ≡ a.ring =
        rw closed.shut (queue_stands_still.shut_opened (memory o.sightings) closed.last) in
        record {
          first = a;
          met = None;
          asked = false;
          service = idle_service device m a.ring a.state closed
              (record { opens = opens; none = rw (look.opens.only.state, look.opens.ring, opened) at none });
          whole = λ rest. (
            rw (seen, opened, ring, back, look.finds.only.state, look.opens.only.state) refl,
            refl,
            refl,
          );
        }

  -- a service begins as a notification does, or behind closing writes
  abbrev pub IsBegun : Stage → Standing Queue State → Type 0
  IsBegun First a = ⊤
  IsBegun Next a = ⊥
  IsBegun Again a = IsJustClosed (memory a.sightings) a.ring

  module _ (most : ℕ) (a b : Standing Queue State) (wanted : Bool) (sound : IsQueueSound (memory a.sightings) a.ring) where
    -- behind a first round it is one that a notification begins
    as_first : (x : Round Queue State) (rounds : List (Round Queue State)) (at : Standing Queue State)
        → AreRounds racing_queue device false Again a (x ∷ rounds) at
        → AreRounds racing_queue device false First a (x ∷ rounds) at
    as_first x rounds at r = (
      again_is_first queue_stands_still device Drained a x.after x.wanted
          (busy_is_round racing_queue device false a x.after x.wanted r.0),
      r.1,
    )

    again_settled : IsJustClosed (memory a.sightings) a.ring → (rounds : List (Round Queue State)) (at : Standing Queue State)
        → AreRounds racing_queue device false Again a rounds at
        → EndsBy racing_queue device false Again end.Settled most rounds at b wanted → Begins a b end.Settled wanted
    again_settled closed [] at r e =
        let look : IsLook racing_queue device false Again a e.looked = rw r at e.look in
        rw (e.shut, e.wanted_is) (idle_begins most a e.looked wanted sound closed look)
    again_settled closed (x ∷ rounds) at r e =
        begins_settled most a b wanted sound (x ∷ rounds) at (as_first x rounds at r) (record {
          behind = refl;
          looked = e.looked;
          look = e.look;
          shut = e.shut;
          wanted_is = e.wanted_is;
        })

    again_broken : (fault : Fault) (rounds : List (Round Queue State)) (at : Standing Queue State)
        → AreRounds racing_queue device false Again a rounds at
        → EndsBy racing_queue device false Again (end.Faulted fault) most rounds at b wanted
        → Begins a b (end.Faulted fault) wanted
    again_broken fault [] at r e =
        begins_broken most a b wanted sound fault [] at r (record {
          asked = e.asked;
          round = again_is_first queue_stands_still device (Met fault) at b e.asked e.round;
          wanted_is = e.wanted_is;
        })
    again_broken fault (x ∷ rounds) at r e =
        begins_broken most a b wanted sound fault (x ∷ rounds) at (as_first x rounds at r)
        (record { asked = e.asked; round = e.round; wanted_is = e.wanted_is })

    pub begins_at : (stage : Stage) → IsBegun stage a → (ending : Ending) → progress_of ending ≡ progress.Done
        → IsRacingService racing_queue device false stage most a b ending wanted → Begins a b ending wanted
    begins_at First begun ending done s = begins most a b wanted sound ending done s
    begins_at Next begun ending done s = absurd begun
    begins_at Again begun end.Settled done s = again_settled begun s.rounds s.at s.serves s.ends
    begins_at Again begun (end.Faulted fault) done s = again_broken fault s.rounds s.at s.serves s.ends
    begins_at Again begun end.More done s = cc
