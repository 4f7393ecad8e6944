-- A service of a guest that stands still, of one round, is one service of a window.
use Rattle.std.proofs.Common.{◌≡◌, ℕ, Bool, false, Some, [], ◌∷◌, refl}
use Rattle.chain.specs.declared.budget.Budget.{Budget}
use Rattle.chain.specs.declared.budget.Progress.{Progress}
use Rattle.chain.specs.declared.fault.Fault.{Fault}
use Rattle.chain.specs.Service as chain
use Rattle.chain.specs.Service.{Device, IsService, Spent}
use Rattle.mmio_window.specs.declared.queue.Queue.{Queue}
use Rattle.mmio_window.specs.Queue.{queue_kind}
use Rattle.mmio_window.specs.Serving as still
use Rattle.mmio_window.specs.Soundness.{IsSound}
use Rattle.mmio_window.specs.Window.{WindowState, queue_at}
use Rattle.shared_memory.specs.Sightings.{Sightings, memory}
use Rattle.racing_service.specs.declared.stage.Stage.TheVariants.{First}
use Rattle.racing_service.specs.declared.service.Ending.{Ending}
use Rattle.racing_service.specs.declared.service.Ending.TheVariants.{Faulted, More, Settled}
use Rattle.racing_service.specs.Laws.{site_of}
use Rattle.racing_service.specs.Service.{AreRounds, EndsWith, IsRacingService, IsRound, Met, Round, Standing, standing_at}
use Rattle.racing_service.proofs.Rounds.{one_service, one_settled}
use Rattle.racing_window.specs.Queue.{racing_queue}
use Rattle.racing_window.specs.Serving.{ServesQueue, fault_of}
use Rattle.racing_window.proofs.Rings.{IsQueueSound, queue_stands_still}
use Rattle.racing_window.proofs.Sizes.{sound_queue}

module _ {State : Type 0} (device : Device State) where
  -- the first round settles the service
  settles : (ending : Ending) (most : ℕ) (a b : Standing Queue State) (wanted : Bool) (r : Round Queue State)
      → ending ≡ Settled → IsQueueSound (memory a.sightings) a.ring
      → (service : IsRacingService racing_queue device false First most a b ending wanted) → service.rounds ≡ r ∷ []
      → IsService queue_kind device (site_of a) (site_of b) Spent wanted
  settles Settled most a b wanted r is sound service only =
      one_settled queue_stands_still device most a b wanted r service sound only
  settles (Faulted fault) most a b wanted r is sound service only = cc
  settles More most a b wanted r is sound service only = cc

  -- or it ends by a fault
  breaks : (ending : Ending) (most : ℕ) (a b : Standing Queue State) (wanted : Bool) (fault : Fault)
      → ending ≡ Faulted fault → IsQueueSound (memory a.sightings) a.ring
      → (service : IsRacingService racing_queue device false First most a b ending wanted) → service.rounds ≡ []
      → IsService queue_kind device (site_of a) (site_of b) (chain.Faulted fault) wanted
  breaks Settled most a b wanted fault is sound service only = cc
  breaks (Faulted met) most a b wanted fault is sound service only =
      let same : met ≡ fault = cc in
      let none : AreRounds racing_queue device false First a [] service.at = rw only at service.serves in
      let ends : EndsWith racing_queue device false First (Met met) [] service.at b wanted = rw only at service.ends in
      let round : IsRound racing_queue device false First a (Met met) b ends.asked = rw none at ends.round in
      let one = (one_service queue_stands_still device (Met met) (chain.Faulted met) a b ends.asked refl sound round).service in
      rw (← same, ends.wanted_is) one
  breaks More most a b wanted fault is sound service only = cc

  -- what the window shows is what it shows of that service
  module _ (most q : ℕ) (budget : Budget) (queue : Queue) (progress : Progress) (old new : Sightings)
      (before after : WindowState) (s s' : State)
      (serves : ServesQueue device false most q budget queue progress old new before after s s')
      (sound : IsSound (memory old) before) (at : queue_at q before ≡ Some queue) where
    abbrev first : Standing Queue State
    first = standing_at old queue s budget

    abbrev behind : Standing Queue State
    behind = standing_at new serves.last s' serves.left

    shown : (ending : Ending) → serves.ending ≡ ending
        → IsService queue_kind device (site_of first) (site_of behind) (still.ending_of (fault_of ending)) serves.wanted
        → still.ServesQueue device q queue (still.ending_of (fault_of ending)) (memory old) (memory new) before after s s'
    shown ending is service = record {
      last = serves.last;
      wanted = serves.wanted;
      service = service;
      window = rw is at serves.window;
    }

    pub settled_once : (r : Round Queue State) → serves.ending ≡ Settled → serves.service.rounds ≡ r ∷ []
        → still.ServesQueue device q queue Spent (memory old) (memory new) before after s s'
    settled_once r is only =
        shown Settled is (settles serves.ending most first behind serves.wanted r is
        (sound_queue (memory old) before q queue sound at) serves.service only)

    pub broken_once : (fault : Fault) → serves.ending ≡ Faulted fault → serves.service.rounds ≡ []
        → still.ServesQueue device q queue (chain.Faulted fault) (memory old) (memory new) before after s s'
    broken_once fault is only =
        shown (Faulted fault) is (breaks serves.ending most first behind serves.wanted fault is
        (sound_queue (memory old) before q queue sound at) serves.service only)
