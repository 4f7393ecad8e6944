-- Looks in their course.
use Rattle.std.proofs.Common.{◌≡◌, ◌∙◌, ℕ, ◌+◌, ◌≤◌, Bool, true, false, Option, Some, None, List, [], ◌∷◌, ◌++◌, length, refl, sym, ap, subst, arith}
use Rattle.std.specs.Prelude.{◌||◌}
use Rattle.std.proofs.lemmas.List.{length_push}
use Rattle.chain.specs.declared.budget.Budget.{Budget}
use Rattle.chain.specs.Service.{Entry}
use Rattle.shared_memory.specs.Sightings.{Sightings}
use Rattle.block_device.specs.declared.device.BlockDevice.{BlockDevice}
use Rattle.block_device.specs.Hosting.{hosted_device}
use Rattle.racing_service.specs.declared.service.Ending.{Ending}
use Rattle.racing_service.specs.declared.stage.Stage.{Stage}
use Rattle.racing_service.specs.declared.stage.Stage.TheVariants.{Next}
use Rattle.racing_service.specs.Queue.{RacingKind}
use Rattle.racing_service.specs.Service.{IsClosing, IsRacingService}
use Rattle.racing_hosted_disk.specs.declared.look.LookEnding.TheVariants.{Served, Full, Limited}
use Rattle.racing_hosted_disk.specs.declared.look.LookLimits.{LookLimits}
use Rattle.racing_hosted_disk.specs.Looking.{AreLooks, HasLooked, Look, LooksOn, Place, any_wanted, place_at, stage_behind}
use Rattle.block_device.specs.Tags.{InFlight, free_tag}

module _ {Ring T : Type 0} (queues : RacingKind Ring) (entry_of : T → Entry) (IsTaken : Ring → T → Type 0)
    (device : BlockDevice) (races : Bool) (limits : LookLimits) (stable : Bool) where
  -- So many looks have each found a request, from this stage on, and the next one begins there.
  pub record IsLooking (stage here : Stage) (start now : Place Ring T) (count : ℕ) (wanted : Bool) : Type 0 where
    pub looks : List (Look Ring T)
    pub many : length looks ≡ count
    pub are : AreLooks queues entry_of IsTaken device races limits stable stage start looks now
    pub here_is : here ≡ stage_behind stage looks
    pub wanted_is : wanted ≡ any_wanted looks

  push : (stage : Stage) (a b : Place Ring T) (looks : List (Look Ring T)) (l : Look Ring T)
      → AreLooks queues entry_of IsTaken device races limits stable stage a looks b
      → LooksOn queues entry_of IsTaken device races (stage_behind stage looks) limits.rounds stable l.asks b l.after l.wanted
      → AreLooks queues entry_of IsTaken device races limits stable stage a (looks ++ l ∷ []) l.after
  push stage a b [] l are on =
      let one : LooksOn queues entry_of IsTaken device races stage limits.rounds stable l.asks a l.after l.wanted =
      subst (λ (x : Place Ring T). LooksOn queues entry_of IsTaken device races stage limits.rounds stable l.asks x l.after
      l.wanted) are on in (one, refl)
  push stage a b (x ∷ []) l are on = (are.0, push Next x.after b [] l are.1 on)
  push stage a b (x ∷ y ∷ looks) l are on = (are.0, push Next x.after b (y ∷ looks) l are.1 on)

  behind_push : (stage : Stage) (looks : List (Look Ring T)) (l : Look Ring T)
      → Next ≡ stage_behind stage (looks ++ l ∷ [])
  behind_push stage [] l = refl
  behind_push stage (x ∷ looks) l = refl

  any_push : (looks : List (Look Ring T)) (l : Look Ring T) → any_wanted (looks ++ l ∷ []) ≡ (any_wanted looks || l.wanted)
  any_push [] l = one l.wanted
    where
      one : (b : Bool) → (b || false) ≡ (false || b)
      one true = refl
      one false = refl
  any_push (x ∷ looks) l = ap (λ (b : Bool). x.wanted || b) (any_push looks l) ∙ regroup x.wanted (any_wanted looks) l.wanted
    where
      regroup : (a b c : Bool) → (a || (b || c)) ≡ ((a || b) || c)
      regroup true b c = refl
      regroup false b c = refl

  pub looks_on : (stage here : Stage) (start now after : Place Ring T) (count : ℕ) (wanted more asked : Bool)
      (asks : Option (InFlight T)) → IsLooking stage here start now count wanted
      → LooksOn queues entry_of IsTaken device races here limits.rounds stable asks now after asked
      → more ≡ (wanted || asked) → IsLooking stage Next start after (count + 1) more
  looks_on stage here start now after count wanted more asked asks looking on is =
      let l : Look Ring T = record { asks = asks; wanted = asked; after = after } in
      record {
        looks = looking.looks ++ l ∷ [];
        many = omega (arith, length_push looking.looks l, looking.many);
        are = push stage start now looking.looks l looking.are (rw looking.here_is at on);
        here_is = behind_push stage looking.looks l;
        wanted_is = is ∙ ap (λ (b : Bool). b || asked) looking.wanted_is ∙ sym (any_push looking.looks l);
      }

  module _ (stage here : Stage) (start : Place Ring T) (now : Sightings) (ring : Ring) (left : Budget)
      (tags : List (Option (InFlight T))) (count : ℕ) (wanted : Bool)
      (looking : IsLooking stage here start (place_at now ring left tags) count wanted) where
    pub looks_full : count ≤ limits.looks → free_tag tags ≡ None
        → HasLooked queues entry_of IsTaken device races limits stable stage start now ring tags Full wanted
    looks_full few full = record {
      left = left;
      serves = record {
        looks = looking.looks;
        few = omega (arith, looking.many, few);
        at = place_at now ring left tags;
        are = looking.are;
        ends = record { full = full; stands = refl; wanted_is = looking.wanted_is };
      };
    }

    pub looks_limited : (new : Sightings) (after : Ring) (more asked : Bool) → count ≡ limits.looks
        → IsClosing queues (hosted_device device) races (place_at now ring left tags).service
        (place_at new after left tags).service asked → more ≡ (wanted || asked)
        → HasLooked queues entry_of IsTaken device races limits stable stage start new after tags Limited more
    looks_limited new after more asked all closes is = record {
      left = left;
      serves = record {
        looks = looking.looks;
        few = omega (arith, looking.many, all);
        at = place_at now ring left tags;
        are = looking.are;
        ends = record {
          all = looking.many ∙ all;
          asked = asked;
          closes = closes;
          tags = refl;
          wanted_is = is ∙ ap (λ (b : Bool). b || asked) looking.wanted_is;
        };
      };
    }

    pub looks_served : (i : ℕ) (new : Sightings) (after : Ring) (rest : Budget) (same : List (Option (InFlight T)))
        (ending : Ending) (more asked : Bool) → count ≤ limits.looks → free_tag tags ≡ Some i
        → IsRacingService queues (hosted_device device) races here limits.rounds (place_at now ring left tags).service
        (place_at new after rest same).service ending asked
        → same ≡ tags → more ≡ (wanted || asked)
        → HasLooked queues entry_of IsTaken device races limits stable stage start new after same (Served ending) more
    looks_served i new after rest same ending more asked few free service unchanged is = record {
      left = rest;
      serves = record {
        looks = looking.looks;
        few = omega (arith, looking.many, few);
        at = place_at now ring left tags;
        are = looking.are;
        ends = record {
          tag = i;
          free = free;
          asked = asked;
          service = rw looking.here_is at service;
          tags = unchanged;
          wanted_is = is ∙ ap (λ (b : Bool). b || asked) looking.wanted_is;
        };
      };
    }
