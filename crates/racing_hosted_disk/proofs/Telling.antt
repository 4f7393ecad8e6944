-- What the host says comes to what its definition says.
use Rattle.std.proofs.Common.{◌≡◌, ◌∙◌, ℕ, ◌≤◌, Bool, true, false, Option, Some, None, List, [], ◌∷◌, get_or, set, refl, sym, ap, arith}
use Rattle.std.specs.Prelude.{All, IfNone, IfSome, ◌||◌, sum_by}
use Rattle.std.proofs.lemmas.List.{set-get_or}
use Rattle.std.proofs.lemmas.List.Sums.{sum_by-set}
use Rattle.std.proofs.lemmas.List.Elements.{All-cons, All-nil, All-set}
use Rattle.guest_memory.specs.Memory.{Memory}
use Rattle.chain.specs.Service.{Entry}
use Rattle.shared_memory.specs.Sightings.{Sightings}
use Rattle.block_device.specs.declared.operation.HostEvent.{HostEvent}
use Rattle.block_device.specs.declared.operation.HostEvent.TheVariants.{Complete, Drop, Hold, Release}
use Rattle.block_device.specs.declared.operation.Verdict.{Verdict}
use Rattle.racing_service.specs.Flights.{AreAhead, TagFits, tag_places}
use Rattle.racing_service.specs.declared.stage.Stage.{Stage}
use Rattle.racing_service.specs.declared.stage.Stage.TheVariants.{First, Again}
use Rattle.racing_service.specs.Queue.{RacingKind}
use Rattle.racing_hosted_disk.specs.declared.look.LookEnding.{LookEnding}
use Rattle.racing_hosted_disk.specs.declared.look.LookEnding.TheVariants.{Idle}
use Rattle.racing_hosted_disk.specs.declared.look.LookLimits.{LookLimits}
use Rattle.racing_hosted_disk.specs.declared.look.Served as outcome
use Rattle.racing_hosted_disk.specs.Disk.{HoldsFlights, RacingHostedDisk, fresh_disk}
use Rattle.racing_hosted_disk.specs.Looking.{HasLooked, LooksAtQueue, idle, place_at}
use Rattle.block_device.specs.Tags.{InFlight, TagIsHeld, freed, is_any, tokens_of}
use Rattle.racing_hosted_disk.specs.Told.{DoesAsTold, Lands, told_unserved}
use Rattle.block_device.proofs.Freeing.{none_freed, none_in_flight, some_within, tokens_set}
use Rattle.block_device.proofs.Holding.{none_held}

-- ---- where nothing is in flight all is held

module _ {Ring Token : Type 0} (entry_of : Token → Entry) (Fits : Ring → Token → Type 0) (ahead_of : Ring → ℕ) where
  none_fit : (queue : Ring) (tags : List (Option (InFlight Token))) → is_any tags ≡ false
      → All (TagFits Fits queue) (tokens_of tags)
  none_fit queue [] none = All-nil (TagFits Fits queue)
  none_fit queue (None ∷ tags) none =
      All-cons (TagFits Fits queue) None (tokens_of tags) tt (none_fit queue tags none)
  none_fit queue (Some here ∷ tags) none = absurd (cc none)

  no_places : (tags : List (Option (InFlight Token))) → is_any tags ≡ false
      → sum_by (tag_places entry_of) (tokens_of tags) ≡ 0
  no_places [] none = refl
  no_places (None ∷ tags) none = no_places tags none
  no_places (Some here ∷ tags) none = absurd (cc none)

  pub none_ahead : (queue : Ring) (tags : List (Option (InFlight Token))) → is_any tags ≡ false
      → AreAhead entry_of Fits ahead_of queue (tokens_of tags)
  none_ahead queue tags none = record {
    each = none_fit queue tags none;
    places = let zero = no_places tags none in omega (arith, zero);
  }

  idle_holds : (m : Memory) (queue : Ring) (disk : RacingHostedDisk Token) → is_any disk.tags ≡ false
      → HoldsFlights entry_of Fits ahead_of m queue disk
  idle_holds m queue disk none = record {
    each = none_held disk.device.extent.count m disk.tags none;
    ahead = none_ahead queue disk.tags none;
  }

  pub freed_holds : (m : Memory) (queue : Ring) (disk new : RacingHostedDisk Token)
      → new ≡ record disk { tags = freed disk.tags } → HoldsFlights entry_of Fits ahead_of m queue new
  freed_holds m queue disk new is =
      rw is (idle_holds m queue (record disk { tags = freed disk.tags }) (none_freed disk.tags))

  pub fresh_holds : (sectors depth : ℕ) (read_only : Bool) (identity : List ℕ) (m : Memory) (queue : Ring)
      → HoldsFlights entry_of Fits ahead_of m queue (fresh_disk Token sectors read_only identity depth)
  fresh_holds sectors depth read_only identity m queue =
      idle_holds m queue (fresh_disk Token sectors read_only identity depth) (none_in_flight _ depth)

  pub dropped_holds : (m : Memory) (queue : Ring) (disk new : RacingHostedDisk Token) (result : Option outcome.Served)
      → IfSome result (λ served. new ≡ record disk { tags = freed disk.tags }) → IfNone result (new ≡ disk)
      → HoldsFlights entry_of Fits ahead_of m queue disk → HoldsFlights entry_of Fits ahead_of m queue new
  dropped_holds m queue disk new None gives kept held = rw kept held
  dropped_holds m queue disk new (Some served) gives kept held = freed_holds m queue disk new gives

module _ {Ring T : Type 0} (queues : RacingKind Ring) (entry_of : T → Entry) (IsTaken : Ring → T → Type 0)
    (races : Bool) (limits : LookLimits)
    (stable : Bool) where
  -- a queue on hold is left as it is
  pub serves_none : (stage : Stage) (disk : RacingHostedDisk T) (s : Sightings) (queue : Ring) → disk.on_hold ≡ true
      → LooksAtQueue queues entry_of IsTaken races limits stable stage disk s s queue queue disk Idle false
  serves_none stage disk s queue on_hold = record {
    left = limits.budget;
    looks = rw on_hold (record { stands = refl; ending_is = refl; unwanted = refl });
    is = refl;
  }

  pub released : (disk new : RacingHostedDisk T) (s t : Sightings) (queue after : Ring) (ending : LookEnding)
      (wanted : Bool) → new ≡ record disk { tags = new.tags; on_hold = false }
      → HasLooked queues entry_of IsTaken disk.device races limits stable First (place_at s queue limits.budget disk.tags) t after
      new.tags ending wanted
      → DoesAsTold queues entry_of IsTaken races limits stable Release disk s t queue after new ending wanted
  released disk new s t queue after ending wanted rest looked = record {
    left = looked.left;
    queue = looked.serves;
    is = rest;
  }

  pub completed : (tag : ℕ) (verdict : Verdict) (disk landed new : RacingHostedDisk T) (old mid last : Sightings)
      (before between after : Ring) (ending : LookEnding) (first asked : Bool)
      → landed ≡ record disk { tags = landed.tags }
      → Lands queues entry_of disk.device races tag verdict (place_at old before limits.budget disk.tags)
      (place_at mid between limits.budget landed.tags) first
      → LooksAtQueue queues entry_of IsTaken races limits stable Again landed mid last between after new ending asked
      → DoesAsTold queues entry_of IsTaken races limits stable (Complete tag verdict) disk old last before after new ending
      (first || asked)
  completed tag verdict disk landed new old mid last before between after ending first asked rest lands serves =
      let device : landed.device ≡ disk.device = ap (λ (d : RacingHostedDisk T). d.device) rest in
      let on_hold : landed.on_hold ≡ disk.on_hold = ap (λ (d : RacingHostedDisk T). d.on_hold) rest in
      record {
        left = serves.left;
        queue = record {
          landed = place_at mid between limits.budget landed.tags;
          before = first;
          asked = asked;
          lands = lands;
          looks = rw (device, on_hold) at serves.looks;
          wanted_is = refl;
        };
        is = serves.is ∙ ap (λ (d : RacingHostedDisk T). record d { tags = new.tags }) rest;
      }

  pub dropped : (result : Option outcome.Served) (disk new : RacingHostedDisk T) (s : Sightings) (queue : Ring)
      → IfSome result (λ served. served ≡ idle)
      → IfSome result (λ served. new ≡ record disk { tags = freed disk.tags })
      → IfSome result (λ served. DoesAsTold queues entry_of IsTaken races limits stable Drop disk s s queue queue new
      served.ending served.wanted)
  dropped None disk new s queue idles gives = tt
  dropped (Some served) disk new s queue idles gives =
      rw (idles, gives) (record {
        left = limits.budget;
        queue = record { stands = refl; ending_is = refl; unwanted = refl };
        is = refl;
      })

  pub held_back : (result : Option outcome.Served) (disk new : RacingHostedDisk T) (s : Sightings) (queue : Ring)
      → IfSome result (λ served. served ≡ idle) → new ≡ record disk { on_hold = true }
      → IfSome result (λ served. DoesAsTold queues entry_of IsTaken races limits stable Hold disk s s queue queue new
      served.ending served.wanted)
  held_back None disk new s queue idles holds = tt
  held_back (Some served) disk new s queue idles holds =
      rw (idles, holds) (record {
        left = limits.budget;
        queue = record { stands = refl; ending_is = refl; unwanted = refl };
        is = refl;
      })

-- ---- while the queue can't be served

module _ {Ring Token : Type 0} (entry_of : Token → Entry) (Fits : Ring → Token → Type 0) (ahead_of : Ring → ℕ) where
  fewer_places : (tags : List (Option Token)) (i : ℕ)
      → sum_by (tag_places entry_of) (set tags i None) ≤ sum_by (tag_places entry_of) tags
  fewer_places tags i = go (get_or tags i None) refl
    where
      go : (tag : Option Token) → get_or tags i None ≡ tag
          → sum_by (tag_places entry_of) (set tags i None) ≤ sum_by (tag_places entry_of) tags
      go None is =
          let same : set tags i None ≡ tags = ap (set tags i) (sym is) ∙ set-get_or tags i None in
          rw same (omega arith)
      go (Some t) is =
          let sums = sum_by-set (tag_places entry_of) tags i None None (some_within tags i t is) in
          omega (arith, sums)

  pub unserved_holds : (said : HostEvent) (m : Memory) (queue : Ring) (disk : RacingHostedDisk Token)
      → HoldsFlights entry_of Fits ahead_of m queue disk
      → HoldsFlights entry_of Fits ahead_of m queue (told_unserved said disk)
  unserved_holds (Complete tag verdict) m queue disk held = record {
    each = All-set (TagIsHeld disk.device.extent.count m) disk.tags tag None tt held.each;
    ahead = rw (tokens_set disk.tags tag None) (record {
      each = All-set (TagFits Fits queue) (tokens_of disk.tags) tag None tt held.ahead.each;
      places = let fewer = fewer_places (tokens_of disk.tags) tag in omega (arith, fewer, held.ahead.places);
    });
  }
  unserved_holds Drop m queue disk held = freed_holds entry_of Fits ahead_of m queue disk (told_unserved Drop disk) refl
  unserved_holds Hold m queue disk held = record { each = held.each; ahead = held.ahead }
  unserved_holds Release m queue disk held = record { each = held.each; ahead = held.ahead }
