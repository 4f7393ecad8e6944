-- A chain in flight lands.
use Rattle.std.proofs.Common.{◌≡◌, ◌∙◌, ℕ, ◌<◌, Bool, true, Option, Some, None, List, [], ◌∷◌, length, get_or, set, refl, sym, ap, subst, arith}
use Rattle.std.specs.Prelude.{All}
use Rattle.std.proofs.lemmas.List.{set-get_or}
use Rattle.guest_memory.specs.Memory.{Memory, SameRange}
use Rattle.guest_memory.proofs.Ranges.{same_trans}
use Rattle.chain.specs.declared.budget.Budget.{Budget}
use Rattle.chain.specs.Service.{Entry}
use Rattle.shared_memory.specs.Sightings.{Sightings, memory}
use Rattle.shared_memory.proofs.Sightings.{interference_range}
use Rattle.block_device.specs.declared.device.BlockDevice.{BlockDevice}
use Rattle.block_device.specs.declared.operation.Verdict.{Verdict}
use Rattle.block_device.specs.Asking.{status_by}
use Rattle.block_device.specs.Hosting.{hosted_device}
use Rattle.block_device.specs.Request.{code_of}
use Rattle.racing_service.specs.Flights.{AreAhead, FlightLaws, Stays}
use Rattle.racing_service.specs.Queue.{RacingKind}
use Rattle.racing_service.specs.Service.{standing_at}
use Rattle.racing_service.proofs.Flights.{ahead_in, ahead_landed, ahead_stays, moves}
use Rattle.racing_service.proofs.Moving.{closing_keeps}
use Rattle.chain_handler.proofs.Still.{scattered_range}
use Rattle.block_device.specs.declared.hosting.Flight.{Flight}
use Rattle.racing_disk.specs.Completing.{IsGivenBack}
use Rattle.racing_hosted_disk.specs.Disk.{HoldsFlights, RacingHostedDisk}
use Rattle.racing_hosted_disk.specs.Looking.{Place, place_at}
use Rattle.block_device.specs.Tags.{InFlight, TagIsHeld, flight_in, token_in, tokens_of}
use Rattle.racing_hosted_disk.specs.Told.{Lands}
use Rattle.block_device.proofs.Freeing.{is_there, token_at, tokens_set, tokens_size}
use Rattle.block_device.proofs.Holding.{all_same, all_set}

-- a tag that is free stays so
none_in : {T : Type 0} (tag : Option (InFlight T)) → None ≡ flight_in tag → tag ≡ None
none_in None none = refl
none_in (Some here) none = cc none

pub set_none : {T : Type 0} (tags : List (Option (InFlight T))) (i : ℕ) → None ≡ flight_in (get_or tags i None)
    → set tags i None ≡ tags
set_none tags i none = ap (set tags i) (sym (none_in (get_or tags i None) none)) ∙ set-get_or tags i None

module _ {Ring Token : Type 0} {kind : RacingKind Ring} {entry_of : Token → Entry}
    {IsAhead Fits : Ring → Token → Type 0} {ahead_of : Ring → ℕ}
    (laws : FlightLaws kind entry_of IsAhead Fits ahead_of) where
  -- a disk that didn't change
  pub holds_as : (m : Memory) (queue : Ring) (disk same : RacingHostedDisk Token) → same ≡ disk
      → HoldsFlights entry_of Fits ahead_of m queue disk → HoldsFlights entry_of Fits ahead_of m queue same
  holds_as m queue disk same is held = rw is held

  pub outlasts : (m n : Memory) (queue after : Ring) (disk : RacingHostedDisk Token) → SameRange m n
      → Stays Fits ahead_of queue after → HoldsFlights entry_of Fits ahead_of m queue disk
      → HoldsFlights entry_of Fits ahead_of n after disk
  outlasts m n queue after disk same stays held = record {
    each = all_same disk.device.extent.count m n disk.tags same held.each;
    ahead = ahead_stays laws queue after (tokens_of disk.tags) stays
        held.ahead;
  }

  pub is_ahead : (m : Memory) (queue : Ring) (disk : RacingHostedDisk Token) (tag : ℕ) (flight : Flight Token)
      → HoldsFlights entry_of Fits ahead_of m queue disk → Some flight ≡ flight_in (get_or disk.tags tag None)
      → IsAhead queue flight.token
  is_ahead m queue disk tag flight held found =
      let is = is_there flight disk.tags tag found in
      let size = tokens_size disk.tags in
      let there : tag < length (tokens_of disk.tags) = omega (arith, size, is.within) in
      let at : get_or (tokens_of disk.tags) tag None ≡ Some is.here.flight.token =
      token_at disk.tags tag is.within ∙ ap token_in is.there in
      subst (λ (f : Flight Token). IsAhead queue f.token) is.its
      (ahead_in laws queue (tokens_of disk.tags) tag is.here.flight.token
      there held.ahead at)

  module _ (device : BlockDevice) (races : Bool) where
    pub lands_by : (old given new : Sightings) (before behind after : Ring) (left : Budget)
        (tags tags' : List (Option (InFlight Token))) (tag : ℕ) (flight : Flight Token) (verdict : Verdict) (len : ℕ)
        (wanted : Bool) → Some flight ≡ flight_in (get_or tags tag None) → tags' ≡ set tags tag None
        → IsGivenBack kind races old given flight.status flight.writable flight.operation.kind verdict
        (entry_of flight.token) len before behind
        → kind.IsClosed races given new behind wanted → after ≡ kind.still.shut behind
        → Lands kind entry_of device races tag verdict (place_at old before left tags) (place_at new after left tags')
        wanted
    lands_by old given new before behind after left tags tags' tag flight verdict len wanted found freed back closed shut =
        let is = is_there flight tags tag found in record {
          here = is.here;
          there = is.there;
          given = given;
          behind = behind;
          len = len;
          back = subst (λ (f : Flight Token). IsGivenBack kind races old given f.status f.writable f.operation.kind
              verdict (entry_of f.token) len before behind) (sym is.its) back;
          closes = record { closed = closed; ring = shut; state = refl; left = refl };
          tags = freed;
        }

    pub lands_range : (tag : ℕ) (verdict : Verdict) (a b : Place Ring Token) (wanted : Bool)
        → Lands kind entry_of device races tag verdict a b wanted
        → SameRange (memory a.service.sightings) (memory b.service.sightings)
    lands_range tag verdict a b wanted lands =
        let back = lands.back in
        let stored = back.completed.stored in
        let status : SameRange (memory a.service.sightings) (memory back.done) =
        same_trans (memory a.service.sightings) stored.before (memory back.done)
        (interference_range races (memory a.service.sightings) stored.before stored.interference)
        (subst (SameRange stored.before) (sym stored.stored) (scattered_range stored.before
        (lands.here.flight.status ∷ []) (Some (code_of (status_by verdict)) ∷ []))) in
        let given : SameRange (memory back.done) (memory lands.given) =
        laws.given_range races back.done lands.given a.service.ring (entry_of lands.here.flight.token) lands.len true
        back.given in
        let closed : SameRange (memory lands.given) (memory b.service.sightings) =
        laws.closed_range races lands.given b.service.sightings lands.behind wanted lands.closes.closed in
        same_trans (memory a.service.sightings) (memory back.done) (memory b.service.sightings) status
        (same_trans (memory back.done) (memory lands.given) (memory b.service.sightings) given closed)

    -- what is in flight then is held
    pub lands_held : (capacity tag : ℕ) (verdict : Verdict) (a b : Place Ring Token) (wanted : Bool)
        → Lands kind entry_of device races tag verdict a b wanted
        → All (TagIsHeld capacity (memory a.service.sightings)) a.tags
        → All (TagIsHeld capacity (memory b.service.sightings)) b.tags
    lands_held capacity tag verdict a b wanted lands held =
        subst (λ (t : List (Option (InFlight Token))). All (TagIsHeld capacity (memory b.service.sightings)) t)
        (sym lands.tags)
        (all_set capacity (memory a.service.sightings) (memory b.service.sightings) a.tags tag None
        (lands_range tag verdict a b wanted lands) held tt)

    pub lands_ahead : (tag : ℕ) (verdict : Verdict) (a b : Place Ring Token) (wanted : Bool)
        → Lands kind entry_of device races tag verdict a b wanted → tag < length a.tags
        → AreAhead entry_of Fits ahead_of a.service.ring (tokens_of a.tags)
        → AreAhead entry_of Fits ahead_of b.service.ring (tokens_of b.tags)
    lands_ahead tag verdict a b wanted lands within are =
        let t = lands.here.flight.token in
        let size = tokens_size a.tags in
        let there : tag < length (tokens_of a.tags) = omega (arith, size, within) in
        let at : get_or (tokens_of a.tags) tag None ≡ Some t = token_at a.tags tag within ∙ ap token_in lands.there in
        let landed : AreAhead entry_of Fits ahead_of (kind.still.landed a.service.ring (entry_of t))
        (set (tokens_of a.tags) tag None) =
        ahead_landed laws a.service.ring (tokens_of a.tags) tag t there are
        at in
        let behind : AreAhead entry_of Fits ahead_of lands.behind (set (tokens_of a.tags) tag None) =
        subst (λ (r : Ring). AreAhead entry_of Fits ahead_of r (set (tokens_of a.tags) tag None)) (sym lands.back.landed)
        landed in
        let stays = (closing_keeps (moves laws) (hosted_device device) races
        (standing_at lands.given lands.behind tt a.service.left) b.service wanted lands.closes).stays in
        let shut = ahead_stays laws lands.behind b.service.ring
        (set (tokens_of a.tags) tag None) stays behind in
        let same : set (tokens_of a.tags) tag None ≡ tokens_of b.tags =
        sym (ap tokens_of lands.tags ∙ tokens_set a.tags tag None) in
        subst (λ (l : List (Option Token)). AreAhead entry_of Fits ahead_of b.service.ring l) same shut

    pub lands_within : (tags : List (Option (InFlight Token))) (tag : ℕ) (flight : Flight Token)
        → Some flight ≡ flight_in (get_or tags tag None) → tag < length tags
    lands_within tags tag flight found = (is_there flight tags tag found).within
