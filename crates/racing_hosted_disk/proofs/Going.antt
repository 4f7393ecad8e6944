-- A look that finds a request: the memory's range and the other chains in flight stay.
use Rattle.std.proofs.Common.{◌≡◌, ◌∙◌, ℕ, ◌+◌, ◌<◌, Bool, true, Option, Some, None, List, length, get_or, set, ap, arith}
use Rattle.std.proofs.lemmas.List.Elements.{All-set, All-weaker}
use Rattle.std.proofs.lemmas.List.Sums.{sum_by-set}
use Rattle.guest_memory.specs.Memory.{SameRange}
use Rattle.guest_memory.proofs.Ranges.{same_trans}
use Rattle.chain.specs.declared.segment.Buffer.{Buffer}
use Rattle.chain.specs.declared.segment.Segment.{Segment}
use Rattle.chain.specs.Service.{Entry}
use Rattle.shared_memory.specs.Sightings.{memory}
use Rattle.shared_memory.proofs.Sightings.{loads_range, same_back}
use Rattle.block_device.specs.declared.device.BlockDevice.{BlockDevice}
use Rattle.block_device.specs.declared.operation.Operation.{Operation}
use Rattle.block_device.specs.declared.request.Request.{Request}
use Rattle.block_device.specs.Hosting.{hosted_device}
use Rattle.racing_service.specs.Flights.{AreAhead, FlightLaws, TagFits, tag_places}
use Rattle.racing_service.specs.declared.stage.Stage.{Stage}
use Rattle.racing_service.specs.Queue.{RacingKind}
use Rattle.racing_service.specs.Service.{Standing}
use Rattle.racing_service.proofs.Flights.{moves}
use Rattle.racing_service.proofs.Moving.{Keeps, keeps_trans, refused_keeps}
use Rattle.chain_handler.proofs.Still.{does_range}
use Rattle.racing_disk.specs.Looking.{FindsOneThatAsks, FindsOneToAnswer, FindsRequest}
use Rattle.racing_disk.specs.Telling.{IsLeft}
use Rattle.racing_disk.proofs.Standing.{answer_served}
use Rattle.racing_hosted_disk.specs.Looking.{FindsIn}
use Rattle.block_device.specs.Tags.{InFlight, free_tag, token_in, tokens_of}
use Rattle.block_device.proofs.Freeing.{is_free, token_at, tokens_set, tokens_size}

module _ {Ring Token : Type 0} {kind : RacingKind Ring} {entry_of : Token → Entry}
    {IsAhead Fits : Ring → Token → Type 0} {ahead_of : Ring → ℕ}
    (laws : FlightLaws kind entry_of IsAhead Fits ahead_of) (device : BlockDevice) (races : Bool)
    (stage : Stage) (most : ℕ) where
  abbrev At : Type 0
  At = Standing Ring (Unit {0})

  abbrev Stayed : At → At → Type 0
  Stayed a b = Keeps (moves laws) a b

  -- up to the request
  up_to : (a at : At) (buffers : List Buffer) (entry : Entry) (request : Request) (kept : List Segment) (wanted : Bool)
      → FindsRequest kind device races stage most a at buffers entry request kept wanted → Stayed a at
  up_to a at buffers entry request kept wanted finds =
      refused_keeps (moves laws) (hosted_device device) races
      (λ state readable buffers request. IsLeft device readable buffers request kept) stage most a at buffers entry request
      wanted finds.service

  -- ---- one that is answered

  pub answered_keeps : (a b : At) (wanted : Bool) → FindsOneToAnswer kind device races stage most a b wanted → Stayed a b
  answered_keeps a b wanted finds =
      let at = finds.at in
      let before = up_to a at finds.buffers finds.entry finds.request finds.kept wanted finds.finds in
      let left = finds.finds.service.leaves.serves.leaves in
      let answer = finds.answered left.refuses.readable left.refuses.refuses in
      let does = answer_served device races left.taken at.sightings answer.done left.refuses.readable finds.buffers finds.len
      left.refuses.reads left.refuses.each_read answer.answered in
      let done : SameRange (memory at.sightings) (memory answer.done) =
      same_trans (memory at.sightings) (memory left.taken) (memory answer.done)
      (same_back (memory left.taken) (memory at.sightings) (loads_range races left.taken at.sightings left.refuses.reads))
      (does_range (hosted_device device) races left.taken answer.done finds.buffers tt tt finds.len true does) in
      let given : SameRange (memory answer.done) (memory b.sightings) =
      laws.given_range races answer.done b.sightings at.ring finds.entry finds.len true answer.given in
      let behind : Stayed at b = record {
        stays = rw answer.past (laws.past at.ring finds.entry);
        range = same_trans (memory at.sightings) (memory answer.done) (memory b.sightings) done given;
      } in
      keeps_trans (moves laws) (hosted_device device) races a at b before behind

  -- ---- one that asks

  pub record Launches (a b : At) (places : ℕ) : Type 0 where
    pub fits : (token : Token) → Fits a.ring token → Fits b.ring token
    pub ahead : ahead_of b.ring ≡ ahead_of a.ring + places
    pub range : SameRange (memory a.sightings) (memory b.sightings)

  pub asked_launches : (Takes : Ring → Type 0) (stable : Bool) (a b : At) (t : Token) (operation : Operation) (status writable : ℕ)
      (buffers : List Buffer) (runs : List Segment) (wanted : Bool)
      → FindsOneThatAsks kind device races stage most Takes stable a b (entry_of t) operation status writable buffers runs wanted
      → Fits b.ring t → Launches a b (entry_of t).places
  asked_launches Takes stable a b t operation status writable buffers runs wanted finds f =
      let at = finds.at in
      let before = up_to a at buffers (entry_of t) finds.request finds.kept wanted finds.finds in
      let fits : Fits (kind.still.launched at.ring (entry_of t)) t = rw finds.stands at f in
      rw finds.stands (record {
        fits = λ token f. laws.launched_fits at.ring (entry_of t) token ((before.stays.fits token).0 f);
        ahead = laws.launched_ahead at.ring t fits ∙ ap (λ (n : ℕ). n + (entry_of t).places) before.stays.ahead;
        range = before.range;
      })

  -- ---- either

  pub found_launches : (IsTaken : Ring → Token → Type 0) (stable : Bool) (asks : Option (InFlight Token)) (a b : At) (wanted : Bool)
      → FindsIn kind entry_of IsTaken device races stage most stable asks a b wanted → TagFits Fits b.ring (token_in asks)
      → Launches a b (tag_places entry_of (token_in asks))
  found_launches IsTaken stable (Some here) a b wanted finds f =
      asked_launches (λ ring. IsTaken ring here.flight.token) stable a b here.flight.token here.flight.operation here.flight.status here.flight.writable
      finds.buffers here.runs wanted finds.finds f
  found_launches IsTaken stable None a b wanted finds f =
      let one = answered_keeps a b wanted finds in
      let same = one.stays.ahead in
      record {
        fits = λ token f. (one.stays.fits token).0 f;
        ahead = omega (arith, same);
        range = one.range;
      }

  -- ---- what is in flight then

  pub ahead_found : (a b : At) (tags : List (Option Token)) (i : ℕ) (tag : Option Token) → i < length tags
      → get_or tags i None ≡ None → Launches a b (tag_places entry_of tag) → TagFits Fits b.ring tag
      → AreAhead entry_of Fits ahead_of a.ring tags → AreAhead entry_of Fits ahead_of b.ring (set tags i tag)
  ahead_found a b tags i tag there free launches fits are = record {
    each = All-set (TagFits Fits b.ring) tags i tag fits
        (All-weaker (TagFits Fits a.ring) (TagFits Fits b.ring) by tags are.each);
    places =
        let sums = sum_by-set (tag_places entry_of) tags i tag None there in
        let none : tag_places entry_of (get_or tags i None) ≡ 0 = ap (tag_places entry_of) free in
        let more = launches.ahead in
        omega (arith, sums, none, more, are.places);
  }
    where
      by : (tag : Option Token) → TagFits Fits a.ring tag → TagFits Fits b.ring tag
      by None f = tt
      by (Some t) f = launches.fits t f

  -- of the tags, of which the lowest free one is filled
  pub taken_ahead : (IsTaken : Ring → Token → Type 0) (stable : Bool) (asks : Option (InFlight Token)) (a b : At) (wanted : Bool)
      (tags : List (Option (InFlight Token))) (i : ℕ) → free_tag tags ≡ Some i
      → FindsIn kind entry_of IsTaken device races stage most stable asks a b wanted → TagFits Fits b.ring (token_in asks)
      → AreAhead entry_of Fits ahead_of a.ring (tokens_of tags)
      → AreAhead entry_of Fits ahead_of b.ring (tokens_of (set tags i asks))
  taken_ahead IsTaken stable asks a b wanted tags i lowest finds fits are =
      let free = is_free tags i lowest in
      let size = tokens_size tags in
      let there : i < length (tokens_of tags) = omega (arith, size, free.there) in
      let none : get_or (tokens_of tags) i None ≡ None = token_at tags i free.there ∙ ap token_in free.free in
      rw (tokens_set tags i asks)
      (ahead_found a b (tokens_of tags) i (token_in asks) there none (found_launches IsTaken stable asks a b wanted finds
      fits) fits are)
