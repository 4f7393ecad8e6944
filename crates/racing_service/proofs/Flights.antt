-- What is in flight outlasts a service: only a launch and a landing move it.
use Rattle.std.proofs.Common.{◌≡◌, ◌∙◌, ℕ, ◌<◌, Option, Some, None, List, length, get_or, set, refl, ap, subst, arith}
use Rattle.std.proofs.lemmas.List.Elements.{All-get_or, All-set, All-weaker}
use Rattle.std.proofs.lemmas.List.Sums.{sum_by-set}
use Rattle.chain.specs.Service.{Entry}
use Rattle.racing_service.specs.Flights.{AreAhead, FlightLaws, Stays, TagFits, tag_places}
use Rattle.racing_service.specs.Queue.{RacingKind}
use Rattle.racing_service.proofs.Moving.{MoveLaws}

module _ {Ring Token : Type 0} {kind : RacingKind Ring} {entry_of : Token → Entry}
    {IsAhead Fits : Ring → Token → Type 0} {ahead_of : Ring → ℕ}
    (laws : FlightLaws kind entry_of IsAhead Fits ahead_of) where
  -- ---- the tags

  tag_by : (old new : Ring) → ((t : Token) → Fits old t → Fits new t) → (tag : Option Token) → TagFits Fits old tag
      → TagFits Fits new tag
  tag_by old new keeps None f = tt
  tag_by old new keeps (Some t) f = keeps t f

  pub ahead_stays : (old new : Ring) (tags : List (Option Token)) → Stays Fits ahead_of old new
      → AreAhead entry_of Fits ahead_of old tags → AreAhead entry_of Fits ahead_of new tags
  ahead_stays old new tags stays are = record {
    each = All-weaker (TagFits Fits old) (TagFits Fits new) (tag_by old new (λ t. (stays.fits t).0)) tags are.each;
    places = let same = stays.ahead in omega (arith, same, are.places);
  }

  module _ (queue : Ring) (tags : List (Option Token)) (tag : ℕ) (t : Token) (there : tag < length tags)
      (are : AreAhead entry_of Fits ahead_of queue tags) where
    -- a chain that is launched is given a free tag
    pub ahead_launched : get_or tags tag None ≡ None → Fits (kind.still.launched queue (entry_of t)) t
        → AreAhead entry_of Fits ahead_of (kind.still.launched queue (entry_of t)) (set tags tag (Some t))
    ahead_launched free fits =
        let next = kind.still.launched queue (entry_of t) in
        record {
          each = All-set (TagFits Fits next) tags tag (Some t) fits
              (All-weaker (TagFits Fits queue) (TagFits Fits next)
              (tag_by queue next (laws.launched_fits queue (entry_of t))) tags are.each);
          places =
              let sums = sum_by-set (tag_places entry_of) tags tag (Some t) None there in
              let none : tag_places entry_of (get_or tags tag None) ≡ 0 = ap (tag_places entry_of) free in
              let more = laws.launched_ahead queue t fits in
              omega (arith, sums, none, more, are.places);
        }

    pub ahead_in : get_or tags tag None ≡ Some t → IsAhead queue t
    ahead_in is =
        let fits : TagFits Fits queue (Some t) =
        subst (λ (o : Option Token). TagFits Fits queue o) is
        (All-get_or (TagFits Fits queue) tags tag None there are.each) in
        let sums = sum_by-set (tag_places entry_of) tags tag None None there in
        let some : tag_places entry_of (get_or tags tag None) ≡ (entry_of t).places = ap (tag_places entry_of) is in
        laws.is_ahead queue t fits (omega (arith, sums, some, are.places))

    -- one that lands leaves its tag free
    pub ahead_landed : get_or tags tag None ≡ Some t
        → AreAhead entry_of Fits ahead_of (kind.still.landed queue (entry_of t)) (set tags tag None)
    ahead_landed is =
        let next = kind.still.landed queue (entry_of t) in
        let fits : TagFits Fits queue (Some t) =
        subst (λ (o : Option Token). TagFits Fits queue o) is
        (All-get_or (TagFits Fits queue) tags tag None there are.each) in
        record {
          each = All-set (TagFits Fits next) tags tag None tt
              (All-weaker (TagFits Fits queue) (TagFits Fits next)
              (tag_by queue next (laws.landed_fits queue (entry_of t))) tags are.each);
          places =
              let sums = sum_by-set (tag_places entry_of) tags tag None None there in
              let some : tag_places entry_of (get_or tags tag None) ≡ (entry_of t).places =
              ap (tag_places entry_of) is in
              let fewer = laws.landed_ahead queue t fits in
              omega (arith, sums, some, fewer, are.places);
        }

  -- what is in flight outlasts each call but a launch and a landing
  pub moves : MoveLaws kind (Stays Fits ahead_of)
  moves = record {
    same = λ queue. record { fits = λ token. (λ f. f, λ f. f); ahead = refl };
    trans = λ a b c p q. record {
      fits = λ token.
          (λ f. (q.fits token).0 ((p.fits token).0 f), λ f. (p.fits token).1 ((q.fits token).1 f));
      ahead = q.ahead ∙ p.ahead;
    };
    opened = laws.opened;
    past = laws.past;
    stopped = laws.stopped;
    shut = laws.shut;
    given_range = laws.given_range;
    closed_range = laws.closed_range;
  }
