-- Chains in flight are those between the next used entry and the next chain.
use Rattle.std.proofs.Common.{◌≡◌, ℕ, ◌+◌, ◌-◌, ◌<◌, ◌≤◌, Option, Some, None, List, [], ◌∷◌, length, get_or, set, refl, ap, arith}
use Rattle.std.proofs.lemmas.List.Elements.{All-get_or, All-set, All-weaker}
use Rattle.std.proofs.lemmas.List.Sums.{sum_by-set}
use Rattle.chain.specs.Service.{Device, Entry, Served, ServesAll, Site, after}
use Rattle.mmio_window.specs.declared.queue.Queue.{Queue}
use Rattle.mmio_window.specs.declared.queue.Queue.TheVariants.{Split, Packed}
use Rattle.mmio_window.specs.declared.queue.Token.{Token}
use Rattle.mmio_window.specs.declared.queue.Token.TheVariants as token
use Rattle.mmio_window.specs.Queue.{AreAhead, AreAll, Fits, IsAhead, IsTaken, TagFits, ahead_of, entry_of, launched, landed, past, queue_kind, tag_places}

-- ---- which tokens fit turns on the queue's kind and size alone

fits_launched : (queue : Queue) (entry : Entry) (t : Token) → Fits queue t → Fits (launched queue entry) t
fits_launched (Split ring) entry (token.Split t) f = tt
fits_launched (Packed ring) entry (token.Packed t) f = f
fits_launched (Split ring) entry (token.Packed t) f = absurd f
fits_launched (Packed ring) entry (token.Split t) f = absurd f

fits_landed : (queue : Queue) (entry : Entry) (t : Token) → Fits queue t → Fits (landed queue entry) t
fits_landed (Split ring) entry (token.Split t) f = tt
fits_landed (Packed ring) entry (token.Packed t) f = f
fits_landed (Split ring) entry (token.Packed t) f = absurd f
fits_landed (Packed ring) entry (token.Split t) f = absurd f

fits_past : (queue : Queue) (entry : Entry) (t : Token) → Fits queue t → Fits (past queue entry) t
fits_past (Split ring) entry (token.Split t) f = tt
fits_past (Packed ring) entry (token.Packed t) f = f
fits_past (Split ring) entry (token.Packed t) f = absurd f
fits_past (Packed ring) entry (token.Split t) f = absurd f

fits_taken : (queue : Queue) (t : Token) → IsTaken queue t → Fits queue t
fits_taken (Split ring) (token.Split t) taken = tt
fits_taken (Packed ring) (token.Packed t) taken = (taken.least, taken.most)
fits_taken (Split ring) (token.Packed t) taken = absurd taken
fits_taken (Packed ring) (token.Split t) taken = absurd taken

tag_by : (old new : Queue) → ((t : Token) → Fits old t → Fits new t) → (tag : Option Token)
    → TagFits old tag → TagFits new tag
tag_by old new keeps None f = tt
tag_by old new keeps (Some t) f = keeps t f

-- ---- how far the next chain is ahead

ahead_launched : (queue : Queue) (t : Token) → IsTaken queue t
    → ahead_of (launched queue (entry_of t)) ≡ ahead_of queue + (entry_of t).places
ahead_launched (Split ring) (token.Split t) taken = refl
ahead_launched (Packed ring) (token.Packed t) taken = refl
ahead_launched (Split ring) (token.Packed t) taken = absurd taken
ahead_launched (Packed ring) (token.Split t) taken = absurd taken

ahead_landed : (queue : Queue) (t : Token) → Fits queue t
    → ahead_of (landed queue (entry_of t)) ≡ ahead_of queue - (entry_of t).places
ahead_landed (Split ring) (token.Split t) f = refl
ahead_landed (Packed ring) (token.Packed t) f = refl
ahead_landed (Split ring) (token.Packed t) f = absurd f
ahead_landed (Packed ring) (token.Split t) f = absurd f

pub ahead_past : (queue : Queue) (entry : Entry) → ahead_of (past queue entry) ≡ ahead_of queue
ahead_past (Split ring) entry = refl
ahead_past (Packed ring) entry = refl

is_ahead : (queue : Queue) (t : Token) → Fits queue t → (entry_of t).places ≤ ahead_of queue → IsAhead queue t
is_ahead (Split ring) (token.Split t) f some = record { some = some }
is_ahead (Packed ring) (token.Packed t) f some = record { least = f.0; most = f.1; some = some }
is_ahead (Split ring) (token.Packed t) f some = absurd f
is_ahead (Packed ring) (token.Split t) f some = absurd f

-- ---- chains in flight

module _ (queue : Queue) (tags : List (Option Token)) (tag : ℕ) (t : Token)
    (there : tag < length tags) (are : AreAhead queue tags) where
  -- one that was taken is given a free tag
  pub AreAhead-launched : get_or tags tag None ≡ None → IsTaken queue t
      → AreAhead (launched queue (entry_of t)) (set tags tag (Some t))
  AreAhead-launched free taken = record {
    each = All-set (TagFits (launched queue (entry_of t))) tags tag (Some t)
        (fits_launched queue (entry_of t) t (fits_taken queue t taken))
        (All-weaker (TagFits queue) (TagFits (launched queue (entry_of t)))
        (tag_by queue (launched queue (entry_of t)) (fits_launched queue (entry_of t))) tags are.each);
    places =
        let sums = sum_by-set tag_places tags tag (Some t) None there in
        let none : tag_places (get_or tags tag None) ≡ 0 = ap tag_places free in
        let more = ahead_launched queue t taken in
        omega (arith, sums, none, more, are.places);
  }

  pub is_ahead_in : get_or tags tag None ≡ Some t → IsAhead queue t
  is_ahead_in is =
      let fits : TagFits queue (Some t) = rw is at (All-get_or (TagFits queue) tags tag None there are.each) in
      let sums = sum_by-set tag_places tags tag None None there in
      let some : tag_places (get_or tags tag None) ≡ (entry_of t).places = ap tag_places is in
      is_ahead queue t fits (omega (arith, sums, some, are.places))

  -- one that lands leaves its tag free
  pub AreAhead-landed : get_or tags tag None ≡ Some t
      → AreAhead (landed queue (entry_of t)) (set tags tag None)
  AreAhead-landed is =
      let fits : TagFits queue (Some t) = rw is at (All-get_or (TagFits queue) tags tag None there are.each) in
      record {
        each = All-set (TagFits (landed queue (entry_of t))) tags tag None tt
            (All-weaker (TagFits queue) (TagFits (landed queue (entry_of t)))
            (tag_by queue (landed queue (entry_of t)) (fits_landed queue (entry_of t))) tags are.each);
        places =
            let sums = sum_by-set tag_places tags tag None None there in
            let some : tag_places (get_or tags tag None) ≡ (entry_of t).places = ap tag_places is in
            let fewer = ahead_landed queue t fits in
            omega (arith, sums, some, fewer, are.places);
      }

-- and a chain that is served at once moves none
pub AreAhead-past : (queue : Queue) (entry : Entry) (tags : List (Option Token)) → AreAhead queue tags
    → AreAhead (past queue entry) tags
AreAhead-past queue entry tags are = record {
  each = All-weaker (TagFits queue) (TagFits (past queue entry))
      (tag_by queue (past queue entry) (fits_past queue entry)) tags are.each;
  places = let same = ahead_past queue entry in omega (arith, same, are.places);
}

-- ---- and no others

module _ (queue : Queue) (tags : List (Option Token)) (tag : ℕ) (t : Token)
    (there : tag < length tags) (all : AreAll queue tags) where
  pub AreAll-launched : get_or tags tag None ≡ None → IsTaken queue t
      → AreAll (launched queue (entry_of t)) (set tags tag (Some t))
  AreAll-launched free taken =
      let sums = sum_by-set tag_places tags tag (Some t) None there in
      let none : tag_places (get_or tags tag None) ≡ 0 = ap tag_places free in
      let more = ahead_launched queue t taken in
      omega (arith, sums, none, more, all)

  pub AreAll-landed : get_or tags tag None ≡ Some t → AreAhead queue tags
      → AreAll (landed queue (entry_of t)) (set tags tag None)
  AreAll-landed is are =
      let fits : TagFits queue (Some t) = rw is at (All-get_or (TagFits queue) tags tag None there are.each) in
      let sums = sum_by-set tag_places tags tag None None there in
      let some : tag_places (get_or tags tag None) ≡ (entry_of t).places = ap tag_places is in
      let fewer = ahead_landed queue t fits in
      omega (arith, sums, some, fewer, all)

pub AreAhead-served : {State : Type 0} (device : Device State) (old new : Site Queue State)
    (chains : List (Served State)) (tags : List (Option Token))
    → ServesAll queue_kind device old chains new → AreAhead old.ring tags → AreAhead new.ring tags
AreAhead-served device old new [] tags serves are = rw (← serves) are
AreAhead-served device old new (s ∷ chains) tags serves are =
    AreAhead-served device (after queue_kind device old s) new chains tags serves.1
    (AreAhead-past old.ring s.entry tags are)
