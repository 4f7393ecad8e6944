-- Tags: which is the lowest free one, and what stands in a tag.
use Rattle.std.proofs.Common.{◌≡◌, ◌∙◌, ℕ, zero, suc, ◌<◌, ◌≤◌, true, false, Option, Some, None, List, [], ◌∷◌, length, get_or, set, refl, sym, ap, subst, arith}
use Rattle.std.specs.Prelude.{is_some, replicate}
use Rattle.std.specs.Option.{option_map}
use Rattle.std.proofs.lemmas.List.{get_or-map, get_or_read_under, length-map, length-set, map-set, set-get_or}
use Rattle.block_device.specs.declared.hosting.Flight.{Flight}
use Rattle.block_device.specs.Tags.{InFlight, flight_in, free_tag, freed, is_any, taken_bits, token_in, tokens_of}

-- nothing is in flight in new tags
pub none_in_flight : (A : Type 0) (depth : ℕ) → is_any {A = A} (replicate depth None) ≡ false
none_in_flight A zero = refl
none_in_flight A (suc depth) = none_in_flight A depth

module _ {A : Type 0} where
  pub record IsFree (tags : List (Option A)) (i : ℕ) : Type 0 where
    pub there : i < length tags
    pub free : get_or tags i None ≡ None

  free_later : (tags : List (Option A)) (here : A) (f : Option ℕ) (i : ℕ) → free_tag tags ≡ f
      → ((j : ℕ) → free_tag tags ≡ Some j → IsFree tags j) → option_map suc f ≡ Some i → IsFree (Some here ∷ tags) i
  free_later tags here None i is rest e = cc e
  free_later tags here (Some j) i is rest e =
      let at : suc j ≡ i = cc e in
      let free = rest j is in
      subst (λ (k : ℕ). IsFree (Some here ∷ tags) k) at (record { there = omega (arith, free.there); free = free.free })

  pub is_free : (tags : List (Option A)) (i : ℕ) → free_tag tags ≡ Some i → IsFree tags i
  is_free [] i e = cc e
  is_free (None ∷ tags) i e =
      let at : 0 ≡ i = cc e in
      subst (λ (k : ℕ). IsFree (None ∷ tags) k) at (record { there = omega arith; free = refl })
  is_free (Some here ∷ tags) i e = free_later tags here (free_tag tags) i refl (is_free tags) e

  -- a tag that is taken is one of them
  pub some_within : (tags : List (Option A)) (i : ℕ) (here : A) → get_or tags i None ≡ Some here
      → i < length tags
  some_within [] i here is = cc is
  some_within (tag ∷ tags) zero here is = omega arith
  some_within (tag ∷ tags) (suc i) here is = let rest = some_within tags i here is in omega (arith, rest)

  -- what was lent is the entry
  entry_at : (tags : List (Option A)) (i n : ℕ) (found : Option A) → found ≡ get_or tags i found → i < n
      → n ≡ length tags → get_or tags i None ≡ found
  entry_at tags i n found is below size = sym (get_or_read_under tags i n found None is below size)

  pub entry_free : (tags : List (Option A)) (i : ℕ) (found : Option A) → found ≡ get_or tags i found
      → free_tag tags ≡ Some i → found ≡ None
  entry_free tags i found is lowest =
      let free = is_free tags i lowest in
      sym (entry_at tags i (length tags) found is free.there refl) ∙ free.free

  -- a tag that stays free leaves all as they are
  pub set_free : (tags : List (Option A)) (i : ℕ) (tag : Option A) → free_tag tags ≡ Some i → tag ≡ None
      → set tags i tag ≡ tags
  set_free tags i tag lowest none =
      ap (set tags i) (none ∙ sym (is_free tags i lowest).free) ∙ set-get_or tags i None

  -- what holds of the tags and their set, of one that is free then
  pub still_free : (n i : ℕ) (tags : List (Option A)) (tag : Option A) → length tags ≤ 64 → n ≡ taken_bits tags
      → free_tag tags ≡ Some i → is_some tag ≡ false → (length (set tags i tag) ≤ 64) × (n ≡ taken_bits (set tags i tag))
  still_free n i tags None most is lowest none = rw (set_free tags i None lowest refl) (most, is)
  still_free n i tags (Some here) most is lowest none = cc none

  -- and of one that is taken then
  pub now_taken : (n i : ℕ) (tags : List (Option A)) (tag : Option A) → length tags ≤ 64 → is_some tag ≡ true
      → ((here : A) → n ≡ taken_bits (set tags i (Some here)))
      → (length (set tags i tag) ≤ 64) × (n ≡ taken_bits (set tags i tag))
  now_taken n i tags None most some with_it = cc some
  now_taken n i tags (Some here) most some with_it =
      let size = length-set tags i (Some here) in (omega (arith, size, most), with_it here)

  -- nor is any in tags that were freed
  pub none_freed : (tags : List (Option A)) → is_any (freed tags) ≡ false
  none_freed [] = refl
  none_freed (tag ∷ tags) = none_freed tags

module _ {T : Type 0} where
  pub record IsThere (flight : Flight T) (tags : List (Option (InFlight T))) (i : ℕ) : Type 0 where
    pub here : InFlight T
    pub there : get_or tags i None ≡ Some here
    pub its : here.flight ≡ flight
    pub within : i < length tags

  this_one : (flight : Flight T) (tag : Option (InFlight T)) → Some flight ≡ flight_in tag
      → (here : InFlight T) × ((tag ≡ Some here) × (here.flight ≡ flight))
  this_one flight None found = cc found
  this_one flight (Some here) found = (here, (refl, cc found))

  pub is_there : (flight : Flight T) (tags : List (Option (InFlight T))) (i : ℕ)
      → Some flight ≡ flight_in (get_or tags i None) → IsThere flight tags i
  is_there flight tags i found =
      let one = this_one flight (get_or tags i None) found in
      record { here = one.0; there = one.1.0; its = one.1.1; within = some_within tags i one.0 one.1.0 }

  -- the tokens of the tags
  pub token_at : (tags : List (Option (InFlight T))) (i : ℕ) → i < length tags
      → get_or (tokens_of tags) i None ≡ token_in (get_or tags i None)
  token_at tags i within = get_or-map token_in tags i None None within

  pub tokens_set : (tags : List (Option (InFlight T))) (i : ℕ) (tag : Option (InFlight T))
      → tokens_of (set tags i tag) ≡ set (tokens_of tags) i (token_in tag)
  tokens_set tags i tag = map-set token_in tags i tag

  pub tokens_size : (tags : List (Option (InFlight T))) → length (tokens_of tags) ≡ length tags
  tokens_size tags = length-map tags token_in
