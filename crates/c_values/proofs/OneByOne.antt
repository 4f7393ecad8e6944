-- Loans that are taken one by one.
use Rattle.std.proofs.Common.{◌≡◌, ℕ, suc, ◌<◌, ◌≤◌, ◌+◌, List, [], ◌∷◌, ◌++◌, All, length, map, take, drop, set, get_or, refl, sym, ap, ◌∙◌, subst, arith}
use Rattle.std.proofs.lemmas.List.{drop-drop, drop-set-lt, get_or-drop, length-set, map-append, take_all}
use Rattle.std.proofs.lemmas.List.Elements.{All-append, All-cons, All-nil}
use Rattle.std.proofs.Math.Seq.{take-suc, take-suc-set}
use Rattle.c_values.specs.Loans.{TakesFirst}

-- what holds of those that are written holds of one more
one_more : {X : Type 0} (P : X → Type 0) (xs : List X) (i : ℕ) (x : X) → i < length xs → All P (take i xs)
    → P x → All P (take (i + 1) (set xs i x))
one_more P xs i x few all px =
    let next : i + 1 ≡ suc i = omega arith in
    subst (All P) (sym (ap (λ n. take n (set xs i x)) next ∙ take-suc-set xs i x few))
    (All-append P (take i xs) (x ∷ []) all (All-cons P x [] px (All-nil P)))

-- those behind are as they were
behind_same : {X : Type 0} (xs ys : List X) (i : ℕ) (x : X) → drop i xs ≡ drop i ys
    → drop (i + 1) (set xs i x) ≡ drop (i + 1) ys
behind_same xs ys i x same = drop-set-lt (i + 1) xs i x (omega arith) ∙ sym (drop-drop 1 i xs)
    ∙ ap (drop 1) same ∙ drop-drop 1 i ys

-- the one there is the one that was there
same_there : {X : Type 0} (xs ys : List X) (i : ℕ) (x : X) → drop i xs ≡ drop i ys → x ≡ get_or xs i x
    → x ≡ get_or ys i x
same_there xs ys i x same is =
    let here : i + 0 ≡ i = omega arith in
    is ∙ sym (ap (λ k. get_or xs k x) here) ∙ sym (get_or-drop i xs 0 x) ∙ ap (λ rest. get_or rest 0 x) same
    ∙ get_or-drop i ys 0 x ∙ ap (λ k. get_or ys k x) here

-- one more is listed
listed : {X Y : Type 0} (f : X → Y) (ys : List X) (i : ℕ) (x : X) (so_far : List Y) → i < length ys
    → x ≡ get_or ys i x → so_far ≡ map f (take i ys) → so_far ++ (f x ∷ []) ≡ map f (take (i + 1) ys)
listed f ys i x so_far few is same =
    let next : i + 1 ≡ suc i = omega arith in
    ap (λ some. some ++ (f x ∷ [])) same ∙ sym (map-append f (take i ys) (x ∷ []))
    ∙ ap (λ y. map f (take i ys ++ (y ∷ []))) is
    ∙ sym (ap (map f) (ap (λ n. take n ys) next ∙ take-suc ys i x few))

-- the loans before a place are taken, and those from it on are as they were
pub record AreTakenTo {X : Type 0} (IsEmpty : X → Type 0) (place : ℕ) (old loans : List X) : Type 0 where
  pub others : drop place loans ≡ drop place old
  pub same : length loans ≡ length old
  pub empty : All IsEmpty (take place loans)

module _ {X : Type 0} (IsEmpty : X → Type 0) (old loans : List X) where
  -- one more is taken
  taken_next : (place : ℕ) (x : X) → place < length old → AreTakenTo IsEmpty place old loans → IsEmpty x
      → AreTakenTo IsEmpty (place + 1) old (set loans place x)
  taken_next place x few before empty = record {
    others = behind_same loans old place x before.others;
    same = length-set loans place x ∙ before.same;
    empty = one_more IsEmpty loans place x (omega (arith, before.same, few)) before.empty empty;
  }

  -- the first are taken
  pub first_taken : (place : ℕ) → AreTakenTo IsEmpty place old loans → TakesFirst IsEmpty old loans
  first_taken place before =
      record { taken = place; empty = before.empty; others = before.others; same = before.same }

  -- and one more
  pub next_taken : (place : ℕ) (x : X) → place < length old → AreTakenTo IsEmpty place old loans → IsEmpty x
      → TakesFirst IsEmpty old (set loans place x)
  next_taken place x few before empty =
      let after = taken_next place x few before empty in
      record { taken = place + 1; empty = after.empty; others = after.others; same = after.same }

  -- all are
  pub all_taken : (place : ℕ) → AreTakenTo IsEmpty place old loans → length old ≤ place → All IsEmpty loans
  all_taken place before enough =
      subst (All IsEmpty) (take_all place loans (omega (arith, before.same, enough))) before.empty

-- one more is taken, and what it had is listed behind what those before it had
pub one_more_taken : {X Y V : Type 0} (IsEmpty : X → Type 0) (had : X → Y) (has : V → Y) (old loans : List X) (place : ℕ)
    (loan left : X) (row more : List V) (next : V) → place < length old
    → (map has row ≡ map had (take place old)) × AreTakenTo IsEmpty place old loans
    → loan ≡ get_or loans place loan → more ≡ row ++ (next ∷ []) → has next ≡ had loan → IsEmpty left
    → (map has more ≡ map had (take (place + 1) old)) × AreTakenTo IsEmpty (place + 1) old (set loans place left)
one_more_taken IsEmpty had has old loans place loan left row more next few before there longer same empty =
    let here = same_there loans old place loan before.1.others there in (
      ap (map has) longer ∙ map-append has row (next ∷ []) ∙ ap (λ y. map has row ++ (y ∷ [])) same
          ∙ listed had old place loan (map has row) few here before.0,
      taken_next IsEmpty old loans place left few before.1 empty,
    )

-- none is taken
pub none_taken : {X : Type 0} (IsEmpty : X → Type 0) (loans : List X) → TakesFirst IsEmpty loans loans
none_taken IsEmpty loans = record { taken = 0; empty = All-nil IsEmpty; others = refl; same = refl }

-- rows of as many words are the same: nothing is known of a word
pub same_words : (xs ys : List (Unit {0})) → length xs ≡ length ys → xs ≡ ys
same_words [] [] same = refl
same_words [] (y ∷ ys) same = absurd (omega (arith, same))
same_words (x ∷ xs) [] same = absurd (omega (arith, same))
same_words (x ∷ xs) (y ∷ ys) same = ap (λ (rest : List (Unit {0})). y ∷ rest) (same_words xs ys (omega (arith, same)))
