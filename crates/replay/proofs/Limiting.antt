-- Slots of a trace that a board takes have memories as a trace may describe them.
use Rattle.std.proofs.Common.{◌≡◌, ◌∙◌, ◌⊎◌, inl, inr, ℕ, suc, ◌+◌, ◌<◌, ◌≤◌, List, [], ◌∷◌, ◌++◌, Some, true, ap, drop, get_or, length, map, refl, slice_set, subst, take, arith}
use Rattle.std.specs.Prelude.{All, nat_lt, IfOk, OnOk, Result, Ok, Err}
use Rattle.std.specs.List.{slice_get}
use Rattle.std.specs.Option.{option_map}
use Rattle.std.proofs.lemmas.Option.{slice_get-get_or, slice_get-map, slice_get_within}
use Rattle.std.proofs.lemmas.Bool.{cases_lt, le-ltb}
use Rattle.std.proofs.lemmas.List.{get_or_default}
use Rattle.std.proofs.lemmas.List.Edits.{map_over_more}
use Rattle.board.specs.declared.spec.SlotSpec.{SlotSpec}
use Rattle.board.specs.Fault.{IsAccepted}
use Rattle.guest_memory.specs.Faults.{AreGood, size_of}
use Rattle.trace.specs.declared.format.Format.{Format}
use Rattle.replay.specs.Limits.{IsSmallMemory, asked_of_board, most_memory, no_memory}

-- ---- the loop that asks for no memory in place of a large one

pub one_more : {X : Type 0} (f : X → X) (xs ys : List X) (i : ℕ) (d new : X) → i < length xs
    → length ys ≡ length xs
    → ys ≡ map f (take i xs) ++ drop i xs → new ≡ f (get_or ys i d)
    → slice_set ys i new ≡ map f (take (i + 1) xs) ++ drop (i + 1) xs
one_more {X} f xs ys i d new below same is written =
    let within : i < length ys = omega (arith, below, same) in
    ap (λ (x : X). slice_set ys i x) written
    ∙ map_over_more f xs ys i (get_or ys i d) below is (get_or_default ys i d (get_or ys i d) within)

-- ---- what a board accepts

module _ (format : Format) where
  -- a memory that isn't larger is asked for as it is
  asked_small : (spec : SlotSpec) → IsSmallMemory format spec → asked_of_board format spec ≡ spec
  asked_small spec small = rw (le-ltb (most_memory format) (size_of spec.regions) small) refl

  asked_large : (spec : SlotSpec) → most_memory format < size_of spec.regions
      → (asked_of_board format spec).regions ≡ no_memory
  asked_large spec large =
      let test : nat_lt (most_memory format) (size_of spec.regions) ≡ true = grind (arith, large) in
      rw test refl

  -- no board takes a region without a byte
  none_good : AreGood no_memory → ⊥
  none_good good =
      let first = good.each 0 (record { base = 0; len = 0 }) (omega arith) refl in
      let least = first.size.own.least in
      omega (arith, least)

  small_or_none : (spec : SlotSpec) → AreGood (asked_of_board format spec).regions
      → (most_memory format < size_of spec.regions) ⊎ (size_of spec.regions ≤ most_memory format)
      → IsSmallMemory format spec
  small_or_none spec good (inl large) = absurd (none_good (subst AreGood (asked_large spec large) good))
  small_or_none spec good (inr small) = small

  -- slots of which the board is asked for good memories
  pub all_small : (slots : List SlotSpec)
      → ((i : ℕ) (spec : SlotSpec) → slice_get (map (asked_of_board format) slots) i ≡ Some spec
      → AreGood spec.regions) → All (IsSmallMemory format) slots
  all_small slots good = λ k d below.
      let there : slice_get (map (asked_of_board format) slots) k
      ≡ Some (asked_of_board format (get_or slots k d))
      = slice_get-map (asked_of_board format) slots k
      ∙ ap (option_map (asked_of_board format)) (slice_get-get_or slots k d below) in
      small_or_none (get_or slots k d) (good k (asked_of_board format (get_or slots k d)) there)
      (cases_lt (most_memory format) (size_of (get_or slots k d).regions))

  pub all_asked : (slots : List SlotSpec) → All (IsSmallMemory format) slots
      → map (asked_of_board format) slots ≡ slots
  all_asked [] small = refl
  all_asked (spec ∷ slots) small =
      rw (
        asked_small spec (small 0 spec (omega arith)),
        all_asked slots (λ k d below. small (suc k) d (omega (arith, below))),
      ) refl

-- ---- over an image

-- slots that are asked for as a trace is, of which what was asked for is accepted
module _ (format : Format) (sectors cache : ℕ) (slots asked : List SlotSpec)
    (same : asked ≡ map (asked_of_board format) slots) where
  accepted_small : IsAccepted sectors asked cache → All (IsSmallMemory format) slots
  accepted_small accepted = all_small format slots (λ i spec there.
      let there' : slice_get asked i ≡ Some spec = ap (λ (s : List SlotSpec). slice_get s i) same ∙ there in
      (accepted.slots_good.each i spec (slice_get_within asked i spec there') there').memory)

  as_described : IsAccepted sectors asked cache → asked ≡ slots
  as_described accepted = same ∙ all_asked format slots (accepted_small accepted)

  pub small_when : {V E : Type 0} (result : Result V E) → OnOk result (IsAccepted sectors asked cache)
      → OnOk result (All (IsSmallMemory format) slots)
  small_when (Ok v) accepted = accepted_small accepted
  small_when (Err e) accepted = tt

  pub accepted_when : {V E : Type 0} (result : Result V E) → OnOk result (IsAccepted sectors asked cache)
      → OnOk result (IsAccepted sectors slots cache)
  accepted_when (Ok v) accepted =
      subst (λ (s : List SlotSpec). IsAccepted sectors s cache) (as_described accepted) accepted
  accepted_when (Err e) accepted = tt

  -- what is said of a board of the slots that were asked for is said of one of those that are described
  pub made_when : {V E : Type 0} (Made : V → List SlotSpec → Type 0) (result : Result V E)
      → OnOk result (IsAccepted sectors asked cache) → IfOk result (λ v. Made v asked)
      → IfOk result (λ v. Made v slots)
  made_when Made (Ok v) accepted made =
      subst (λ (s : List SlotSpec). Made v s) (as_described accepted) made
  made_when Made (Err e) accepted made = tt
