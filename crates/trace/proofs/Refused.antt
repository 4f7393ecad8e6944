-- Where a word may stand, and a line that is refused for its fields.
use Rattle.std.proofs.Common.{◌≡◌, ℕ, ◌≤◌, ◌⊎◌, [], ◌∷◌, Bool, true, List, get_or, drop, sym, ap, subst, refl, arith, inl, inr}
use Rattle.trace.specs.declared.fault.FaultKind.{FaultKind}
use Rattle.trace.specs.declared.fault.FaultKind.TheVariants as kind
use Rattle.trace.specs.declared.format.Format.{Format}
use Rattle.trace.specs.declared.word.Word.{Word}
use Rattle.trace.specs.declared.word.Word.TheVariants.{Cache, Slot}
use Rattle.trace.specs.Cuts.{fields_of}
use Rattle.trace.specs.Faults.{MayStand, other_fields}
use Rattle.trace.specs.Refusals.{RefusesFields, RefusesLine, RefusesAfterWord}
use Rattle.trace.specs.Words.{IsWordOf, spelled}

-- only `cache` stands in line 2, and the others in each line from the third on
place_of : (w : Word) → (w ≡ Cache) ⊎ ((k : ℕ) → (MayStand k w → 3 ≤ k) × (3 ≤ k → MayStand k w))
place_of Cache = inl refl
place_of word = inr (λ k. (λ h. h, λ h. h))

pub only_cache : (w : Word) → MayStand 2 w → w ≡ Cache
only_cache w may = elim (place_of w) [ inl is ↦ is | inr place ↦ absurd (let late = (place 2).0 may in omega arith) ]

not_late : (w : Word) (k : ℕ) → 3 ≤ k → w ≡ Cache → MayStand k w → ⊥
not_late w k late is may = let two = subst (MayStand k) is may in omega arith

-- one that may stand in a later line may stand in each of them
pub may_move : (w : Word) (j k : ℕ) → 3 ≤ j → 3 ≤ k → MayStand j w → MayStand k w
may_move w j k late le h =
    elim (place_of w) [
      | inl is ↦ absurd (not_late w j late is h)
      | inr place ↦ (place k).1 le
    ]

-- ---- a line that is refused

after : (format : Format) (begun : Bool) (line : List ℕ) (word : Word) (fault : FaultKind)
    (fields : List (List ℕ)) → MayStand 3 word → IsWordOf format word
    → fields_of line ≡ spelled word ∷ fields → (begun ≡ true → word ≡ Slot → ⊥)
    → RefusesFields format word fields fault → RefusesAfterWord format begun line fault
after format begun line word fault fields may of is ordered h =
    let rest : other_fields line ≡ fields = ap (drop 1) is in
    record {
      word = word;
      may = may;
      of_format = of;
      first = ap (λ (fs : List (List ℕ)). get_or fs 0 []) is;
      ordered = ordered;
      refused = subst (λ (fs : List (List ℕ)). RefusesFields format word fs fault) (sym rest) h;
    }

pub refused_after : (format : Format) (begun : Bool) (line : List ℕ) (word : Word) (fault : FaultKind)
    (fields : List (List ℕ)) → MayStand 3 word → IsWordOf format word
    → fields_of line ≡ spelled word ∷ fields → (begun ≡ true → word ≡ Slot → ⊥)
    → RefusesFields format word fields fault → RefusesLine format begun line fault
refused_after format begun line word kind.Word fields may of is ordered h = absurd h
refused_after format begun line word kind.Order fields may of is ordered h = absurd h
refused_after format begun line word fault fields may of is ordered h =
    after format begun line word fault fields may of is ordered h
