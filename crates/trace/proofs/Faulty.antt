-- From what one line is refused for to the fault of the text.
use Rattle.std.proofs.Common.{◌≡◌, ◌≢◌, ℕ, ◌+◌, ◌<◌, ◌≤◌, List, sym, subst, arith, inl, inr}
use Rattle.std.proofs.lemmas.Bool.{cases_eq}
use Rattle.trace.specs.declared.fault.FaultKind.{FaultKind}
use Rattle.trace.specs.declared.fault.FaultKind.TheVariants as kind
use Rattle.trace.specs.declared.format.Format.{Format}
use Rattle.trace.specs.declared.word.Word.{Word}
use Rattle.trace.specs.declared.word.Word.TheVariants.{Slot}
use Rattle.trace.specs.Faults.{MayStand, IsCleanBefore, IsEnded, IsFault, IsOfFormat, IsOwed, Passes, first_field, line_at, order, other_fields}
use Rattle.trace.specs.Refusals.{RefusesFields}
use Rattle.trace.specs.Words.{IsWordOf, spelled}
use Rattle.trace.proofs.Clean.{Counted, Said, by_each, same_format}
use Rattle.trace.proofs.FaultKinds.{same_kind}

-- line k passes the checks before the n-th
abbrev PassesBefore : List ℕ → ℕ → ℕ → Type 0
PassesBefore text k n = (other : FaultKind) → order other < n → Passes text k other

none_before : (text : List ℕ) (k : ℕ) → PassesBefore text k 1
none_before text k kind.Cut lt = absurd (omega arith)
none_before text k other lt = absurd (omega arith)

then_passes : (text : List ℕ) (k : ℕ) (fault : FaultKind) → Passes text k fault
    → PassesBefore text k (order fault) → PassesBefore text k (order fault + 1)
then_passes text k fault passes before other lt =
    elim (cases_eq (order other) (order fault)) [
      | inl same ↦ subst (Passes text k) (same_kind fault other (sym same)) passes
      | inr ne ↦ before other (omega arith)
    ]

-- a line that isn't ended where one is owed
pub cut_fault : (text : List ℕ) (k : ℕ) → 1 ≤ k → IsCleanBefore text k → IsOwed text k → ¬ IsEnded text k
    → IsFault text k kind.Cut
cut_fault text k le clean owed open' =
    record { numbered = le; before = clean; earlier = none_before text k; fails = λ p. open' (p owed) }

-- a first line that is another one
pub header_fault : (text : List ℕ) → IsCleanBefore text 1 → IsEnded text 1 → ¬ Passes text 1 kind.Header
    → IsFault text 1 kind.Header
header_fault text clean end fails =
    record {
      numbered = omega arith;
      before = clean;
      earlier = then_passes text 1 kind.Cut (λ owed. end) (none_before text 1);
      fails = fails;
    }

-- a line after the first that is ended, where the lines before it are clean
module _ (text : List ℕ) (k : ℕ) (late : 2 ≤ k) (clean : IsCleanBefore text k) (end : IsEnded text k) where
  fault_at : (fault : FaultKind) → PassesBefore text k (order fault) → ¬ Passes text k fault
      → IsFault text k fault
  fault_at fault earlier fails =
      record { numbered = omega arith; before = clean; earlier = earlier; fails = fails }

  before_word : PassesBefore text k 3
  before_word =
      then_passes text k kind.Header (λ _ one. absurd (omega arith))
      (then_passes text k kind.Cut (λ owed. end) (none_before text k))

  -- none of the words of its format that may stand begins it
  pub word_fault : (format : Format) → IsOfFormat text format
      → ((w : Word) → MayStand k w → IsWordOf format w → first_field (line_at text k) ≡ spelled w → ⊥)
      → IsFault text k kind.Word
  word_fault format names none = fault_at kind.Word before_word (λ p.
      let has = p end late format names in none has.word has.may has.of_format has.first)

  -- a slot, where there is a line before it that isn't one
  pub order_fault : 3 ≤ k → first_field (line_at text k) ≡ spelled Slot → (j : ℕ) → 3 ≤ j → j < k
      → (first_field (line_at text j) ≡ spelled Slot → ⊥) → IsFault text k kind.Order
  order_fault third is j le lt other =
      let passes : Passes text k kind.Word = λ _ _ _ _.
      record { word = Slot; may = third; of_format = tt; first = is } in
      fault_at kind.Order (then_passes text k kind.Word passes before_word) (λ p. other (p end is j le lt))

  module _ (format : Format) (names : IsOfFormat text format) (w : Word) (may : MayStand k w)
      (of : IsWordOf format w) (is : first_field (line_at text k) ≡ spelled w)
      (ordered : Passes text k kind.Order) where
    word_passes : Passes text k kind.Word
    word_passes _ _ u other =
        record {
          word = w;
          may = may;
          of_format = subst (λ (x : Format). IsWordOf x w) (same_format format u text names other) of;
          first = is;
        }

    say_pass : (fault : FaultKind) → Said text k fault format w → (u : Format) → IsOfFormat text u → (v : Word)
        → first_field (line_at text k) ≡ spelled v → Said text k fault u v
    say_pass fault all = by_each format text k w (Said text k fault) names is all

    before_fields : PassesBefore text k 5
    before_fields =
        then_passes text k kind.Order ordered (then_passes text k kind.Word word_passes before_word)

    before_number : Counted text k format w → PassesBefore text k 6
    before_number same =
        then_passes text k kind.Fields (λ _ _. by_each format text k w (Counted text k) names is same)
        before_fields

    before_choice : Counted text k format w → Said text k kind.Number format w → PassesBefore text k 7
    before_choice same numbers =
        then_passes text k kind.Number (λ _ _. say_pass kind.Number numbers) (before_number same)

    -- its fields are refused
    pub fields_fault : (fault : FaultKind) → RefusesFields format w (other_fields (line_at text k)) fault
        → fault ≢ kind.NoMemory → IsFault text k fault
    fields_fault kind.Fields h some = fault_at kind.Fields before_fields (λ p.
        h (p end late format names w is))
    fields_fault kind.Number h some = fault_at kind.Number (before_number h.0) (λ p.
        h.1 (p end late format names w is))
    fields_fault kind.Choice h some = fault_at kind.Choice (before_choice h.0 h.1) (λ p.
        h.2 (p end late format names w is))
    fields_fault kind.Bytes h some =
        fault_at kind.Bytes (then_passes text k kind.Choice (λ _ _. say_pass kind.Choice h.2)
        (before_choice h.0 h.1)) (λ p. h.3 (p end late format names w is))
    fields_fault fault h some = absurd h
