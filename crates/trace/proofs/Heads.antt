-- The faults of the first two lines.
use Rattle.std.proofs.Common.{◌≡◌, ◌≢◌, ℕ, List, [], ◌∷◌, ◌++◌, length, get_or, refl, sym, ap, subst, ◌∙◌, arith, inl}
use Rattle.std.proofs.lemmas.List.{append_assoc, append-nil}
use Rattle.trace.specs.declared.fault.FaultKind.{FaultKind}
use Rattle.trace.specs.declared.fault.FaultKind.TheVariants as kind
use Rattle.trace.specs.Cuts.{lines_of}
use Rattle.trace.specs.Faults.{IsCleanBefore, IsEnded, IsFault, IsHeader, IsOfFormat, Passes, first_field, line_at, other_fields}
use Rattle.trace.specs.Refusals.{RefusesCache, RefusesFields, RefusesHead, RefusesSecond}
use Rattle.trace.specs.Text.{header, joined}
use Rattle.trace.specs.Words.{spelled}
use Rattle.trace.specs.declared.word.Word.TheVariants.{Cache}
use Rattle.trace.specs.declared.format.Format.{Format}
use Rattle.trace.proofs.Clean.{Good, good_passes}
use Rattle.trace.proofs.Faulty.{cut_fault, fields_fault, header_fault, word_fault}
use Rattle.trace.proofs.Refused.{only_cache}
use Rattle.trace.proofs.Signs.{above_header, lines_of-joined}
use Rattle.trace.proofs.Sofar.{some_lines}

pub nothing_before : (text : List ℕ) → IsCleanBefore text 1
nothing_before text j le lt fault = absurd (omega arith)

pub head_fault : (text : List ℕ) (fault : FaultKind) → RefusesHead text fault → IsFault text 1 fault
head_fault text kind.Cut h =
    cut_fault text 1 (omega arith) (nothing_before text) (inl (omega arith))
    (λ end. omega (arith, ap length h))
head_fault text kind.Header h =
    header_fault text (nothing_before text) (omega (arith, ap length h.cut, some_lines h.rest))
    (λ p. h.other (subst IsHeader (ap (λ (ls : List (List ℕ)). get_or ls 0 []) h.cut)
    (p (omega (arith, ap length h.cut, some_lines h.rest)) refl)))
head_fault text fault h = absurd h

-- after a good first line
module _ (format : Format) (text rest : List ℕ)
    (whole : text ≡ header format ++ 10 ∷ rest) where
  pub headed : lines_of text ≡ header format ∷ lines_of rest
  unfolding joined
  headed = ap lines_of (whole ∙ sym (ap (λ (xs : List ℕ). xs ++ rest) (append-nil (header format ++ 10 ∷ []))
      ∙ append_assoc (header format) (10 ∷ []) rest))
      ∙ lines_of-joined (header format ∷ []) rest (above_header format, tt)

  names_it : IsOfFormat text format
  names_it = ap (λ (ls : List (List ℕ)). get_or ls 0 []) headed

  good_head : Good format text 1
  good_head =
      record {
        ended = omega (arith, ap length headed, some_lines rest);
        names = names_it;
        first = λ _. (format, names_it);
        word = λ two. absurd (omega arith);
        order = λ _ j low high. absurd (omega arith);
        entry = λ two. absurd (omega arith);
      }

  pub head_clean : IsCleanBefore text 2
  head_clean j le lt fault = let one : 1 ≡ j = omega arith in
      subst (λ (k : ℕ). Passes text k fault) one (good_passes format text 1 good_head fault)

  at_two : line_at text 2 ≡ get_or (lines_of rest) 0 []
  at_two = ap (λ (ls : List (List ℕ)). get_or ls 1 []) headed

  second : (line after : List ℕ) → lines_of rest ≡ line ∷ lines_of after
      → (line_at text 2 ≡ line) × IsEnded text 2
  second line after cut = (
    at_two ∙ ap (λ (ls : List (List ℕ)). get_or ls 0 []) cut,
    omega (arith, ap length headed, ap length cut, some_lines after),
  )

  fields_of_second : (fault : FaultKind) → RefusesCache format rest fault → fault ≢ kind.NoMemory
      → IsFault text 2 fault
  fields_of_second fault h known =
      let here = second h.line h.rest h.cut in
      fields_fault text 2 (omega arith) head_clean here.1 format names_it Cache refl tt
      (ap first_field here.0 ∙ h.first) (λ _ _ j low high. absurd (omega arith)) fault
      (subst (λ (l : List ℕ). RefusesFields format Cache (other_fields l) fault) (sym here.0) h.refused) known

  pub second_fault : (fault : FaultKind) → RefusesSecond format rest fault → fault ≢ kind.NoMemory
      → IsFault text 2 fault
  second_fault kind.Cut h known =
      cut_fault text 2 (omega arith) head_clean (inl (omega arith))
      (λ end. omega (arith, ap length headed, ap length h))
  second_fault kind.Word h known =
      let here = second h.line h.rest h.cut in
      word_fault text 2 (omega arith) head_clean here.1 format names_it
      (λ w may of is. h.other (sym (ap first_field here.0) ∙ is ∙ ap spelled (only_cache w may)))
  second_fault fault h known = fields_of_second fault h known
