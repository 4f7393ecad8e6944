use Rattle.std.proofs.Common.{◌≡◌, ◌∙◌, ◌∷◌, ℕ, Bool, true, false, List, refl, ap, arith}
use Rattle.std.specs.Option.{option_copied}
use Rattle.trace.specs.declared.word.Word.{Word}
use Rattle.trace.specs.declared.word.Word.TheVariants.{Cache}
use Rattle.trace.specs.Cuts.{fields_left}
use Rattle.trace.specs.Faults.{MayStand}
use Rattle.trace.proofs.Refused.{refused_after}
use Rattle.trace.proofs.read.entry.entry_of.Goals as goal

not_begun : (begun : Bool) → begun ≡ false → begun ≡ true → ⊥
not_begun begun is other = absurd cc

-- a word other than the second line's may stand behind that
may_be_late : (word : Word) → (word ≡ Cache → ⊥) → MayStand 3 word
may_be_late Cache other = absurd (other refl)
may_be_late word other = omega arith

pub returns-in-Slot-2-clause-err : goal.returns-in-Slot-2-clause-err
returns-in-Slot-2-clause-err g c =
    let fields = fields_left (option_copied c.take_field.result.1) in
    refused_after c.args.format c.args.begun c.args.line.now c.in-Some.word c.fault_in.result fields
    (rw c.in-Slot-2.is (omega arith)) c.in-Some.ensures.of_format
    (c.take_field.ensures ∙ ap (λ (first : List ℕ). first ∷ fields) c.in-Some.ensures.some)
    (λ begun slot. not_begun c.args.begun c.if-begun.false begun) c.fault_in.ensures

pub returns-clause-err : goal.returns-clause-err
returns-clause-err g c =
    let fields = fields_left (option_copied c.take_field.result.1) in
    refused_after c.args.format c.args.begun c.args.line.now c.in-Some.word c.fault_in-in-None-event_of.result fields
    (may_be_late c.in-Some.word c.in_default-word.not-Cache) c.in-Some.ensures.of_format
    (c.take_field.ensures ∙ ap (λ (first : List ℕ). first ∷ fields) c.in-Some.ensures.some)
    (λ begun slot. c.in_default-word.not-Slot slot) c.fault_in-in-None-event_of.ensures
