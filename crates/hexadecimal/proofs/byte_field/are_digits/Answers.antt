use Rattle.std.proofs.Common.{ℕ, List, ◌↔◌, All, IsTrue, subst, arith}
use Rattle.std.proofs.lemmas.List.{take_all}
use Rattle.hexadecimal.specs.Fields.{IsDigit}
use Rattle.hexadecimal.proofs.Judging.{judged_more}
use Rattle.hexadecimal.proofs.byte_field.are_digits.Goals as goal

pub loop-c-preserved : goal.loop-c-preserved
loop-c-preserved c = judged_more c.args.field.now c.loop-c.c-index c.loop-c.all c.is_digit-all.result
    (omega arith) c.loop-c.invariant c.is_digit-all.ensures

pub returns : goal.returns
returns c = subst (λ (xs : List ℕ). IsTrue c.loop-c.all
    ↔ All IsDigit xs) (take_all c.loop-c.c-index c.args.field.now (omega arith)) c.loop-c.invariant
