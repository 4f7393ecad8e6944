use Rattle.std.proofs.Common.{sym, ◌∙◌, arith}
use Rattle.hexadecimal.proofs.Numbers.{same_num}
use Rattle.trace.proofs.Disks.{spare_behind}
use Rattle.trace.proofs.read.choice.spare_of.Goals as goal

pub returns-then-spare-eq0-clause-none : goal.returns-then-spare-eq0-clause-none
returns-then-spare-eq0-clause-none c = λ spare some disk.
    let number = spare_behind c.args.field.now _ spare c.in_ok-digits.ensures some disk in
    let same = same_num spare _ (sym number.spelled ∙ c.in_ok-spare.ensures.some.spelled) in
    some (omega (arith, same, c.if-spare-eq0.true))
