use Rattle.std.proofs.Common.{get_or, sym, ap, ◌∙◌, arith}
use Rattle.hexadecimal.specs.Spelling.{digit}
use Rattle.hexadecimal.specs.declared.digit.TheConstants.{VALUES}
use Rattle.hexadecimal.proofs.Table.{found}
use Rattle.hexadecimal.proofs.digit.value_at.Goals as goal

pub returns : goal.returns
returns c =
    let d = c.requires in
    let small = d.small in
    let same = ap (λ x. get_or VALUES x 0) d.is ∙ found d.value d.small in
    record { small = omega (arith, small, same); is = ap digit same ∙ sym d.is }
