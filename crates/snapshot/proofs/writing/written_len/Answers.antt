use Rattle.std.proofs.Common.{arith, false, refl}
use Rattle.std.specs.Prelude.{◌++◌}
use Rattle.snapshot.proofs.Joining.{front_len, same_len}
use Rattle.snapshot.proofs.writing.written_len.Goals as goal

pub returns-clause-value : goal.returns-clause-value
returns-clause-value c = λ waits.
    let long = front_len c.args.saved.now false c.args.front.now c.args.back.now c.head_of.result.items _
    c.head_of.ensures.text refl in
    let same = same_len c.args.saved.now (c.args.front.now ++ c.args.back.now) waits false in
    omega (arith, long, same, c.len.ensures.value)
