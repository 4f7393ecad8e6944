use Rattle.std.proofs.lemmas.List.Elements.{All-nil}
use Rattle.hexadecimal.specs.Fields.{IsDigit}
use Rattle.hexadecimal.proofs.Judging.{one_more}
use Rattle.hexadecimal.proofs.byte_field.digits_len.Goals as goal

pub past_blocks-n-requires-clause-digits : goal.past_blocks-n-requires-clause-digits
past_blocks-n-requires-clause-digits c = All-nil IsDigit

pub loop-n-preserved : goal.loop-n-preserved
loop-n-preserved c =
    one_more c.args.text.now c.loop-n.n c.is_digit.result c.loop-n.invariant c.loop-n-test.true
    c.if-is_digit.true c.is_digit.ensures
