use Rattle.trace.proofs.TrustedFields.{not_last, one_field}
use Rattle.trace.proofs.read.trusting.bytes_in.Goals as goal

pub unreachable-requires : goal.unreachable-requires
unreachable-requires c =
    not_last c.args.text.now c.requires.field c.requires.after c.requires.has c.in_default.ensures.none

pub returns : goal.returns
returns c field after h =
    one_field c.args.text.now field after c.in-Some.cut.0.now c.in-Some.cut.1.now h
    c.in-Some.ensures.ended c.in-Some.ensures.lines
