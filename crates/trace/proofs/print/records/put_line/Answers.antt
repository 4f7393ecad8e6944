use Rattle.std.proofs.Common.{◌++◌, ◌∙◌, codes, length, refl, sym}
use Rattle.std.proofs.lemmas.Bool.{eqb-true}
use Rattle.hexadecimal.specs.Spelling.{fixed, num}
use Rattle.trace.proofs.Passing.{sends_same}
use Rattle.trace.proofs.RecordLines.{quiet_of}
use Rattle.trace.proofs.print.records.put_line.Goals as goal

pub returns-in-Value : goal.returns-in-Value
returns-in-Value g c =
    sends_same _ _ _ _ _ _
    (quiet_of c.args.slot c.args.reply.now c.args.output.now c.args.words (codes "v:"
    ++ fixed 8 c.in-Value.value) (eqb-true (length c.args.output.now) 0 (sym c.is_empty.ensures
    ∙ c.if-not-is_empty.false)) (rw c.in-Value.is refl))
    c.put_value.ensures

pub returns-in-Done : goal.returns-in-Done
returns-in-Done g c =
    sends_same _ _ _ _ _ _
    (quiet_of c.args.slot c.args.reply.now c.args.output.now c.args.words (codes "done")
    (eqb-true (length c.args.output.now) 0 (sym c.is_empty.ensures ∙ c.if-not-is_empty.false))
    (rw c.in-Done.is refl))
    c.put_done.ensures

pub returns-in-Took : goal.returns-in-Took
returns-in-Took g c =
    sends_same _ _ _ _ _ _
    (quiet_of c.args.slot c.args.reply.now c.args.output.now c.args.words (codes "took:"
    ++ num c.in-Took.count) (eqb-true (length c.args.output.now) 0 (sym c.is_empty.ensures
    ∙ c.if-not-is_empty.false)) (rw c.in-Took.is refl))
    c.put_took.ensures
