use Rattle.std.specs.Option.{option_copied}
use Rattle.trace.specs.declared.format.Format.TheVariants.{Extended}
use Rattle.trace.specs.Cuts.{fields_left}
use Rattle.trace.proofs.Values.{same_right}
use Rattle.trace.proofs.read.fields.event_of.Goals as goal

pub returns-in_err-values-clause-none : goal.returns-in_err-values-clause-none
returns-in_err-values-clause-none g c =
    rw c.from_residual.ensures
    (λ format right. c.in_err-values.ensures.none
    (same_right format Extended c.args.word (fields_left (option_copied c.args.rest)) c.requires.not_slot
    right))
