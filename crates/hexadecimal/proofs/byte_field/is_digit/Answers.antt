use Rattle.hexadecimal.proofs.Judging.{past_tells}
use Rattle.hexadecimal.proofs.byte_field.is_digit.Goals as goal

pub returns : goal.returns
returns c =
    past_tells c.args.c c.saturating_sub-past_figures.result c.saturating_sub-past_letters.result c.lower.result
    c.ranges.c.fits c.saturating_sub-past_figures.ensures c.saturating_sub-past_letters.ensures c.lower.ensures
