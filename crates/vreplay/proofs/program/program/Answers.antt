use Rattle.vreplay.proofs.Statuses.{two_is_usage}
use Rattle.vreplay.proofs.program.program.Goals as goal

pub returns-clause-only_usage : goal.returns-clause-only_usage
returns-clause-only_usage g c =
    λ two. c.carry_out-outcome.ensures.usage
    (two_is_usage c.carry_out-outcome.result c.end.result _ _ c.end.ensures.done c.end.ensures.fault two)
