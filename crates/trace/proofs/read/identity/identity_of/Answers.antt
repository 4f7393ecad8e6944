use Rattle.trace.proofs.read.identity.identity_of.Goals as goal

pub returns-in_err-fill-clause-none : goal.returns-in_err-fill-clause-none
returns-in_err-fill-clause-none c =
    rw c.from_residual.ensures (λ says. c.in_err-fill.ensures.none says.0 says.1)
