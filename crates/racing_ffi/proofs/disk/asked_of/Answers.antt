use Rattle.std.proofs.Common.{◌∙◌, sym}
use Rattle.racing_ffi.proofs.InFlight.{told}
use Rattle.racing_ffi.proofs.disk.asked_of.Goals as goal

pub returns-clause-asked : goal.returns-clause-asked
returns-clause-asked c =
    told c.args.session.now c.args.tag c.in_ok-asked.asked c.runs.result.now (sym c.operation.ensures ∙ c.in_ok-asked.was)
    c.runs.ensures.runs c.runs.ensures.inside
