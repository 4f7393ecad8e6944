use Rattle.trace.proofs.Unique.{one_trace}
use Rattle.trace.proofs.laws.one_trace.Goals as goal

pub returns : goal.returns
returns g c s t rs rt ps pt e =
    one_trace s t (record { range = rs; printable = ps }) (record { range = rt; printable = pt }) e
