use Rattle.std.proofs.Common.{refl}
use Rattle.trace.specs.Text.{text}
use Rattle.trace.proofs.Unique.{no_fault}
use Rattle.trace.proofs.laws.a_trace_has_no_fault.Goals as goal

pub returns : goal.returns
returns g c t line fault range printable is =
    no_fault (text t) t line fault (record { range = range; printable = printable }) refl is
