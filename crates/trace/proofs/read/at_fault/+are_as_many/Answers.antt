use Rattle.std.proofs.Common.{arith}
use Rattle.trace.proofs.Cutting.{some_fields}
use Rattle.trace.proofs.read.at_fault.+are_as_many.Goals as goal

pub returns-in_default-fields : goal.returns-in_default-fields
returns-in_default-fields t c =
    let some = some_fields c.in-Some.line.now in
    rw c.in-Some.is (λ e. absurd cc, λ e. absurd (omega (arith, some, e)))
