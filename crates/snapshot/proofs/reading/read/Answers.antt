use Rattle.std.proofs.Common.{Ok, Err, sym, ◌∙◌, ap, arith}
use Rattle.snapshot.proofs.Exact.{ok_is}
use Rattle.snapshot.proofs.First.{first_fault, first_fault_once}
use Rattle.snapshot.proofs.OfSlot.{snapshot_or_stop, snapshot_read, whole_found}
use Rattle.snapshot.proofs.reading.read.Goals as goal

pub returns-in-Ok-clause-spelled : goal.returns-in-Ok-clause-spelled
returns-in-Ok-clause-spelled c =
    whole_found c.args.bytes.now _ (λ i. omega (arith, c.type_inv.bytes i)) c.in-Ok.ensures

pub returns-in-Ok-clause-only : goal.returns-in-Ok-clause-only
returns-in-Ok-clause-only c = λ slot pending waiting is.
    ap Ok (ok_is (slot, pending, waiting) _ (sym (snapshot_read c.args.bytes.now slot pending waiting is) ∙ c.in-Ok.ensures))

pub returns-in-Ok-clause-exact : goal.returns-in-Ok-clause-exact
returns-in-Ok-clause-exact c = λ fault is.
    let found = whole_found c.args.bytes.now _ (λ i. omega (arith, c.type_inv.bytes i)) c.in-Ok.ensures in
    absurd (is.none _ _ _ found)

pub returns-in-Err-clause-only : goal.returns-in-Err-clause-only
returns-in-Err-clause-only c = λ slot pending waiting is.
    absurd (snapshot_or_stop c.args.bytes.now slot pending waiting _ is c.in-Err.ensures)

pub returns-in-Err-clause-fault : goal.returns-in-Err-clause-fault
returns-in-Err-clause-fault c =
    rw c.saturating_sub.ensures
    (first_fault c.args.bytes.now _ (λ i. omega (arith, c.type_inv.bytes i)) c.in-Err.ensures)

pub returns-in-Err-clause-exact : goal.returns-in-Err-clause-exact
returns-in-Err-clause-exact c = λ fault is.
    rw c.saturating_sub.ensures
    (ap Err (first_fault_once c.args.bytes.now _ fault
    (first_fault c.args.bytes.now _ (λ i. omega (arith, c.type_inv.bytes i)) c.in-Err.ensures) is))
