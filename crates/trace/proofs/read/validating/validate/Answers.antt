use Rattle.std.proofs.Common.{length, refl, sym, arith}
use Rattle.std.proofs.lemmas.Result.{err_from_is_err_and}
use Rattle.std.proofs.lemmas.Bool.{eqb-false, eqb-true}
use Rattle.trace.proofs.Validations.{fault_later, first_more, first_refused, is_fault, validated_first, validated_whole}
use Rattle.trace.proofs.Sofar.{begun_so, numbered}
use Rattle.trace.proofs.read.validating.validate.Goals as goal

pub returns-in_err-format-clause-fault : goal.returns-in_err-format-clause-fault
returns-in_err-format-clause-fault g c =
    let head = c.in_err-format.ensures in
    let p = err_from_is_err_and c.from_residual.result c.from_residual.ensures.1 in
    rw (p.1, p.2) (is_fault g.row.A.Denot c.args.text.now _ head.fault head.numbered head.clean)

pub loop-rest-init : goal.loop-rest-init
loop-rest-init g c =
    let head = c.in_ok-format in
    validated_first g.row.A.Denot c.args.text.now head.format head.cache _ head.rest.now c.new.ensures.items
    (begun_so c.args.text.now head.format head.cache head.rest.now head.ensures.ok)

pub returns-in-Err-clause-fault : goal.returns-in-Err-clause-fault
returns-in-Err-clause-fault g c =
    fault_later c.loop-rest.invariant _ refl
    (λ known. first_refused c.loop-rest.invariant c.in-Err.kind
    (eqb-false (length c.loop-rest.rest.now) 0 (sym c.loop-rest-test.ensures)) (c.in-Err.ensures.err known) known)

pub overflow_add-line : goal.overflow_add-line
overflow_add-line g c =
    let n = numbered c.loop-rest.invariant.so in
    omega arith

pub loop-rest-preserved : goal.loop-rest-preserved
loop-rest-preserved g c = first_more c.loop-rest.invariant _ c.in-Ok.after.now c.in-Ok.ensures.ok

pub returns-clause-ok : goal.returns-clause-ok
returns-clause-ok g c =
    validated_whole c.loop-rest.invariant (eqb-true (length c.loop-rest.rest.now) 0 (sym c.loop-rest-test.ensures))
