use Rattle.std.proofs.Common.{length, sym, ap, subst, ◌∙◌, arith}
use Rattle.std.proofs.lemmas.Result.{err_from_is_err_and}
use Rattle.std.proofs.lemmas.Bool.{eqb-false, eqb-true, ltb-false, ltb-true}
use Rattle.trace.specs.declared.fault.FaultKind.TheVariants as kind
use Rattle.trace.specs.Text.{content}
use Rattle.trace.specs.Refusals.{has_begun}
use Rattle.trace.proofs.Sofar.{Sofar, all_read, begun_so, clean, entry_read, is_cut, is_refused, numbered}
use Rattle.trace.proofs.Unique.{no_fault, one_trace}
use Rattle.trace.proofs.read.read_trace.Goals as goal

pub returns-in_err-format-clause-none : goal.returns-in_err-format-clause-none
returns-in_err-format-clause-none g c =
    let p = err_from_is_err_and c.from_residual.result c.from_residual.ensures.1 in
    rw (p.1, p.2) (λ known u range printable is.
    no_fault c.args.text.now u _ _ (record { range = range; printable = printable }) is
    (c.in_err-format.ensures.fault known))

pub loop-rest-init : goal.loop-rest-init
loop-rest-init g c =
    subst (λ x. Sofar c.args.text.now x 3 c.in_ok-format.rest.now) (sym c.new-trace.ensures)
    (begun_so c.args.text.now c.in_ok-format.format c.in_ok-format.cache c.in_ok-format.rest.now
    c.in_ok-format.ensures.ok)

pub returns-in_default-clause-fault : goal.returns-in_default-clause-fault
returns-in_default-clause-fault g c known =
    is_cut c.loop-rest.invariant c.in_default.ensures.none
    (λ e. eqb-false (length c.loop-rest.rest.now) 0 (sym c.loop-rest-test.ensures) (ap length e))

pub returns-in_default-clause-none : goal.returns-in_default-clause-none
returns-in_default-clause-none g c known u range printable is =
    no_fault c.args.text.now u c.loop-rest.line kind.Cut (record { range = range; printable = printable }) is
    (returns-in_default-clause-fault g c known)

pub returns-in_default-clause-numbered : goal.returns-in_default-clause-numbered
returns-in_default-clause-numbered g c = let n = c.loop-rest.invariant.count in omega arith

pub returns-in_default-clause-clean : goal.returns-in_default-clause-clean
returns-in_default-clause-clean g c =
    clean c.loop-rest.invariant

pub returns-in-Err-clause-fault : goal.returns-in-Err-clause-fault
returns-in-Err-clause-fault g c known =
    is_refused c.loop-rest.invariant (has_begun (content c.loop-rest.trace)) c.in-Some.this.now c.in-Some.after.now
    c.in-Err.kind c.in-Some.ensures.lines
    (ltb-true 0 (length c.loop-rest.trace.events.items))
    (λ e. let none = ltb-false 0 (length c.loop-rest.trace.events.items) e in
    omega arith) (c.in-Err.ensures.err known) known

pub returns-in-Err-clause-none : goal.returns-in-Err-clause-none
returns-in-Err-clause-none g c known u range printable is =
    no_fault c.args.text.now u c.loop-rest.line c.in-Err.kind
    (record { range = range; printable = printable }) is (returns-in-Err-clause-fault g c known)

pub returns-in-Err-clause-numbered : goal.returns-in-Err-clause-numbered
returns-in-Err-clause-numbered g c = let n = c.loop-rest.invariant.count in omega arith

pub returns-in-Err-clause-clean : goal.returns-in-Err-clause-clean
returns-in-Err-clause-clean g c =
    clean c.loop-rest.invariant

pub overflow_add-line : goal.overflow_add-line
overflow_add-line g c = let n =
    numbered c.loop-rest.invariant in omega arith

pub loop-rest-preserved : goal.loop-rest-preserved
loop-rest-preserved g c =
    entry_read (content c.add_line.new.trace) c.in-Some.this.now c.in-Some.after.now c.loop-rest.invariant
    c.in-Some.ensures.ended c.in_default-add_line.ensures.ok

pub returns-clause-found : goal.returns-clause-found
returns-clause-found g c =
    all_read c.loop-rest.invariant (eqb-true (length c.loop-rest.rest.now) 0 (sym c.loop-rest-test.ensures))

pub returns-clause-only : goal.returns-clause-only
returns-clause-only g c u range printable is =
    one_trace u (content c.loop-rest.trace) (record { range = range; printable = printable })
    c.loop-rest.invariant.fits (sym is ∙ returns-clause-found g c)
