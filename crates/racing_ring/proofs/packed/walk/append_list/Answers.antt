use Rattle.std.proofs.Common.{arith}
use Rattle.std.specs.Prelude.{if◌then◌else◌}
use Rattle.std.proofs.lemmas.Result.{err_from_is_err_and}
use Rattle.shared_memory.proofs.Sightings.{inside_loads, loads_none, loads_trans}
use Rattle.racing_ring.proofs.Positions.{next_below}
use Rattle.racing_ring.proofs.Listing.{followed_start, followed_step, hidden, listed_full, listed_plain, listed_refused, listed_table, listed_table_refused, shown}
use Rattle.racing_ring.proofs.packed.walk.append_list.Goals as goal

pub loop-count-init : goal.loop-count-init
loop-count-init g c =
    let l = g.M.Shared.sightings c.args.mem.now in
    record {
      loads = loads_none g.M.Shared.races l;
      area = c.requires.area;
      below = c.requires.first;
      list = rw c.requires.empty (followed_start l c.args.table.addr c.args.table.size c.args.first
          (if c.args.wrap then 1 else 0) c.requires.first);
    }

pub returns-clause-fault : goal.returns-clause-fault
returns-clause-fault g c =
    let i = c.loop-count.invariant in
    listed_full c.args.table.indirect c.requires.first i.loads i.list (omega arith)

pub returns-then-is_withheld-clause-withheld : goal.returns-then-is_withheld-clause-withheld
returns-then-is_withheld-clause-withheld g c =
    let i = c.loop-count.invariant in
    (hidden c.requires.first i.loads c.copy_at-copied.ensures.loads i.list
    c.copy_at-copied.ensures.copied c.is_withheld.ensures c.if-is_withheld.true).0

pub returns-then-is_withheld-clause-none : goal.returns-then-is_withheld-clause-none
returns-then-is_withheld-clause-none g c =
    let i = c.loop-count.invariant in
    (hidden c.requires.first i.loads c.copy_at-copied.ensures.loads i.list
    c.copy_at-copied.ensures.copied c.is_withheld.ensures c.if-is_withheld.true).1

pub returns-in_err-append_table-clause-fault : goal.returns-in_err-append_table-clause-fault
returns-in_err-append_table-clause-fault g c =
    let i = c.loop-count.invariant in
    let s = shown c.requires.first c.loop-count-test.true i.loads c.copy_at-copied.ensures.loads i.list
    c.copy_at-copied.ensures.copied c.is_withheld.ensures c.if-is_withheld.false in
    let fails = listed_table_refused c.args.table.indirect c.loop-count-test.true i.below s c.append_table.ensures.loads
    c.if-descriptor.true c.in_err-append_table.ensures.fault in
    let p = err_from_is_err_and c.from_residual.result c.from_residual.ensures.1 in
    rw (p.1, p.2) fails

pub returns-then-descriptor-clause-listed : goal.returns-then-descriptor-clause-listed
returns-then-descriptor-clause-listed g c =
    let i = c.loop-count.invariant in
    let s = shown c.requires.first c.loop-count-test.true i.loads c.copy_at-copied.ensures.loads i.list
    c.copy_at-copied.ensures.copied c.is_withheld.ensures c.if-is_withheld.false in
    listed_table c.args.table.indirect c.loop-count-test.true i.below s c.append_table.ensures.loads
    c.if-descriptor.true c.in_ok-append_table.ensures.ok

pub returns-in_err-push-clause-fault : goal.returns-in_err-push-clause-fault
returns-in_err-push-clause-fault g c =
    let i = c.loop-count.invariant in
    let s = shown c.requires.first c.loop-count-test.true i.loads c.copy_at-copied.ensures.loads i.list
    c.copy_at-copied.ensures.copied c.is_withheld.ensures c.if-is_withheld.false in
    let fails = listed_refused c.args.table.indirect c.loop-count-test.true i.below s (loads_none _ _)
    c.if-descriptor.false c.in_err-push.ensures.fault in
    let p = err_from_is_err_and c.from_residual-in_err-push.result c.from_residual-in_err-push.ensures.1 in
    rw (p.1, p.2) fails

pub returns-in-None-clause-listed : goal.returns-in-None-clause-listed
returns-in-None-clause-listed g c =
    let i = c.loop-count.invariant in
    let s = shown c.requires.first c.loop-count-test.true i.loads c.copy_at-copied.ensures.loads i.list
    c.copy_at-copied.ensures.copied c.is_withheld.ensures c.if-is_withheld.false in
    listed_plain c.args.table.indirect c.loop-count-test.true i.below s (loads_none _ _)
    c.if-descriptor.false c.in-None.is c.in_ok-push.ensures.ok c.in_ok-push.ensures.pushed

pub loop-count-preserved : goal.loop-count-preserved
loop-count-preserved g c =
    let i = c.loop-count.invariant in
    let s = shown c.requires.first c.loop-count-test.true i.loads c.copy_at-copied.ensures.loads i.list
    c.copy_at-copied.ensures.copied c.is_withheld.ensures c.if-is_withheld.false in
    let list = followed_step c.requires.first c.loop-count-test.true i.below s
    c.if-descriptor.false c.in-Some.is c.in_ok-push.ensures.ok c.in_ok-push.ensures.pushed in
    record {
      loads = s.loads;
      area = inside_loads _ _ _ c.args.table.addr _ c.copy_at-copied.ensures.loads i.area;
      below = next_below c.args.table.size c.args.first c.loop-count.count c.in-Some.next c.requires.first list.at;
      list = list;
    }

pub returns-in_err-append_table-clause-loads : goal.returns-in_err-append_table-clause-loads
returns-in_err-append_table-clause-loads g c =
    loads_trans _ _ _ _ (loads_trans _ _ _ _ c.loop-count.invariant.loads c.copy_at-copied.ensures.loads)
    c.append_table.ensures.loads

pub returns-then-descriptor-clause-loads : goal.returns-then-descriptor-clause-loads
returns-then-descriptor-clause-loads g c =
    loads_trans _ _ _ _ (loads_trans _ _ _ _ c.loop-count.invariant.loads c.copy_at-copied.ensures.loads)
    c.append_table.ensures.loads
