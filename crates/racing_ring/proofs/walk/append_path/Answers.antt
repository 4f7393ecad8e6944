use Rattle.std.proofs.Common.{ℕ, arith, rules}
use Rattle.std.proofs.lemmas.Result.{IfErr-weaker, on_ok_weaker}
use Rattle.indirect.specs.Lists.{split_tables, EndsInTable, TableRefused}
use Rattle.shared_memory.specs.Sightings.{memory}
use Rattle.shared_memory.proofs.Sightings.{loads_none}
use Rattle.racing_ring.proofs.Knowing.{seen_none}
use Rattle.racing_ring.proofs.Walking.{looked_later, looked_up, walk_full, walk_on, walk_past, walk_plain, walk_refused, walk_table, walk_table_refused, walked_start}
use Rattle.racing_ring.specs.Walk.{IsWalkFaulty}
use Rattle.racing_ring.proofs.walk.append_path.Goals as goal

pub loop-count-init : goal.loop-count-init
loop-count-init g c =
    let l = g.M.Shared.sightings c.args.mem.now in
    record {
      loads = loads_none g.M.Shared.races l;
      seen = rw c.requires.unread (seen_none l.now l c.args.table.addr 256);
      walk = rw c.requires.empty (walked_start (memory l) c.args.room.now.known c.args.table.size c.args.head);
    }

pub returns-then-index-table-clause-fault : goal.returns-then-index-table-clause-fault
returns-then-index-table-clause-fault g c =
    walk_past c.loop-count.invariant c.args.table.indirect c.loop-count-test.true c.if-index-table.true

pub returns-clause-fault : goal.returns-clause-fault
returns-clause-fault g c = walk_full c.loop-count.invariant c.args.table.indirect (omega arith)

pub loop-count-preserved : goal.loop-count-preserved
loop-count-preserved g c =
    let read = c.descriptor-descriptor.ensures in
    walk_on (looked_up c.loop-count.invariant read.loads read.looked) read.looked.found c.if-index-table.false
    c.if-descriptor.false c.in-Some.is c.in_ok-push.ensures.ok c.in_ok-push.ensures.pushed

pub returns-in-None-clause-ok : goal.returns-in-None-clause-ok
returns-in-None-clause-ok g c =
    let read = c.descriptor-descriptor.ensures in
    walk_plain (looked_up c.loop-count.invariant read.loads read.looked) c.args.table.indirect read.looked.found
    c.loop-count-test.true c.if-index-table.false c.if-descriptor.false c.in-None.is c.in_ok-push.ensures.ok
    c.in_ok-push.ensures.pushed

pub returns-in_err-push-clause-fault : goal.returns-in_err-push-clause-fault
returns-in_err-push-clause-fault g c =
    let read = c.descriptor-descriptor.ensures in
    let fails = walk_refused (looked_up c.loop-count.invariant read.loads read.looked) c.args.table.indirect
    read.looked.found c.loop-count-test.true c.if-index-table.false c.if-descriptor.false c.in_err-push.ensures.fault in
    search (rules, fails)

pub returns-then-descriptor-clause-ok : goal.returns-then-descriptor-clause-ok
returns-then-descriptor-clause-ok g c =
    let m = memory (g.M.Shared.sightings c.append_table.new.mem) in
    let read = c.descriptor-descriptor.ensures in
    let s = looked_later (looked_up c.loop-count.invariant read.loads read.looked) c.append_table.ensures.loads in
    on_ok_weaker c.append_table.result
    (λ (ends : (count : ℕ) → EndsInTable split_tables c.args.table.indirect m c.loop-count.chain count
    c.descriptor-descriptor.result c.append_table.new.chain).
    walk_table s c.args.table.indirect read.looked.found c.loop-count-test.true c.if-index-table.false
    c.if-descriptor.true (ends c.loop-count._count))
    c.append_table.ensures.ok

pub returns-then-descriptor-clause-fault : goal.returns-then-descriptor-clause-fault
returns-then-descriptor-clause-fault g c =
    let old = g.M.Shared.sightings c.args.mem.now in
    let new = g.M.Shared.sightings c.append_table.new.mem in
    let read = c.descriptor-descriptor.ensures in
    let s = looked_later (looked_up c.loop-count.invariant read.loads read.looked) c.append_table.ensures.loads in
    IfErr-weaker c.append_table.result
    (λ fault. (count : ℕ) → TableRefused split_tables c.args.table.indirect (memory new) c.loop-count.chain count
    c.descriptor-descriptor.result fault)
    (IsWalkFaulty old.now new c.args.table.indirect c.args.table.addr c.args.table.size c.args.head)
    (λ fault refused. walk_table_refused s c.args.table.indirect read.looked.found c.loop-count-test.true
    c.if-index-table.false c.if-descriptor.true (refused c.loop-count._count))
    c.append_table.ensures.fault
