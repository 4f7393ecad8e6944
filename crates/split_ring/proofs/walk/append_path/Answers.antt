use Rattle.std.proofs.Common.{ℕ, ◌*◌, [], arith, rules}
use Rattle.std.proofs.lemmas.Result.{on_ok_weaker}
use Rattle.indirect.specs.Descriptors.{split_table}
use Rattle.indirect.specs.Lists.{split_tables, EndsInTable}
use Rattle.indirect.proofs.Entries.{entry_is, lent_by}
use Rattle.indirect.proofs.Walking.{reached_step}
use Rattle.indirect.proofs.Listing.{list_refused, list_table}
use Rattle.split_ring.proofs.walk.append_path.Goals as goal

pub loop-count-preserved : goal.loop-count-preserved
loop-count-preserved g c =
    let i = c.loop-count.index in
    let d = c.of_split-descriptor.result in
    let lent = lent_by c.args.mem.now c.args.table.addr (16 * c.from.result) (16 * c.args.table.size) _
    c.slice-descriptors.ensures.value (omega (arith, c.from.ensures)) in
    let e = entry_is c.args.mem.now c.args.table.addr (16 * c.from-in-loop-count.result) i d
    (c.of_split-descriptor.ensures _ _ (16 * c.args.table.size) c.requires.area lent) (omega arith) in
    reached_step c.args.mem.now [] c.loop-count.chain c.push.new.self
    (split_table c.args.mem.now c.args.table.addr) c.args.table.size c.args.head
    c.loop-count._count i c.in-Some.next
    d e c.if-index-table.false c.if-descriptor.false c.in-Some.is
    c.in_ok-push.ensures.ok c.in_ok-push.ensures.pushed c.loop-count.invariant

pub returns-in_err-push-clause-fault : goal.returns-in_err-push-clause-fault
returns-in_err-push-clause-fault g c =
    let m = c.args.mem.now in
    let n = c.args.table.size in
    let a = c.args.table.addr in
    let lent = lent_by m a (16 * c.from.result) (16 * n) _ c.slice-descriptors.ensures.value
    (omega (arith, c.from.ensures)) in
    let d = c.of_split-descriptor.result in
    let i = c.loop-count.index in
    let e = entry_is m a (16 * c.from-in-loop-count.result) i d
    (c.of_split-descriptor.ensures _ _ (16 * n) c.requires.area lent) (omega arith) in
    let fails = list_refused split_tables c.args.table.indirect m (split_table m a) n c.args.head
    c.loop-count.chain c.loop-count._count i d _
    e c.loop-count-test.true c.if-index-table.false c.if-descriptor.false c.in_err-push.ensures.fault
    c.loop-count.invariant in
    search (rules, fails)

pub returns-then-descriptor-clause-ok : goal.returns-then-descriptor-clause-ok
returns-then-descriptor-clause-ok g c =
    let m = c.args.mem.now in
    let a = c.args.table.addr in
    let i = c.loop-count.index in
    let k = c.loop-count._count in
    let d = c.of_split-descriptor.result in
    let before = c.loop-count.chain in
    let after = c.append_table.new.chain in
    let lent = lent_by m a (16 * c.from.result) (16 * c.args.table.size) _ c.slice-descriptors.ensures.value
    (omega (arith, c.from.ensures)) in
    let e = entry_is m a (16 * c.from-in-loop-count.result) i d
    (c.of_split-descriptor.ensures m a (16 * c.args.table.size) c.requires.area lent) (omega arith) in
    on_ok_weaker c.append_table.result
    (λ (ends : (count : ℕ) → EndsInTable split_tables c.args.table.indirect m before count d after). (
      k,
      i,
      list_table split_tables c.args.table.indirect m (split_table m a) c.args.table.size
          c.args.head before after k i d
          e c.loop-count-test.true c.if-index-table.false c.if-descriptor.true (ends k).known (ends k).apart
          (ends k).table c.loop-count.invariant,
    ))
    c.append_table.ensures.ok
