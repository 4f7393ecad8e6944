use Rattle.std.proofs.Common.{◌*◌, arith, rules}
use Rattle.indirect.specs.Descriptors.{split_table}
use Rattle.indirect.proofs.Entries.{entry_is, lent_by}
use Rattle.indirect.proofs.Walking.{reached_step, resolves_step, refused_stops, split_stops}
use Rattle.indirect.proofs.append.append_split.Goals as goal

pub returns-in_err-push-clause-fault : goal.returns-in_err-push-clause-fault
returns-in_err-push-clause-fault g c =
    let m = c.args.mem.now in
    let a = c.args.addr in
    let i = c.loop-count.index in
    let d = c.in_ok-descriptor.descriptor in
    let lent = lent_by m a c.from.result c.args.len _ c.slice-table.ensures.value c.from.ensures in
    let e = entry_is m a (i * 16) i d
    (c.in_ok-descriptor.ensures.ok m a c.args.len c.in_ok-entries.ensures.ok.inside lent) (omega arith) in
    let fails = split_stops c.args.mem.now c.args.addr c.args.len c.args.chain.now
    c.loop-count.chain c.push.new.self
    c.in_ok-entries.entries c.loop-count._count c.loop-count.index _ c.in_ok-entries.ensures.value
    c.in_ok-entries.ensures.ok
    c.in_err-push.ensures.err c.loop-count.invariant.walk
    (refused_stops c.args.mem.now c.loop-count.chain (split_table c.args.mem.now c.args.addr)
    c.in_ok-entries.entries c.loop-count._count c.loop-count.index
    c.in_ok-descriptor.descriptor _ e c.loop-count-test.true c.if-index-entries.false
    c.in_ok-descriptor.ensures.plain c.in_err-push.ensures.fault) in
    search (rules, fails)

pub returns-in-None-clause-ok : goal.returns-in-None-clause-ok
returns-in-None-clause-ok g c =
    let i = c.loop-count.index in
    let m = c.args.mem.now in
    let d = c.in_ok-descriptor.descriptor in
    let a = c.args.addr in
    let lent = lent_by m a c.from.result c.args.len _ c.slice-table.ensures.value c.from.ensures in
    let e = entry_is m a (i * 16) i d
    (c.in_ok-descriptor.ensures.ok m a c.args.len c.in_ok-entries.ensures.ok.inside lent) (omega arith) in
    record {
      table = c.in_ok-entries.ensures.ok;
      path = rw (← c.in_ok-entries.ensures.value)
          (resolves_step c.args.mem.now c.args.chain.now c.loop-count.chain c.push.new.self
          (split_table c.args.mem.now c.args.addr) c.in_ok-entries.entries 0
          c.loop-count._count c.loop-count.index
          c.in_ok-descriptor.descriptor e c.loop-count-test.true c.if-index-entries.false
          c.in_ok-descriptor.ensures.plain c.in-None.is
          c.in_ok-push.ensures.ok c.in_ok-push.ensures.pushed c.loop-count.invariant.walk);
    }

pub loop-count-preserved : goal.loop-count-preserved
loop-count-preserved g c =
    let d = c.in_ok-descriptor.descriptor in
    let a = c.args.addr in
    let m = c.args.mem.now in
    let i = c.loop-count.index in
    let lent = lent_by m a c.from.result c.args.len _ c.slice-table.ensures.value c.from.ensures in
    let e = entry_is m a (i * 16) i d
    (c.in_ok-descriptor.ensures.ok m a c.args.len c.in_ok-entries.ensures.ok.inside lent) (omega arith) in
    rw c.from-index.ensures (record {
      walk = reached_step c.args.mem.now c.args.chain.now c.loop-count.chain c.push.new.self
          (split_table c.args.mem.now c.args.addr)
          c.in_ok-entries.entries 0 c.loop-count._count c.loop-count.index c.in-Some.next
          c.in_ok-descriptor.descriptor e c.if-index-entries.false
          c.in_ok-descriptor.ensures.plain c.in-Some.is
          c.in_ok-push.ensures.ok c.in_ok-push.ensures.pushed c.loop-count.invariant.walk;
      keeps = λ g. c.in_ok-push.ensures.keeps (c.loop-count.invariant.keeps g);
    })
