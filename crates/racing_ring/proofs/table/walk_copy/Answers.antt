use Rattle.std.proofs.Common.{◌/◌, arith}
use Rattle.shared_memory.specs.Sightings.{memory}
use Rattle.indirect.specs.Descriptors.{split_table}
use Rattle.indirect.proofs.Walking.{reached_step, resolves_step}
use Rattle.racing_ring.proofs.Tables.{entry_stands}
use Rattle.racing_ring.proofs.table.walk_copy.Goals as goal

pub returns-in-None-clause-ok : goal.returns-in-None-clause-ok
returns-in-None-clause-ok g c =
    let m = memory (g.M.Shared.sightings c.args.mem.now) in
    let d = c.of_split-descriptor.result in
    let e = entry_stands m c.args.addr c.args.len _ c.loop-count.index _ d c.requires.table.inside c.requires.copy
    (omega arith) c.of_split-descriptor.ensures in
    record {
      table = c.requires.table;
      path = resolves_step m c.args.chain.now c.loop-count.chain c.push.new.chain (split_table m c.args.addr)
          (c.args.len / 16) 0 c.loop-count._count c.loop-count.index d e c.loop-count-test.true c.if-index-entries.false
          c.if-descriptor.false c.in-None.is c.in_ok-push.ensures.ok c.in_ok-push.ensures.pushed
          c.loop-count.invariant;
    }

pub loop-count-preserved : goal.loop-count-preserved
loop-count-preserved g c =
    let m = memory (g.M.Shared.sightings c.args.mem.now) in
    let d = c.of_split-descriptor.result in
    let e = entry_stands m c.args.addr c.args.len _ c.loop-count.index _ d c.requires.table.inside c.requires.copy
    (omega arith) c.of_split-descriptor.ensures in
    rw c.from-index.ensures (reached_step m c.args.chain.now c.loop-count.chain c.push.new.chain
    (split_table m c.args.addr) (c.args.len / 16) 0 c.loop-count._count c.loop-count.index c.in-Some.next d e
    c.if-index-entries.false c.if-descriptor.false c.in-Some.is c.in_ok-push.ensures.ok c.in_ok-push.ensures.pushed
    c.loop-count.invariant)
