use Rattle.std.proofs.Common.{◌*◌, arith}
use Rattle.indirect.proofs.Entries.{packed_entry_is, gathered_step}
use Rattle.shared_memory.specs.Sightings.{memory}
use Rattle.racing_ring.proofs.packed.table.append_buffers.Goals as goal

pub loop-index-preserved : goal.loop-index-preserved
loop-index-preserved g c =
    let m = memory (g.M.Shared.sightings c.args.mem.now) in
    let a = c.args.addr in
    let i = c.loop-index.index in
    let b = c.of.result.buffer in
    let e = packed_entry_is m a (i * 16) i b
    (c.of.ensures.buffer m a c.args.len c.requires.table.inside c.requires.copy) (omega arith) in
    gathered_step m a c.args.chain.now c.loop-index.chain c.push.new.chain i b e
    c.in_ok-push.ensures.ok c.in_ok-push.ensures.pushed c.loop-index.invariant
