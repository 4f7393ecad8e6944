use Rattle.std.proofs.Common.{◌*◌, arith}
use Rattle.indirect.proofs.Entries.{packed_entry_is, gathered_step, lent_by}
use Rattle.indirect.proofs.append.append_packed.Goals as goal

pub loop-index-preserved : goal.loop-index-preserved
loop-index-preserved g c =
    let m = c.args.mem.now in
    let a = c.args.addr in
    let i = c.loop-index.index in
    let b = c.of.result.buffer in
    let lent = lent_by m a c.from.result c.args.len _ c.slice-table.ensures.value c.from.ensures in
    let e = packed_entry_is m a (i * 16) i b
    (c.of.ensures.buffer m a c.args.len c.in_ok-entries.ensures.ok.inside lent) (omega arith) in
    record {
      gathered = gathered_step m a c.args.chain.now c.loop-index.chain c.push.new.self i b e
          c.in_ok-push.ensures.ok c.in_ok-push.ensures.pushed c.loop-index.invariant.gathered;
      keeps =
          λ g. c.in_ok-push.ensures.keeps (c.loop-index.invariant.keeps g);
    }
