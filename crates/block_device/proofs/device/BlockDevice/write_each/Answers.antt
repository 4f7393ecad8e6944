use Rattle.std.proofs.Common.{◌+◌, arith}
use Rattle.std.proofs.lemmas.Result.{err_from_is_err_and}
use Rattle.std.specs.List.{range_with_len}
use Rattle.chain.specs.Bytes.{readable_of}
use Rattle.block_device.proofs.Transfers.{writing_start, writing_more, writing_ends, writing_fails}
use Rattle.block_device.specs.Touching.{on_image}
use Rattle.block_device.proofs.Touching.{range_has, unwritten, written_nothing, written_sector}
use Rattle.block_device.proofs.device.BlockDevice.write_each.Goals as goal

pub loop-done-init : goal.loop-done-init
loop-done-init g c = (
  writing_start (g.I.Image.disk c.args.cache.now) (c.args.self.now.extent.start + c.args.sector) _,
  unwritten (on_image c.args.self.now.extent (range_with_len c.args.sector c.args.count)),
)

pub loop-done-preserved : goal.loop-done-preserved
loop-done-preserved g c = (
  writing_more (g.I.Image.disk c.args.cache.now) (g.I.Image.disk c.loop-done.cache)
      (g.I.Image.disk c.write.new.self) (c.args.self.now.extent.start + c.args.sector)
      c.args.count c.loop-done.done (readable_of c.args.mem.now c.args.chain.now) _
      (g.met.I.Image.whole c.args.cache.now) c.loop-done.invariant.0
      c.loop-done-test.true c.requires.payload (omega arith) c.sector_at-bytes.ensures
      c.in_ok-write.ensures.ok,
  written_sector c.args.self.now.extent (range_with_len c.args.sector c.args.count)
      (c.args.sector + c.loop-done.done) (c.args.self.now.extent.start + c.args.sector + c.loop-done.done)
      c.loop-done.invariant.1 (range_has c.args.sector c.args.count c.loop-done.done
      c.loop-done-test.true)
      (omega arith) c.write.ensures.touches,
)

pub returns-in_err-write-clause-written : goal.returns-in_err-write-clause-written
returns-in_err-write-clause-written g c =
    rw (err_from_is_err_and c.from_residual.result c.from_residual.ensures.1).1
    (writing_fails c.args.self.now c.args.chain.now c.args.mem.now (g.I.Image.disk c.args.cache.now)
    (g.I.Image.disk c.loop-done.cache) (g.I.Image.disk c.write.new.self)
    c.args.sector c.args.count c.loop-done.done (g.met.I.Image.whole c.args.cache.now) c.requires.lies
    c.loop-done.invariant.0 c.loop-done-test.true c.requires.sectors c.requires.payload
    c.in_err-write.ensures.err)

pub returns-in_err-write-clause-touches : goal.returns-in_err-write-clause-touches
returns-in_err-write-clause-touches g c =
    written_sector c.args.self.now.extent (range_with_len c.args.sector c.args.count)
    (c.args.sector + c.loop-done.done) (c.args.self.now.extent.start + c.args.sector + c.loop-done.done)
    c.loop-done.invariant.1 (range_has c.args.sector c.args.count c.loop-done.done c.loop-done-test.true)
    (omega arith) c.write.ensures.touches

pub returns-clause-written : goal.returns-clause-written
returns-clause-written g c =
    writing_ends c.args.self.now c.args.chain.now c.args.mem.now (g.I.Image.disk c.args.cache.now)
    (g.I.Image.disk c.loop-done.cache) (g.I.Image.disk c.flush.new.self)
    c.args.sector c.args.count c.loop-done.done c.flush.result (g.met.I.Image.whole c.args.cache.now)
    c.requires.lies c.loop-done.invariant.0 (omega arith)
    c.requires.sectors c.requires.payload c.flush.ensures.ok c.flush.ensures.err

pub returns-clause-touches : goal.returns-clause-touches
returns-clause-touches g c = written_nothing
    (on_image c.args.self.now.extent (range_with_len c.args.sector c.args.count)) c.loop-done.invariant.1
    c.flush.ensures.touches
