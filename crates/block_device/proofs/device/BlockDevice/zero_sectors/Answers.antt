use Rattle.std.proofs.Common.{◌+◌, ◌-◌, arith, sym, subst}
use Rattle.std.proofs.lemmas.Result.{err_from_is_err_and}
use Rattle.std.specs.List.{range_with_len}
use Rattle.block_device.specs.Zeroes.{IsZeroed, sectors_of}
use Rattle.block_device.specs.Touching.{on_image}
use Rattle.block_device.proofs.Zeroing.{run-at, run-more, zeroing_more, zeroing_start, zeroing_stops}
use Rattle.block_device.proofs.Touching.{range_has, unwritten, written_sector}
use Rattle.block_device.proofs.device.BlockDevice.zero_sectors.Goals as goal

pub loop-done-init : goal.loop-done-init
loop-done-init g c = (
  zeroing_start c.args.self.now.extent (g.I.Image.disk c.args.cache.now),
  unwritten
      (on_image c.args.self.now.extent (sectors_of c.args.segment)),
)

pub loop-done-preserved : goal.loop-done-preserved
loop-done-preserved g c =
    let sector = c.args.segment.sector in
    let done = c.loop-done.done in (
      subst (λ sectors. IsZeroed c.args.self.now.extent sectors (g.I.Image.disk c.args.cache.now)
          (g.I.Image.disk c.zero.new.self)) (sym (run-more sector done))
          (zeroing_more c.args.self.now.extent (g.I.Image.disk c.args.cache.now)
          (g.I.Image.disk c.loop-done.cache) (g.I.Image.disk c.zero.new.self)
          (range_with_len sector done) (sector + done) _ c.loop-done.invariant.0
          (g.met.I.Image.whole c.loop-done.cache) c.requires.lies
          (omega arith) (omega arith) c.in_ok-zero.ensures.ok),
      written_sector c.args.self.now.extent (sectors_of c.args.segment)
          (c.args.segment.sector + c.loop-done.done)
          (c.args.self.now.extent.start + c.args.segment.sector + c.loop-done.done)
          c.loop-done.invariant.1 (range_has c.args.segment.sector c.args.segment.count c.loop-done.done
          (omega arith)) (omega arith) c.zero.ensures.touches,
    )

pub returns-in_err-zero-clause-err : goal.returns-in_err-zero-clause-err
returns-in_err-zero-clause-err g c =
    let sector = c.args.segment.sector in
    let done = c.loop-done.done in
    rw (err_from_is_err_and c.from_residual.result c.from_residual.ensures.1).1
    (zeroing_stops c.args.self.now.extent (g.I.Image.disk c.args.cache.now) (g.I.Image.disk c.loop-done.cache)
    (g.I.Image.disk c.zero.new.self)
    (sectors_of c.args.segment) (range_with_len sector done)
    (range_with_len (sector + done + 1) (c.args.segment.count - done - 1)) (sector + done) _
    c.loop-done.invariant.0 (g.met.I.Image.whole c.loop-done.cache) c.requires.lies
    (omega arith) (omega arith)
    (run-at sector done c.args.segment.count (omega arith)) c.in_err-zero.ensures.err)

pub returns-in_err-zero-clause-touches : goal.returns-in_err-zero-clause-touches
returns-in_err-zero-clause-touches g c =
    written_sector c.args.self.now.extent (sectors_of c.args.segment)
    (c.args.segment.sector + c.loop-done.done)
    (c.args.self.now.extent.start + c.args.segment.sector + c.loop-done.done)
    c.loop-done.invariant.1 (range_has c.args.segment.sector c.args.segment.count c.loop-done.done
    (omega arith)) (omega arith) c.zero.ensures.touches
