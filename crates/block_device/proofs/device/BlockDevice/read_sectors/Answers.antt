use Rattle.std.proofs.Common.{◌≡◌, ◌+◌, ◌*◌, length, refl, arith}
use Rattle.block_device.proofs.Transfers.{after_lent, after_refused, reading_start, reading_more, reading_run, reading_done, reading_fails}
use Rattle.sector_cache.proofs.Stops.{touches_more, touches_none}
use Rattle.block_device.proofs.device.BlockDevice.read_sectors.Goals as goal

pub returns-in-Some-clause-done : goal.returns-in-Some-clause-done
returns-in-Some-clause-done g c =
    let disk = g.I.Image.disk c.args.cache.now in
    let first = c.args.self.now.extent.start + c.args.sector in
    let run = reading_run c.args.chain.now c.args.mem.now c.write_at.new.mem disk first c.args.count
    c.in-Some.bytes.now
    c.in-Some.ensures.len c.in-Some.ensures.contents c.write_at.ensures.written
    c.write_at.ensures.same_range in
    reading_done c.args.self.now.extent c.args.chain.now c.args.mem.now c.write_at.new.mem disk disk
    c.args.sector c.args.count c.args.count (512 * c.args.count)
    run refl refl c.requires.sectors

pub returns-in-Some-clause-touches : goal.returns-in-Some-clause-touches
returns-in-Some-clause-touches g c = touches_none 0 0

pub loop-done-init : goal.loop-done-init
loop-done-init g c = (
  reading_start c.args.chain.now c.args.mem.now (g.I.Image.disk c.args.cache.now)
      (c.args.self.now.extent.start + c.args.sector),
  touches_none 0 0,
)

pub loop-done-preserved : goal.loop-done-preserved
loop-done-preserved g c =
    let whole : length c.in-Ok.bytes.now ≡ 512 = omega arith in (
      reading_more c.args.chain.now c.args.mem.now c.loop-done.mem c.write_at-in-Ok.new.mem
          (g.I.Image.disk c.args.cache.now) (g.I.Image.disk c.loop-done.cache)
          (g.I.Image.disk c.lend.follows.lender-at-none)
          (c.args.self.now.extent.start + c.args.sector) c.loop-done.done
          (512 * c.loop-done.done) c.in-Ok.bytes.now
          c.loop-done.invariant.0 whole c.in-Ok.ensures.read
          (after_lent c.lend.result _ _ _ c.in-Ok.is c.lend.follows.holds-at-none.0)
          c.write_at-in-Ok.ensures.written refl c.write_at-in-Ok.ensures.same_range,
      touches_more 0 0 c.loop-done.invariant.1 c.lend.follows.holds-at-none.1,
    )

pub returns-in-Err-clause-done : goal.returns-in-Err-clause-done
returns-in-Err-clause-done g c =
    reading_fails c.args.self.now.extent c.args.chain.now c.args.mem.now c.loop-done.mem
    (g.I.Image.disk c.args.cache.now) (g.I.Image.disk c.loop-done.cache)
    (g.I.Image.disk c.lend.follows.lender-at-none)
    c.args.sector c.args.count c.loop-done.done (512 * c.loop-done.done) c.loop-done.invariant.0
    c.loop-done-test.true refl c.requires.sectors
    (after_refused c.lend.result _ _ _ c.in-Err.is c.lend.follows.holds-at-none.0)

pub returns-clause-done : goal.returns-clause-done
returns-clause-done g c =
    reading_done c.args.self.now.extent c.args.chain.now c.args.mem.now c.loop-done.mem
    (g.I.Image.disk c.args.cache.now) (g.I.Image.disk c.loop-done.cache)
    c.args.sector c.args.count c.loop-done.done (512 * c.args.count) c.loop-done.invariant.0 (omega arith)
    refl c.requires.sectors

pub returns-in-Err-clause-touches : goal.returns-in-Err-clause-touches
returns-in-Err-clause-touches g c = touches_more 0 0 c.loop-done.invariant.1 c.lend.follows.holds-at-none.1
