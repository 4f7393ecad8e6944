use Rattle.std.proofs.Common.{◌+◌, length, refl, arith}
use Rattle.std.specs.List.{range_with_len}
use Rattle.chain.specs.Bytes.{readable_of}
use Rattle.sector_cache.specs.Stop.{TouchesSectors}
use Rattle.block_device.specs.Request.{payload_of}
use Rattle.block_device.specs.Touching.{on_image}
use Rattle.block_device.proofs.Transfers.{IsWriting, writing_all, writing_ends, writing_none}
use Rattle.block_device.proofs.Touching.{range_has, unwritten, written_nothing, written_run}
use Rattle.block_device.proofs.device.BlockDevice.write_sectors.Goals as goal
use Rattle.block_device.proofs.device.BlockDevice.write_sectors.Goals.{then-count-eq0-via-then-count-eq0, then-count-eq0-via-else-count-eq0+then-write_in_place}

pub returns-then-count-eq0-clause-written : goal.returns-then-count-eq0-clause-written
returns-then-count-eq0-clause-written g c =
    let disk = g.I.Image.disk c.args.cache.now in
    let first = c.args.self.now.extent.start + c.args.sector in
    let readable = readable_of c.args.mem.now c.args.chain.now in
    let whole = g.met.I.Image.whole c.args.cache.now in
    let later = g.I.Image.disk c.then-count-eq0.cache in
    let so_far : IsWriting disk later first (payload_of readable) c.args.count =
    elim c.then-count-eq0.branch [
      | then-count-eq0-via-then-count-eq0 w ↦
          rw w.cache-is (writing_none disk first (payload_of readable) c.args.count
          (omega (arith, w.if-count-eq0.true)))
      | then-count-eq0-via-else-count-eq0+then-write_in_place w ↦
          rw w.cache-is (writing_all disk _ first c.args.count readable whole
          (omega (arith, w.if-count-eq0.false)) c.requires.payload (omega arith)
          (rw (w.if-write_in_place.true, w.of.ensures) at w.write_in_place.ensures.written))
    ] in
    writing_ends c.args.self.now c.args.chain.now c.args.mem.now disk later (g.I.Image.disk c.flush.new.self)
    c.args.sector c.args.count c.args.count c.flush.result whole
    c.requires.lies so_far refl c.requires.sectors c.requires.payload c.flush.ensures.ok c.flush.ensures.err

pub returns-then-count-eq0-clause-touches : goal.returns-then-count-eq0-clause-touches
returns-then-count-eq0-clause-touches g c =
    let own = range_with_len c.args.sector c.args.count in
    let size = length (payload_of (readable_of c.args.mem.now c.args.chain.now)) in
    let so_far : TouchesSectors g.I.Image.moment g.I.Image.may_leave g.I.Image.left_since
    (on_image c.args.self.now.extent own) c.args.cache.now c.then-count-eq0.cache =
    elim c.then-count-eq0.branch [
      | then-count-eq0-via-then-count-eq0 w ↦
          rw w.cache-is (unwritten (on_image c.args.self.now.extent own))
      | then-count-eq0-via-else-count-eq0+then-write_in_place w ↦
          rw w.cache-is (written_run c.args.self.now.extent own c.args.sector
          (c.args.self.now.extent.start + c.args.sector) c.args.count size
          (unwritten (on_image c.args.self.now.extent own))
          (λ k below. range_has c.args.sector c.args.count k below) refl c.requires.payload
          (rw w.of.ensures at w.write_in_place.ensures.touches))
    ] in
    written_nothing (on_image c.args.self.now.extent own) so_far c.flush.ensures.touches
