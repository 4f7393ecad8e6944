use Rattle.std.proofs.Common.{◌<◌, length, true, arith}
use Rattle.test_support.proofs.Recorded.{numbered, unnumbered}
use Rattle.test_support.proofs.WriteBackTouches.{write_touches}
use Rattle.test_support.proofs.WriteBacks.{disk_is, one_waits, read_is}
use Rattle.test_support.proofs.write_back_image.WriteBackImageImage.write_sector.Goals as goal

pub returns-clause-after : goal.returns-clause-after
returns-clause-after g c =
    let old = c.args.self.now in
    disk_is _ true _ _ c.write_sector.ensures.after
    (one_waits old.waiting.items c.args.sector (omega (arith, old.lengths, c.requires)))

pub returns-clause-recorded : goal.returns-clause-recorded
returns-clause-recorded g c =
    let old = c.args.self.now in
    let there : c.args.sector < length old.waiting.items = omega (arith, old.lengths, c.requires) in
    numbered _ _ _ _ _ _ _ _ (write_touches old.past.items old.memory.bytes.items old.waiting.items
    c.write_sector.new.self.bytes.items c.args.from.now c.args.sector (omega (arith, old.lengths, there))
    c.told-from there (read_is _ _ c.write_sector.ensures.after))

pub returns-clause-touches : goal.returns-clause-touches
returns-clause-touches g c =
    let old = c.args.self.now in
    let there : c.args.sector < length old.waiting.items = omega (arith, old.lengths, c.requires) in
    unnumbered _ _ _ _ _ _ _ _ (write_touches old.past.items old.memory.bytes.items old.waiting.items
    c.write_sector.new.self.bytes.items c.args.from.now c.args.sector (omega (arith, old.lengths, there))
    c.told-from there (read_is _ _ c.write_sector.ensures.after))
