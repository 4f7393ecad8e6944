use Rattle.std.proofs.Common.{◌∙◌, ap, false}
use Rattle.test_support.proofs.WriteBackTouches.{flush_either, flush_recorded}
use Rattle.test_support.proofs.WriteBacks.{disk_is, none_waits, read_is}
use Rattle.test_support.proofs.write_back_image.WriteBackImageImage.flush.Goals as goal
use Rattle.sector_cache.specs.Disk.{flushed}
use Rattle.sector_cache.specs.MemoryImage.{disk_of}

pub returns-clause-after : goal.returns-clause-after
returns-clause-after g c =
    disk_is _ false _ _ (c.flush.ensures.after ∙ ap (λ m. flushed (disk_of m)) c.record.ensures.memory)
    (none_waits _ _ (c.fill.ensures.items (λ y is. is)))

pub returns-clause-recorded : goal.returns-clause-recorded
returns-clause-recorded g c =
    flush_recorded c.args.self.now c.record.new.self.past.items c.flush.new.self.bytes.items
    c.fill.new.self.items
    (read_is _ _ c.flush.ensures.after ∙ ap (λ m. m.bytes.items) c.record.ensures.memory)
    (none_waits _ _ (c.fill.ensures.items (λ y is. is))) c.record.new.self.has_lost
    c.record.ensures.recorded

pub returns-clause-touches : goal.returns-clause-touches
returns-clause-touches g c =
    flush_either c.args.self.now c.record.new.self.past.items c.flush.new.self.bytes.items
    c.fill.new.self.items
    (read_is _ _ c.flush.ensures.after ∙ ap (λ m. m.bytes.items) c.record.ensures.memory)
    (none_waits _ _ (c.fill.ensures.items (λ y is. is))) c.record.ensures.either
