use Rattle.std.proofs.Common.{◌∙◌, ap}
use Rattle.sector_cache.specs.Disk.{new_disk}
use Rattle.calls.proofs.image.zero_image.Goals as goal

pub returns-clause-zeros : goal.returns-clause-zeros
returns-clause-zeros g c = c.in-Ok-new.ensures.seen ∙ ap new_disk c.in-Ok.ensures
