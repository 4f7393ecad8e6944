use Rattle.std.proofs.Common.{false}
use Rattle.test_support.proofs.WriteBacks.{disk_is, none_waits}
use Rattle.test_support.proofs.write_back_image.WriteBackImage.new.Goals as goal

pub returns-clause-seen : goal.returns-clause-seen
returns-clause-seen g c =
    disk_is _ false _ _ c.in-Ok.ensures.seen
    (none_waits _ _ (c.in-Ok-vec.ensures.items_if_clones_equal (λ y is. is)))
