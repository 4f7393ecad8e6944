use Rattle.std.proofs.Common.{◌≡◌, ◌++◌, take, drop}
use Rattle.block_device.specs.Tags.{freed}
use Rattle.block_device.proofs.tags.free_each.Given as goal

-- the tags so far are free, and the others are as they were
abbrev pub invariant-loop-tag : goal.invariant-loop-tag
invariant-loop-tag g l = l.tags ≡ freed (take l.tag-index l.initial.tags) ++ drop l.tag-index l.initial.tags
