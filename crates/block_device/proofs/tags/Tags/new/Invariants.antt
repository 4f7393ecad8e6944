use Rattle.std.specs.Prelude.{◌≡◌, ◌-◌, ◌≤◌, None, length, replicate}
use Rattle.block_device.proofs.tags.Tags.new.Given as goal

abbrev pub invariant-loop-alloc : goal.invariant-loop-alloc
invariant-loop-alloc g l = record {
  free : l.items.items ≡ replicate (length l.items.items) None;
  most : length l.items.items ≤ l.fn.depth;
}

abbrev pub decreases-loop-alloc : goal.decreases-loop-alloc
decreases-loop-alloc g l = l.fn.depth - length l.items.items
