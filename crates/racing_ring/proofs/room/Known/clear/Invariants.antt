use Rattle.std.proofs.Common.{◌≡◌, length}
use Rattle.racing_ring.specs.Table.{AreUnreadBeside}
use Rattle.racing_ring.proofs.room.Known.clear.Given as goal

-- nor at an index before this one
abbrev pub invariant-loop-index : goal.invariant-loop-index
invariant-loop-index l = (length l.self-inside.known ≡ 256) × AreUnreadBeside l.self-inside.known l.index l.index-end
