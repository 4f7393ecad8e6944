use Rattle.std.proofs.Common.{arith}
use Rattle.racing_ring.proofs.Unread.{none_read}
use Rattle.racing_ring.proofs.room.Known.new.Goals as goal

pub invariant_of-result : goal.invariant_of-result
invariant_of-result c = (omega arith, none_read 256 256 0)
