use Rattle.std.proofs.Common.{arith}
use Rattle.racing_ring.proofs.Unread.{all_left, none_left}
use Rattle.racing_ring.proofs.room.Known.clear.Goals as goal

pub invariant_of-self : goal.invariant_of-self
invariant_of-self c = (
  omega arith,
  λ i beside. none_left c.loop-index.self-inside.known c.loop-index.index c.self.inside.to
      c.loop-index-test.false c.loop-index.invariant.1 i,
)

pub returns : goal.returns
returns c = all_left c.loop-index.self-inside.known c.loop-index.index c.self.inside.to c.loop-index-test.false
    c.loop-index.invariant.1 c.loop-index.invariant.0
