use Rattle.std.proofs.Common.{length, take, ◌<◌, ◌≤◌, ◌-◌}
use Rattle.chain.specs.Bytes.{len_of}
use Rattle.chain.proofs.buffers.Chain.buffer_at.Given as goal

-- the place lies behind the bytes before the one, and before those from the other on
abbrev pub invariant-loop-high : goal.invariant-loop-high
invariant-loop-high l = record {
  some : l.low < l.high;
  there : l.high ≤ length l.self;
  from : len_of l.writable (take l.low l.self) ≤ l.place;
  to : l.place < len_of l.writable (take l.high l.self);
}

abbrev pub decreases-loop-high : goal.decreases-loop-high
decreases-loop-high l = l.high - l.low
