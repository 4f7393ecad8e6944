use Rattle.std.proofs.Common.{length, take, ◌≤◌, ◌-◌}
use Rattle.chain.specs.Bytes.{len_of}
use Rattle.chain.proofs.buffers.Chain.buffer_behind.Given as goal

-- the place lies behind the bytes of the buffers before
abbrev pub invariant-loop-starts : goal.invariant-loop-starts
invariant-loop-starts l = len_of l.writable (take l.index l.self) ≤ l.place

abbrev pub decreases-loop-starts : goal.decreases-loop-starts
decreases-loop-starts l = length l.self - l.index
