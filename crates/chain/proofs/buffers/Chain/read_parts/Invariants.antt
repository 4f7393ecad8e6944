use Rattle.std.proofs.Common.{length, ◌-◌, ◌≡◌, ◌+◌, ◌≤◌, false, take, drop}
use Rattle.chain.specs.Bytes.{len_of, readable_of}
use Rattle.chain.proofs.buffers.Chain.read_parts.Given as goal

-- the first bytes are read, and the place of the next lies behind those of the buffers before
abbrev pub invariant-loop-done : goal.invariant-loop-done
invariant-loop-done g l = record {
  within : l.done ≤ length l.into;
  size : length l.into ≡ length l.fn.into;
  before : len_of false (take l.index l.self) ≤ l.from + l.done;
  copied : take l.done l.into ≡ take l.done (drop l.from (readable_of l.mem l.self));
}

abbrev pub decreases-loop-done : goal.decreases-loop-done
decreases-loop-done g l = length l.initial.into - l.done
