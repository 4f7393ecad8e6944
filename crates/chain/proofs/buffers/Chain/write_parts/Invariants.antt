use Rattle.std.proofs.Common.{length, ◌-◌, ◌≡◌, ◌+◌, ◌≤◌, true, take, drop}
use Rattle.guest_memory.specs.Memory.{SameRange}
use Rattle.chain.specs.Bytes.{len_of, scatter, writable_of}
use Rattle.chain.proofs.buffers.Chain.write_parts.Given as goal

-- the place lies behind the bytes of the buffers before; what is left to put, on the memory now, gives what
-- all bytes give on the memory at entry
abbrev pub invariant-loop-done : goal.invariant-loop-done
invariant-loop-done g l = record {
  within : l.done ≤ length l.bytes;
  before : len_of true (take l.index l.self) ≤ l.from + l.done;
  same : SameRange l.fn.mem l.mem;
  left : scatter l.mem (drop (l.from + l.done) (writable_of l.self)) (drop l.done l.bytes)
      ≡ scatter l.fn.mem (drop l.from (writable_of l.self)) l.bytes;
}

abbrev pub decreases-loop-done : goal.decreases-loop-done
decreases-loop-done g l = length l.bytes - l.done
