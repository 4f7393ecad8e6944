use Rattle.std.specs.Prelude.{◌≡◌, ◌++◌, map, take}
use Rattle.std.specs.Int.{from_le_bytes, w32}
use Rattle.circular_buffer.specs.Buffer.{buffer}
use Rattle.network_device.proofs.saved.push_lens.Given as goal

abbrev pub invariant-loop-i : goal.invariant-loop-i
invariant-loop-i g l =
    l.ring ≡ buffer (l.fn.ring.items ++ map (from_le_bytes w32) (take l.i l.lens)) l.fn.ring.capacity
