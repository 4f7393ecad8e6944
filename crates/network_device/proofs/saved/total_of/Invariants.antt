use Rattle.std.specs.Prelude.{◌≡◌, ◌*◌, ◌^◌, ◌≤◌, map, take}
use Rattle.std.specs.Int.{from_le_bytes, w32}
use Rattle.network_device.specs.Frames.{sum_of}
use Rattle.network_device.proofs.saved.total_of.Given as goal

abbrev pub invariant-loop-i : goal.invariant-loop-i
invariant-loop-i l = record {
  sum : l.total ≡ sum_of (map (from_le_bytes w32) (take l.i l.lens));
  small : l.total ≤ l.i * 2 ^ 32;
}
