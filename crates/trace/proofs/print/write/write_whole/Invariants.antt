use Rattle.std.proofs.Common.{◌≤◌, length, take}
use Rattle.std.specs.Io.KnownBytes.{Appends}
use Rattle.trace.proofs.print.write.write_whole.Given as goal

-- so many of the bytes went out
abbrev pub invariant-loop : goal.invariant-loop
invariant-loop g l = record {
  within : l.sent ≤ length l.bytes;
  gone : Appends (g.W.Write.contents l.fn.out) (g.W.Write.contents l.out) (take l.sent l.bytes);
}
