use Rattle.std.proofs.Common.{◌≡◌, ◌++◌, ◌-◌}
use Rattle.chain.specs.Bytes.{segments_of}
use Rattle.chain.specs.Runs.{runs_of}
use Rattle.chain.proofs.buffers.Chain.runs.Given as goal

abbrev pub invariant-loop-place : goal.invariant-loop-place
invariant-loop-place l =
    l.into ++ runs_of l.place l.to (segments_of l.writable l.self)
    ≡ runs_of l.from l.to (segments_of l.writable l.self)

abbrev pub decreases-loop-place : goal.decreases-loop-place
decreases-loop-place l = l.to - l.place
