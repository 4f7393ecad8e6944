use Rattle.std.proofs.Common.{◌≡◌, take}
use Rattle.c_values.specs.Operation.{told_runs}
use Rattle.c_values.proofs.operation.tell_runs.Given as goal

-- the runs before this place are told
abbrev pub invariant-loop-place : goal.invariant-loop-place
invariant-loop-place l = l.room ≡ told_runs (take l.place l.fn.runs) l.fn.room
