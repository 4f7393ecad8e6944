-- What a disk is asked for, as C has it, and what came of it.
use Rattle.std.specs.Prelude.{ℕ, Bool, if◌then◌else◌, List, [], ◌∷◌, length}
use Rattle.chain.specs.declared.segment.Segment.{Segment}
use Rattle.block_device.specs.declared.operation.Operation as asked
use Rattle.block_device.specs.declared.operation.OperationKind.{OperationKind}
use Rattle.block_device.specs.declared.operation.OperationKind.TheVariants.{In, Out, Flush, Zeroes}
use Rattle.block_device.specs.declared.operation.Verdict.{Verdict}
use Rattle.c_values.specs.declared.operation.Operation.{Operation}
use Rattle.c_values.specs.declared.operation.Run.{Run}

abbrev pub kind_code : OperationKind → ℕ
kind_code In = 0
kind_code Out = 1
kind_code Flush = 2
kind_code Zeroes = 3

-- an operation with its runs
abbrev pub told_operation : asked.Operation → List Segment → Operation
told_operation operation runs = record {
  kind = kind_code operation.kind;
  runs = length runs;
  start = operation.start;
  len = operation.len;
  stable = operation.stable;
}

abbrev pub told_run : Segment → Run
told_run run = record { at = run.addr; len = run.len }

-- the first runs, as many as find room, and what stood in the room behind them
abbrev pub told_runs : List Segment → List Run → List Run
told_runs [] room = room
told_runs (run ∷ runs) [] = []
told_runs (run ∷ runs) (place ∷ room) = told_run run ∷ told_runs runs room

-- what came of an operation
abbrev pub verdict_of : Bool → Verdict
verdict_of failed = if failed then Verdict.Failed else Verdict.Done
