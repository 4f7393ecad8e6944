-- The last line that tells why a replay did not come to its end, and the status beside it.
use Rattle.std.specs.Prelude.{◌≡◌, ◌⊎◌, ℕ, List, ◌++◌, Option, codes, decimal}
use Rattle.std.specs.Io.KnownBytes.{Appends}
use Rattle.board.specs.declared.fault.BoardFault.{BoardFault}
use Rattle.board.specs.declared.fault.BoardFault.TheVariants as board
use Rattle.board.specs.declared.fault.SlotFault.TheVariants as slot
use Rattle.guest_memory.specs.declared.fault.MemoryFault.TheVariants as memory
use Rattle.sector_cache.specs.declared.fault.CacheFault.TheVariants as cache
use Rattle.trace.specs.declared.fault.FaultKind.{FaultKind}
use Rattle.trace.specs.declared.fault.FaultKind.TheVariants as kind
use Rattle.replay.specs.declared.fault.ReplayFault.{ReplayFault}
use Rattle.replay.specs.declared.fault.ReplayFault.TheVariants.{Read, Trace, Board, Run, Write, NoMemory}
use Rattle.trace.specs.Sends.{AppendsFront}
use Rattle.trace.specs.Text.{ended}

-- How a program ends: its last line and its status.
pub record Ending : Type 0 where
  pub line : List ℕ
  pub status : ℕ

abbrev pub ends : ℕ → List ℕ → Ending
ends status words = record { line = ended words; status = status }

-- want of memory, wherever it came
abbrev pub memory_ending : Ending
memory_ending = ends 3 (codes "fault memory")

-- the name of a trace's fault
abbrev pub kind_name : FaultKind → List ℕ
kind_name kind.Cut = codes "Cut"
kind_name kind.Header = codes "Header"
kind_name kind.Word = codes "Word"
kind_name kind.Order = codes "Order"
kind_name kind.Fields = codes "Fields"
kind_name kind.Number = codes "Number"
kind_name kind.Choice = codes "Choice"
kind_name kind.Bytes = codes "Bytes"
kind_name kind.NoMemory = codes "NoMemory"

-- a trace that was refused: the line that was at fault, in decimal, and the fault
abbrev pub trace_ending : ℕ → FaultKind → Ending
trace_ending line kind.NoMemory = memory_ending
trace_ending line fault = ends 1 (codes "fault trace " ++ (decimal line ++ (codes " " ++ kind_name fault)))

-- a board that was refused: the fault by its innermost name
abbrev pub board_refused : List ℕ → Ending
board_refused name = ends 1 (codes "fault board " ++ name)

abbrev pub board_ending : BoardFault → Ending
board_ending board.NoSlots = board_refused (codes "NoSlots")
board_ending board.TooManySlots = board_refused (codes "TooManySlots")
board_ending (board.Slot number (slot.Memory region memory.NoRegions)) = board_refused (codes "NoRegions")
board_ending (board.Slot number (slot.Memory region memory.BadSize)) = board_refused (codes "BadSize")
board_ending (board.Slot number (slot.Memory region memory.BadBase)) = board_refused (codes "BadBase")
board_ending (board.Slot number (slot.Memory region memory.NotApart)) = board_refused (codes "NotApart")
board_ending (board.Slot number (slot.Memory region memory.NoMemory)) = memory_ending
board_ending (board.Slot number slot.BadDepth) = board_refused (codes "BadDepth")
board_ending (board.Slot number slot.ExtentOutside) = board_refused (codes "ExtentOutside")
board_ending (board.Slot number slot.ExtentsOverlap) = board_refused (codes "ExtentsOverlap")
board_ending (board.Cache cache.BadCapacity) = board_refused (codes "BadCapacity")
board_ending (board.Cache cache.NoMemory) = memory_ending
board_ending board.NoMemory = memory_ending

abbrev pub ending_of : ReplayFault → Ending
ending_of Read = ends 3 (codes "fault input")
ending_of (Trace fault) = trace_ending fault.line fault.kind
ending_of (Board fault) = board_ending fault
ending_of (Run done) = memory_ending
ending_of Write = ends 3 (codes "fault output")
ending_of NoMemory = memory_ending

-- the line went out whole, and the status is its own
pub record IsTold (ending : Ending) (status : ℕ) (old new : Option (List ℕ)) : Type 0 where
  pub line : Appends old new ending.line
  pub own : status ≡ ending.status

-- the writer failed: at most a front of the line went out, and the status says so
pub record IsUntold (ending : Ending) (status : ℕ) (old new : Option (List ℕ)) : Type 0 where
  pub front : AppendsFront old new ending.line
  pub failed : status ≡ 3

-- the program ends so, where its last line could be written
abbrev pub Ends : Ending → ℕ → Option (List ℕ) → Option (List ℕ) → Type 0
Ends ending status old new = IsTold ending status old new ⊎ IsUntold ending status old new
