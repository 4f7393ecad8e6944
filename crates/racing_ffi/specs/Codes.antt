-- The number that stands for each answer: those of a board's calls, and one more.
use Rattle.std.specs.Prelude.{ℕ, Result, Ok, Err}
use Rattle.c_values.specs.Codes.{memory_code}
use Rattle.racing_session.specs.declared.progress.Progress.{Progress}
use Rattle.racing_session.specs.declared.progress.Progress.TheVariants.{Done, More, Asks}
use Rattle.racing_session.specs.declared.progress.Refusal.{Refusal}
use Rattle.racing_session.specs.declared.progress.Refusal.TheVariants.{NoRoom, Busy, Idle}
use Rattle.racing_session.specs.declared.fault.MemoryRefusal.{MemoryRefusal}
use Rattle.racing_session.specs.declared.fault.MemoryRefusal.TheVariants as kept
use Rattle.racing_session.specs.declared.fault.RacingFault.{RacingFault}
use Rattle.racing_session.specs.declared.fault.RacingFault.TheVariants as fault

-- what a call came to
abbrev pub progress_code : Progress → ℕ
progress_code Done = 0
progress_code More = 18
progress_code Asks = 20

-- one that was refused
abbrev pub refusal_code : Refusal → ℕ
refusal_code NoRoom = 15
refusal_code Busy = 19
refusal_code Idle = 21

abbrev pub answer_code : Result Progress Refusal → ℕ
answer_code (Ok progress) = progress_code progress
answer_code (Err why) = refusal_code why

-- a guest that was refused
abbrev pub fault_code : RacingFault → ℕ
fault_code fault.BadLoan = 29
fault_code fault.BadOutlet = 16
-- no limits that C describes are spent
fault_code fault.SpentLimits = 0
fault_code (fault.Memory region why) = memory_code why
fault_code fault.BadDepth = 30
fault_code fault.BadDisk = 12
fault_code fault.NoMemory = 5

-- other memory that a guest was refused: a range of a ready queue lies in none of its regions
abbrev pub kept_code : MemoryRefusal → ℕ
kept_code kept.Busy = 19
kept_code kept.BadLoan = 29
kept_code (kept.Memory region why) = memory_code why
kept_code kept.QueueOutside = 4
