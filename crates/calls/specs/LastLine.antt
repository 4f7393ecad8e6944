-- The last line of a call and its status.
use Rattle.std.specs.Prelude.{ℕ, List, Option, codes}
use Rattle.replay.specs.LastLine.{Ending, Ends, ending_of, ends}
use Rattle.calls.specs.declared.fault.Fault.{Fault}
use Rattle.calls.specs.declared.fault.Fault.TheVariants.{Usage, Replay}

-- words that name no call
abbrev pub usage_ending : Ending
usage_ending = ends 2 (codes "fault usage")

-- how a call ends that did not come to its end
abbrev pub EndsBy : Fault → ℕ → Option (List ℕ) → Option (List ℕ) → Type 0
EndsBy Usage status old new = Ends usage_ending status old new
EndsBy (Replay fault) status old new = Ends (ending_of fault) status old new
