use Rattle.std.proofs.Common.{◌≡◌, ◌-◌, [], slice_index_or}
use Rattle.trace.specs.Cuts.{lines_of}
use Rattle.trace.proofs.read.cut.line_of.Given as goal

-- the line that is sought stands among those that are left
abbrev pub invariant-loop-left : goal.invariant-loop-left
invariant-loop-left l = slice_index_or (lines_of l.rest) (l.left - 1) []
    ≡ slice_index_or (lines_of l.text) (l.number - 1) []

abbrev pub decreases-loop-left : goal.decreases-loop-left
decreases-loop-left l = l.left - 1
