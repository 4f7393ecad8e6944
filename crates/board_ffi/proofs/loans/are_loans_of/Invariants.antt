-- all are loans of all slots if those behind this place are of the slots behind this one
use Rattle.std.proofs.Common.{◌≡◌, ◌≤◌, length, drop}
use Rattle.std.specs.Prelude.{◌↔◌}
use Rattle.board_ffi.proofs.Lengths.{wanted}
use Rattle.board_ffi.specs.Config.{told_lens}
use Rattle.board_ffi.proofs.loans.are_loans_of.Given as goal

abbrev pub invariant-loop-slot : goal.invariant-loop-slot
invariant-loop-slot l =
    (l.next ≤ length l.loans)
    × ((told_lens l.loans ≡ wanted l.slots)
    ↔ (drop l.next (told_lens l.loans) ≡ wanted (drop l.slot-index l.slots)))
