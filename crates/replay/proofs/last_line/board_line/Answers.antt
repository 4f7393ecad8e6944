use Rattle.std.proofs.Common.{◌≡◌, sym, subst}
use Rattle.board.specs.declared.fault.BoardFault.{BoardFault}
use Rattle.replay.specs.LastLine.{board_ending}
use Rattle.replay.proofs.last_line.board_line.Goals as goal

pub returns-in-Slot : goal.returns-in-Slot
returns-in-Slot c =
    subst (λ (fault : BoardFault). c.slot_line.result.now ≡ (board_ending fault).line) (sym c.in-Slot.is)
    (c.slot_line.ensures c.in-Slot.slot)
