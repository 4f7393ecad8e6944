use Rattle.std.proofs.Common.{◌≡◌, sym, subst}
use Rattle.board.specs.declared.fault.BoardFault.{BoardFault}
use Rattle.session.specs.declared.fault.SessionFault.TheVariants.{Board}
use Rattle.board_ffi.specs.Config.{Bad}
use Rattle.board_ffi.specs.Judging.{region_told}
use Rattle.board_ffi.proofs.judge.tell_fault.Goals as goal

pub returns-in-Slot-clause-region : goal.returns-in-Slot-clause-region
returns-in-Slot-clause-region c =
    subst (λ (fault : BoardFault). c.tell_region.new.region ≡ region_told (Bad (Board fault)) c.args.region.now)
    (sym c.in-Slot.is) (c.tell_region.ensures c.in-Slot.at)
