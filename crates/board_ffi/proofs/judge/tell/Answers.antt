use Rattle.std.proofs.Common.{◌≡◌, sym, subst}
use Rattle.session.specs.declared.fault.SessionFault.{SessionFault}
use Rattle.board_ffi.specs.Config.{Bad}
use Rattle.board_ffi.specs.Judging.{slot_told}
use Rattle.board_ffi.proofs.judge.tell.Goals as goal

pub returns-in-Board-clause-slot : goal.returns-in-Board-clause-slot
returns-in-Board-clause-slot c =
    let told = c.args.config.now in
    subst (λ (why : SessionFault). c.tell_fault.new.slot ≡ slot_told told (Bad why) c.args.slot.now)
    (sym c.in-Board.is) (c.tell_fault.ensures.slot told)
