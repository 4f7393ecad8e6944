use Rattle.std.proofs.Common.{subst, sym}
use Rattle.mmio_window.proofs.Devices.{KeepsDevice, KeepsDevice-written}
use Rattle.board.proofs.Belonging.{block_changed, console_changed}
use Rattle.board.proofs.Beside.{same_range}
use Rattle.board.proofs.slot.Slot.write_registers.Goals as goal

pub invariant_of-self : goal.invariant_of-self
invariant_of-self g c =
    let written = c.write-action in
    let memory = c.self.inside.memory in
    block_changed _ _ _ _ _ _ _ c.self.invariant
    (subst (KeepsDevice c.self.inside.block) (sym written.ensures.written)
    (KeepsDevice-written c.args.offset c.args.width c.args.value memory c.self.inside.block))
    (written.ensures.sound c.self.invariant.block_sound) (same_range memory)

pub invariant_of-self-in-Console : goal.invariant_of-self-in-Console
invariant_of-self-in-Console g c =
    let written = c.write-action-in-Console in
    let memory = c.self.inside.memory in
    console_changed _ _ _ _ _ _ _ _ c.self.invariant
    (subst (KeepsDevice c.self.inside.console) (sym written.ensures.written)
    (KeepsDevice-written c.args.offset c.args.width c.args.value memory c.self.inside.console))
    (written.ensures.sound c.self.invariant.console_sound) (same_range memory) c.self.invariant.pending_fits
