use Rattle.std.proofs.Common.{◌≤◌, ℕ, List, ap, length, subst, sym}
use Rattle.console_device.specs.Console.{Console}
use Rattle.mmio_window.proofs.Devices.{KeepsDevice, KeepsDevice-config_changed}
use Rattle.board.proofs.Belonging.{console_changed}
use Rattle.board.proofs.Beside.{same_range}
use Rattle.board.proofs.slot.Slot.resize.Goals as goal

pub invariant_of-self : goal.invariant_of-self
invariant_of-self g c =
    let changed = c.config_changed in
    let console = c.self.inside.console in
    console_changed _ _ _ _ _ _ _ _ c.self.invariant
    (subst (KeepsDevice console) (sym changed.ensures.after) (KeepsDevice-config_changed console))
    (changed.ensures.sound c.self.inside.memory c.self.invariant.console_sound)
    (same_range c.self.inside.memory)
    (subst (λ (pending : List ℕ). length pending ≤ 4096)
    (sym (ap (λ (console : Console). console.pending) c.resize.ensures)) c.self.invariant.pending_fits)
