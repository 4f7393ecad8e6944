use Rattle.mmio_window.proofs.Soundness.{IsSound-register_written}
use Rattle.mmio_window.proofs.window.Window.write.Goals as goal

pub returns-in-Some-clause-sound : goal.returns-in-Some-clause-sound
returns-in-Some-clause-sound g c =
    λ sound. rw c.write_register.ensures
    (IsSound-register_written c.in-Some.register c.args.value (g.M.Ranged.ranged c.args.mem.now) c.args.self.now sound)
