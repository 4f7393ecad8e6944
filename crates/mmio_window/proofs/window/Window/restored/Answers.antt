use Rattle.std.proofs.Common.{sym}
use Rattle.mmio_window.proofs.Saving.{HasItsRing-restored}
use Rattle.mmio_window.proofs.window.Window.restored.Goals as goal

pub returns-clause-sound : goal.returns-clause-sound
returns-clause-sound g c = record {
  queue_0 = HasItsRing-restored _ _ c.args.from.now.queue_0 _ (sym c.in_ok-queue_0.ensures.value);
  queue_1 = HasItsRing-restored _ _ c.args.from.now.queue_1 _ (sym c.in_ok-queue_1.ensures.value);
}
