use Rattle.mmio_window.proofs.Soundness as soundness
use Rattle.mmio_window.proofs.laws.serving_keeps_sound.Goals as goal

pub returns : goal.returns
returns c = soundness.serving_keeps_sound
