use Rattle.mmio_window.proofs.Soundness as soundness
use Rattle.mmio_window.proofs.laws.sound_for_the_range.Goals as goal

pub returns : goal.returns
returns c = soundness.sound_for_the_range
