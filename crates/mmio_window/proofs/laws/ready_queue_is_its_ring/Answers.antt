use Rattle.mmio_window.proofs.Soundness as soundness
use Rattle.mmio_window.proofs.laws.ready_queue_is_its_ring.Goals as goal

pub returns : goal.returns
returns c = soundness.ready_queue_is_its_ring
