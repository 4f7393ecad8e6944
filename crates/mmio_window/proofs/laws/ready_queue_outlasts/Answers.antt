use Rattle.mmio_window.proofs.ReadyLemmas as ready
use Rattle.mmio_window.proofs.laws.ready_queue_outlasts.Goals as goal

pub returns : goal.returns
returns c = ready.ready_queue_outlasts
