use Rattle.mmio_window.proofs.ReadyLemmas as ready
use Rattle.mmio_window.proofs.laws.generation_stays.Goals as goal

pub returns : goal.returns
returns c = ready.generation_stays
