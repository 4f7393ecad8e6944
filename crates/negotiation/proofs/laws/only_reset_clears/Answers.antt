use Rattle.negotiation.proofs.HistoryLemmas as lemmas
use Rattle.negotiation.proofs.laws.only_reset_clears.Goals as goal

pub returns : goal.returns
returns c = lemmas.only_reset_clears
