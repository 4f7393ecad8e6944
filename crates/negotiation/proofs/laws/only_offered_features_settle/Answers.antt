use Rattle.negotiation.proofs.HistoryLemmas as lemmas
use Rattle.negotiation.proofs.laws.only_offered_features_settle.Goals as goal

pub returns : goal.returns
returns c = lemmas.only_offered_features_settle
