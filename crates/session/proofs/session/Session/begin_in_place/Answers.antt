use Rattle.session.proofs.session.Session.begin_in_place.Goals as goal

pub returns-clause-call : goal.returns-clause-call
returns-clause-call g c = record { turn = c.turn.ensures.call; whole = c.turn.ensures.whole }
