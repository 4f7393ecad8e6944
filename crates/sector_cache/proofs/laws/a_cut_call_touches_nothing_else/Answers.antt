use Rattle.sector_cache.proofs.Stops.{extent_apart, known_beside, contents_beside}
use Rattle.sector_cache.proofs.laws.a_cut_call_touches_nothing_else.Goals as goal

pub returns-clause-known : goal.returns-clause-known
returns-clause-known g c = λ old new start end since bytes left touches only begins past.
    known_beside start end since bytes left touches begins only past

pub returns-clause-contents : goal.returns-clause-contents
returns-clause-contents g c = λ old new start end since left touches clean begins past.
    contents_beside start end (g.I.Image.disk old) since left touches begins
    (g.met.I.Image.durable old) clean past

pub returns-clause-apart : goal.returns-clause-apart
returns-clause-apart g c = extent_apart
