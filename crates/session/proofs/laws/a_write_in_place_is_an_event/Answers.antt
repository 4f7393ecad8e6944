-- A write in place is an event.
use Rattle.session.proofs.InPlace.{in_place, in_place_call, in_place_lent, in_place_whole}
use Rattle.session.proofs.laws.a_write_in_place_is_an_event.Goals as goal

pub returns-clause-range : goal.returns-clause-range
returns-clause-range g c = λ old slot addr found bytes. in_place _ old slot addr found bytes

pub returns-clause-lent : goal.returns-clause-lent
returns-clause-lent g c = λ old slot addr found bytes. in_place_lent _ old slot addr found bytes

pub returns-clause-whole : goal.returns-clause-whole
returns-clause-whole g c = λ old slot found bytes. in_place_whole _ old slot found bytes

pub returns-clause-call : goal.returns-clause-call
returns-clause-call g c = λ old slot addr found bytes. in_place_call _ old slot addr found bytes
