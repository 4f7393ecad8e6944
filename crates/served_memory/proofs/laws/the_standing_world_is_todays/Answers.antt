use Rattle.served_memory.proofs.laws.the_standing_world_is_todays.Goals as goal

pub returns-clause-from : goal.returns-clause-from
returns-clause-from g c = λ device stage limits q queue progress old new before after s t h. h

pub returns-clause-to : goal.returns-clause-to
returns-clause-to g c = λ device stage limits q queue progress old new before after s t h. h
