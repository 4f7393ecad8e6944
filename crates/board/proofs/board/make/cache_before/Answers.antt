use Rattle.board.proofs.board.make.cache_before.Goals as goal

pub returns-in-Err-clause-fault : goal.returns-in-Err-clause-fault
returns-in-Err-clause-fault g c = rw (← c.sectors.ensures) (c.in-Err.ensures.fault c.args.cache)

pub returns-in-Ok-clause-accepted : goal.returns-in-Ok-clause-accepted
returns-in-Ok-clause-accepted g c =
    record { slots_good = rw (← c.sectors.ensures) c.in_default.ensures.ok; capacity = c.in-Ok.ensures.ok }
