use Rattle.racing_memory.proofs.Marks.{no_bits}
use Rattle.racing_session.proofs.Calling.{made_so}
use Rattle.racing_session.proofs.session.RacingSession.new.Goals as goal

pub returns-clause-made : goal.returns-clause-made
returns-clause-made g c =
    made_so c.in-Ok-new.ensures.fresh c.new-4.ensures (no_bits c.new-5.result.items c.new-5.ensures.items) c.in-Ok.ensures
    c.none.ensures c.in-Ok-new-2.ensures.none
