use Rattle.replay.proofs.Telling.{after_run}
use Rattle.replay.proofs.replaying.run_validated.Goals as goal

pub returns-clause-ended : goal.returns-clause-ended
returns-clause-ended g c slots events new by are =
    after_run g.I.Image.disk slots c.args.board c.run_text-outcome.new.board c.into_image.result c.args.hosted
    events _ _ c.run_text-outcome.result new by c.into_image.ensures (c.run_text-outcome.ensures.after events are)
