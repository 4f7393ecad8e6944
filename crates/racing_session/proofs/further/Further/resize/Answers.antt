use Rattle.racing_session.proofs.Serving.{inside_sound}
use Rattle.racing_session.proofs.further.Further.resize.Goals as goal

pub returns-clause-sound : goal.returns-clause-sound
returns-clause-sound g c = λ m sound.
    c.resize.ensures.sound m (inside_sound m c.self.inside.devices c.self.inside.due c.args.self.now c.self.view_is sound)
