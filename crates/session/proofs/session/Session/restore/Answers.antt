-- A restore is what the session does.
use Rattle.std.proofs.Common.{refl}
use Rattle.session.proofs.Restored.{restored}
use Rattle.session.proofs.session.Session.restore.Goals as goal

pub returns-clause-call : goal.returns-clause-call
returns-clause-call g c =
    let r = c.restore in
    rw (c.if-is_paused.ensures.idle.0 refl, ← c.self.view_is)
    (restored _ _ _ c.args.slot c.args.from.now r.result (r.ensures.step refl) r.ensures.others r.ensures.extents
    (rw (r.ensures.image) refl) r.ensures.missing
    (rw (← c.self.view_is) at (c.if-is_paused.ensures.idle.0 refl)) c.self.invariant.1)

pub returns-clause-taken : goal.returns-clause-taken
returns-clause-taken g c saved old new is here there like idle =
    c.restore.ensures.taken saved old new is (rw (← c.self.view_is) at here) there like
