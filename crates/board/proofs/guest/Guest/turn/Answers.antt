use Rattle.std.proofs.Common.{sym, ◌∙◌}
use Rattle.board.proofs.Silent.{quiet_event, served_behind}
use Rattle.board.proofs.guest.Guest.turn.Goals as goal

pub returns-in-Begin-clause-no_memory : goal.returns-in-Begin-clause-no_memory
returns-in-Begin-clause-no_memory g c =
    λ lacking. rw (c.in-Begin.is) (c.begin-answer.ensures.no_memory (sym c.note.ensures.turn ∙ lacking))

pub returns-in-Begin-clause-silent : goal.returns-in-Begin-clause-silent
returns-in-Begin-clause-silent g c = λ what is. absurd (cc (c.in-Begin.is, is))

pub returns-in-Resume-clause-silent : goal.returns-in-Resume-clause-silent
returns-in-Resume-clause-silent g c = λ what is. absurd (cc (c.in-Resume.is, is))

pub returns-in-InPlace-clause-serves : goal.returns-in-InPlace-clause-serves
returns-in-InPlace-clause-serves g c = λ tells.
    rw (c.in-InPlace.is)
    (served_behind _ _ _ _ _ _ (g.O.Outlet.bytes c.args.out.now) (c.begin_in_place.ensures.serves tells))

pub returns-in-InPlace-clause-within : goal.returns-in-InPlace-clause-within
returns-in-InPlace-clause-within g c = λ limit limited.
    rw (c.in-InPlace.is) (quiet_event c.in-InPlace.what limit c.args.budget _ _ _ _ c.begin_in_place.result)

pub returns-in-InPlace-clause-bad_range : goal.returns-in-InPlace-clause-bad_range
returns-in-InPlace-clause-bad_range g c = λ is. absurd (c.begin_in_place.ensures.in_range is)

pub returns-in-InPlace-clause-no_memory : goal.returns-in-InPlace-clause-no_memory
returns-in-InPlace-clause-no_memory g c = λ lacking. absurd (c.begin_in_place.ensures.answered lacking)
