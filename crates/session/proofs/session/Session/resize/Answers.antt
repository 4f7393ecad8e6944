-- When another size is refused.
use Rattle.std.proofs.Common.{refl}
use Rattle.board.specs.declared.event.EventKind.TheVariants.{Resize}
use Rattle.session.specs.Answering.{done_response}
use Rattle.session.proofs.Exact.{Refuses, only_paused, refuses}
use Rattle.session.proofs.session.Session.resize.Goals as goal

says : (g : _) (c : goal.Joined-what g)
    → Refuses {A = g.row.A.Denot} c.args.self.now c.args.slot (Resize c.args.cols c.args.rows) c.done.result
says g c =
    let turn = c.turn-response in
    refuses c.args.self.now turn.new.self c.args.slot (Resize c.args.cols c.args.rows)
    turn.result.response done_response c.done.result (λ done. refl) c.done.ensures turn.ensures.as_many
    (record { turn = turn.ensures.call; whole = turn.ensures.whole })

pub returns-clause-bad_slot : goal.returns-clause-bad_slot
returns-clause-bad_slot g c = (says g c).bad_slot

pub returns-clause-busy : goal.returns-clause-busy
returns-clause-busy g c =
    only_paused {A = g.row.A.Denot} c.args.self.now c.args.slot (Resize c.args.cols c.args.rows) refl (λ state. refl)
    (says g c).busy
