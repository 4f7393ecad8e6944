-- When what is typed is refused.
use Rattle.std.proofs.Common.{refl}
use Rattle.board.specs.declared.event.EventKind.TheVariants.{Input}
use Rattle.session.specs.Answering.{handed_response}
use Rattle.session.proofs.Exact.{Refuses, handed_pure, only_paused, refuses}
use Rattle.session.proofs.Paused.{input_takes, pauses}
use Rattle.session.proofs.session.Session.input.Goals as goal

pub handing-requires-clause-taken : goal.handing-requires-clause-taken
handing-requires-clause-taken g c = λ more.
    let began = c.begin_in_place-response in
    let old = c.args.self.now in
    rw (c.taken-taken.ensures)
    (input_takes g.row.A.Denot old began.new.self c.args.slot c.args.bytes.now
    (pauses old began.new.self c.args.slot (Input c.args.bytes.now) began.result.response more began.ensures.call.turn))

says : (g : _) (c : goal.After-handing g)
    → Refuses {A = g.row.A.Denot} c.args.self.now c.args.slot (Input c.args.bytes.now) c.handing.result
says g c =
    let began = c.begin_in_place-response in
    refuses c.args.self.now began.new.self c.args.slot (Input c.args.bytes.now) began.result.response
    handed_response c.handing.result (handed_pure _) c.handing.ensures.told began.ensures.as_many began.ensures.call

pub returns-clause-bad_slot : goal.returns-clause-bad_slot
returns-clause-bad_slot g c = (says g c).bad_slot

pub returns-clause-busy : goal.returns-clause-busy
returns-clause-busy g c =
    only_paused {A = g.row.A.Denot} c.args.self.now c.args.slot (Input c.args.bytes.now) refl (λ state. refl) (says g c).busy
