use Rattle.std.proofs.Common.{refl, sym, ◌∙◌}
use Rattle.board.proofs.Belonging.{devices_changed}
use Rattle.board.proofs.Beside.{same_range}
use Rattle.board.proofs.FurtherBegins.{drop_asked, first_dropped, nothing_dropped}
use Rattle.board.proofs.slot.Slot.drop_sent.Goals as goal

pub invariant_of-self : goal.invariant_of-self
invariant_of-self g c =
    let memory = c.self.inside.memory in
    devices_changed memory memory _ c.self.inside.block c.self.inside.console _ _ c.take_sent.new.self c.self.invariant
    (same_range memory) (c.take_sent.ensures.sound memory c.self.invariant.devices_sound)

pub invariant_of-self-2 : goal.invariant_of-self-2
invariant_of-self-2 g c =
    let memory = c.self.inside.memory in
    devices_changed memory memory _ c.self.inside.block c.self.inside.console _ _ c.take_sent.new.self c.self.invariant
    (same_range memory) (c.take_sent.ensures.sound memory c.self.invariant.devices_sound)

pub returns-in_default-clause-answers : goal.returns-in_default-clause-answers
returns-in_default-clause-answers g c =
    let took = c.in_default.ensures in
    nothing_dropped g.row.A.Denot c.args.device _ c.args.self.now c.self.view_is c.take_sent.new.self
    c.nothing_dropped.result took.count (took.kept refl) c.nothing_dropped.ensures

pub returns-clause-asks : goal.returns-clause-asks
returns-clause-asks g c =
    let took = c.in-Some.ensures in
    drop_asked g.row.A.Denot c.args.device _ c.args.self.now c.self.view_is c.take_sent.new.self c.in-Some.count took.count
    (took.taken refl) (sym c.has_sent.ensures ∙ c.if-has_sent.false)

pub returns-then-has_sent-clause-answers : goal.returns-then-has_sent-clause-answers
returns-then-has_sent-clause-answers g c =
    let took = c.in-Some.ensures in
    first_dropped g.row.A.Denot c.args.device _ c.args.self.now c.self.view_is c.take_sent.new.self c.in-Some.count took.count
    (took.taken refl) (sym c.has_sent.ensures ∙ c.if-has_sent.true)
