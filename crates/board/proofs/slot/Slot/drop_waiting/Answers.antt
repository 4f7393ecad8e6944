use Rattle.std.proofs.Common.{refl, sym, ◌∙◌}
use Rattle.board.proofs.Belonging.{devices_changed}
use Rattle.board.proofs.Beside.{same_range}
use Rattle.board.proofs.FurtherBegins.{taken_at, taken_first}
use Rattle.board.proofs.slot.Slot.drop_waiting.Goals as goal

pub invariant_of-self-2 : goal.invariant_of-self-2
invariant_of-self-2 g c =
    let memory = c.self.inside.memory in
    devices_changed memory memory _ c.self.inside.block c.self.inside.console _ _ c.take_sent.new.self c.self.invariant
    (same_range memory) (c.take_sent.ensures.sound memory c.self.invariant.devices_sound)

pub returns-clause-takes : goal.returns-clause-takes
returns-clause-takes g c =
    let took = c.in-Some.ensures in
    rw (← c.self.view_is)
    (taken_at c.args.device c.self.inside.memory c.serve_further.new.self.memory c.self.inside.devices
    c.take_sent.new.self c.serve_further.new.self.devices c.serve_further.result _ took.count (took.taken refl)
    (sym c.has_sent.ensures ∙ c.if-has_sent.false) c.serve_further.ensures.served)

pub returns-then-has_sent-clause-takes : goal.returns-then-has_sent-clause-takes
returns-then-has_sent-clause-takes g c =
    let took = c.in-Some.ensures in
    rw (← c.self.view_is)
    (taken_first c.args.device c.self.inside.memory c.self.inside.devices c.take_sent.new.self _ took.count (took.taken refl)
    (sym c.has_sent.ensures ∙ c.if-has_sent.true))
