use Rattle.std.proofs.Common.{refl}
use Rattle.board.proofs.Belonging.{devices_changed}
use Rattle.board.proofs.Beside.{same_range}
use Rattle.board.proofs.FurtherBegins.{supply_asked}
use Rattle.board.proofs.slot.Slot.supply_device.Goals as goal

pub invariant_of-self : goal.invariant_of-self
invariant_of-self g c =
    let memory = c.self.inside.memory in
    devices_changed memory memory _ c.self.inside.block c.self.inside.console _ _ c.supply.new.self c.self.invariant
    (same_range memory) (c.supply.ensures.sound memory c.self.invariant.devices_sound)

pub returns-clause-asks : goal.returns-clause-asks
returns-clause-asks g c =
    let took = c.in-Some.ensures in
    supply_asked g.row.A.Denot c.args.device _ c.args.self.now c.self.view_is c.supply.new.self c.args.bytes.now
    c.in-Some.taken took.taken (took.supplied refl)
