-- When a write is refused, and when it asks the host for something.
use Rattle.board.specs.declared.event.EventKind.TheVariants.{Write}
use Rattle.board.specs.declared.slot_disk.SlotDisk.TheVariants.{Own}
use Rattle.session.specs.Answering.{served_response}
use Rattle.session.specs.Operations.{HasAsked, in_flight_at}
use Rattle.session.proofs.Asking.{asked_where, asks_where, pausing_asks}
use Rattle.session.proofs.Exact.{Refuses, refuses, served_pure}
use Rattle.session.proofs.session.Session.write.Goals as goal

pub returns-clause-asks : goal.returns-clause-asks
returns-clause-asks g c =
    let turn = c.turn-response in
    let old = c.args.self.now in
    let new = turn.new.self in
    asks_where turn.result.response c.served.result c.has_asked-asks.result (HasAsked c.args.slot Own old new)
    c.served.ensures.asks
    (asked_where c.in_flight-before.result c.in_flight-after.result (in_flight_at c.args.slot Own old.slots)
    (in_flight_at c.args.slot Own new.slots) c.has_asked-asks.result c.in_flight-before.ensures
    c.in_flight-after.ensures c.has_asked-asks.ensures)
    (pausing_asks old new c.args.slot
    (Write c.args.window c.args.offset c.args.width c.args.value) turn.result.response turn.ensures.call)

says : (g : _) (c : goal.Joined-what g)
    → Refuses {A = g.row.A.Denot} c.args.self.now c.args.slot
    (Write c.args.window c.args.offset c.args.width c.args.value) c.served.result
says g c =
    let turn = c.turn-response in
    refuses c.args.self.now turn.new.self c.args.slot
    (Write c.args.window c.args.offset c.args.width c.args.value) turn.result.response served_response
    c.served.result (served_pure _) c.served.ensures.told turn.ensures.as_many
    (record { turn = turn.ensures.call; whole = turn.ensures.whole })

pub returns-clause-bad_slot : goal.returns-clause-bad_slot
returns-clause-bad_slot g c = (says g c).bad_slot

pub returns-clause-busy : goal.returns-clause-busy
returns-clause-busy g c = (says g c).busy

pub returns-clause-no_room : goal.returns-clause-no_room
returns-clause-no_room g c = λ is. (says g c).no_room is tt
