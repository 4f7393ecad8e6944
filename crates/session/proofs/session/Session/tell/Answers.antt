-- When what the host says of a disk is refused, and when something began with it.
use Rattle.session.specs.Operations.{AskedBy, in_flight_at}
use Rattle.session.proofs.Asking.{asks_where}
use Rattle.session.proofs.Devices.{at_once, never_more, says_suit}
use Rattle.session.proofs.ExactDevices.{DiskRefuses, disk_refuses}
use Rattle.session.proofs.session.Session.tell.Goals as goal

pub served-requires : goal.served-requires
served-requires g c = says_suit c.args.disk c.args.said c.say-response.result.response c.say-response.ensures.suits

pub returns-clause-asks : goal.returns-clause-asks
returns-clause-asks g c =
    let did = c.say-response in
    asks_where did.result.response c.served.result c.has_asked_by-asks.result
    (AskedBy c.args.said (in_flight_at c.args.slot c.args.disk c.args.self.now.slots)
    (in_flight_at c.args.slot c.args.disk did.new.self.slots)) c.served.ensures.asks
    (rw (c.in_flight-before.ensures, c.in_flight-after.ensures) at c.has_asked_by-asks.ensures)
    (λ more asks. absurd (never_more g.row.A.Denot c.args.disk c.args.said (rw more at did.ensures.suits)))

pub returns-clause-at_once : goal.returns-clause-at_once
returns-clause-at_once g c =
    at_once c.args.disk c.args.said c.say-response.result.response c.served.result c.served.ensures.told
    c.say-response.ensures.suits

says : (g : _) (c : goal.After-served g)
    → DiskRefuses c.args.self.now c.args.slot c.args.disk c.args.said c.served.result
says g c =
    let did = c.say-response in
    disk_refuses {A = g.row.A.Denot} c.args.self.now did.new.self c.args.slot c.args.disk c.args.said
    did.result.response c.served.result c.served.ensures.told did.ensures.suits did.ensures.as_many did.ensures.call

pub returns-clause-bad_slot : goal.returns-clause-bad_slot
returns-clause-bad_slot g c = (says g c).bad_slot

pub returns-clause-busy : goal.returns-clause-busy
returns-clause-busy g c = (says g c).busy

pub returns-clause-bad_device : goal.returns-clause-bad_device
returns-clause-bad_device g c = (says g c).bad_device

pub returns-clause-idle : goal.returns-clause-idle
returns-clause-idle g c = (says g c).idle
