-- When a write of a further device's window is refused, and when it asks the host for something.
use Rattle.board.specs.declared.event.DeviceEvent.TheVariants.{Write}
use Rattle.board.specs.declared.slot_disk.SlotDisk.TheVariants.{Further}
use Rattle.session.specs.Answering.{served_response}
use Rattle.session.specs.Operations.{HasAsked, in_flight_at}
use Rattle.session.proofs.Asking.{asked_where, asks_unless}
use Rattle.session.proofs.Devices.{writes_suit}
use Rattle.session.proofs.Exact.{served_pure}
use Rattle.session.proofs.ExactDevices.{device_refuses}
use Rattle.session.proofs.session.Session.write_device.Goals as goal

pub served-requires : goal.served-requires
served-requires g c =
    let began = c.begin_at_device-response in
    writes_suit c.args.device c.args.offset c.args.width c.args.value began.result began.ensures.suits

pub returns-clause-asks : goal.returns-clause-asks
returns-clause-asks g c =
    let began = c.begin_at_device-response in
    let old = c.args.self.now in
    let new = began.new.self in
    asks_unless began.result c.served.result c.has_asked-asks.result
    (HasAsked c.args.slot (Further c.args.device) old new) c.served.ensures.asks c.served.ensures.told
    (asked_where c.in_flight-before.result c.in_flight-after.result
    (in_flight_at c.args.slot (Further c.args.device) old.slots) (in_flight_at c.args.slot (Further c.args.device) new.slots)
    c.has_asked-asks.result c.in_flight-before.ensures c.in_flight-after.ensures
    c.has_asked-asks.ensures)

pub returns-clause-refuses : goal.returns-clause-refuses
returns-clause-refuses g c =
    let began = c.begin_at_device-response in
    device_refuses c.args.self.now began.new.self c.args.slot c.args.device
    (Write c.args.offset c.args.width c.args.value) began.result served_response c.served.result
    (served_pure _) c.served.ensures.told began.ensures.as_many began.ensures.call
