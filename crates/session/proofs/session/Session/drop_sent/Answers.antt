-- What a device's driver sent is dropped, or it is refused.
use Rattle.std.proofs.Common.{refl}
use Rattle.board.specs.declared.event.DeviceEvent.TheVariants.{DropSent}
use Rattle.board.specs.declared.event.EventKind.TheVariants.{Device}
use Rattle.session.specs.Answering.{handed_response}
use Rattle.session.proofs.Devices.{drop_counts, drops_refuse, drops_suit}
use Rattle.session.proofs.Exact.{handed_pure}
use Rattle.session.proofs.ExactDevices.{device_told}
use Rattle.session.proofs.Paused.{drop_some, pauses}
use Rattle.session.proofs.session.Session.drop_sent.Goals as goal

pub handing-requires-clause-handing : goal.handing-requires-clause-handing
handing-requires-clause-handing g c =
    let began = c.begin_at_device-response in
    drops_suit c.args.device began.result began.ensures.suits

pub handing-requires-clause-taken : goal.handing-requires-clause-taken
handing-requires-clause-taken g c = λ more.
    let began = c.begin_at_device-response in
    let old = c.args.self.now in
    rw (c.taken-taken.ensures)
    (drop_some g.row.A.Denot old began.new.self c.args.slot c.args.device
    (pauses old began.new.self c.args.slot (Device c.args.device DropSent) began.result more
    began.ensures.call.turn))

pub returns-clause-count : goal.returns-clause-count
returns-clause-count g c =
    let began = c.begin_at_device-response in
    drop_counts c.args.self.now began.new.self c.args.slot c.args.device began.result c.handing.result
    began.ensures.call c.handing.ensures.told (rw (c.taken-taken.ensures) at c.handing.ensures.taken)

pub returns-clause-refused : goal.returns-clause-refused
returns-clause-refused g c =
    let began = c.begin_at_device-response in
    drops_refuse c.args.device began.result c.handing.result c.handing.ensures.told began.ensures.suits

pub returns-clause-refuses : goal.returns-clause-refuses
returns-clause-refuses g c =
    let began = c.begin_at_device-response in
    let says =
    device_told c.args.self.now began.new.self c.args.slot c.args.device DropSent began.result handed_response
    c.handing.result (handed_pure _) c.handing.ensures.told began.ensures.as_many began.ensures.call (λ state. refl) in
    says.1
