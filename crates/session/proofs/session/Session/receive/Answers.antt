-- A frame is handed to a network card, or it is refused.
use Rattle.std.proofs.Common.{refl}
use Rattle.board.specs.declared.event.DeviceEvent.TheVariants.{Receive}
use Rattle.board.specs.declared.event.EventKind.TheVariants.{Device}
use Rattle.session.specs.Answering.{handed_response}
use Rattle.session.proofs.Devices.{frame_whole, receives_suit}
use Rattle.session.proofs.Exact.{handed_pure}
use Rattle.session.proofs.ExactDevices.{device_told}
use Rattle.session.proofs.Paused.{frame_some, pauses}
use Rattle.session.proofs.session.Session.receive.Goals as goal

pub handing-requires-clause-handing : goal.handing-requires-clause-handing
handing-requires-clause-handing g c =
    let began = c.begin_at_device-response in
    receives_suit c.args.device c.args.frame.now began.result began.ensures.suits

pub handing-requires-clause-taken : goal.handing-requires-clause-taken
handing-requires-clause-taken g c = λ more.
    let began = c.begin_at_device-response in
    let old = c.args.self.now in
    rw (c.taken-taken.ensures)
    (frame_some g.row.A.Denot old began.new.self c.args.slot c.args.device c.args.frame.now
    (pauses old began.new.self c.args.slot (Device c.args.device (Receive c.args.frame.now)) began.result more
    began.ensures.call.turn))

pub returns-clause-whole : goal.returns-clause-whole
returns-clause-whole g c =
    let began = c.begin_at_device-response in
    frame_whole c.args.self.now began.new.self c.args.slot c.args.device c.args.frame.now began.result
    c.handing.result began.ensures.call c.handing.ensures.told
    (rw (c.taken-taken.ensures) at c.handing.ensures.taken)

pub returns-clause-refuses : goal.returns-clause-refuses
returns-clause-refuses g c =
    let began = c.begin_at_device-response in
    let says =
    device_told c.args.self.now began.new.self c.args.slot c.args.device (Receive c.args.frame.now) began.result handed_response
    c.handing.result (handed_pure _) c.handing.ensures.told began.ensures.as_many began.ensures.call (λ state. refl) in
    says.1
