-- When a further console isn't resized.
use Rattle.std.proofs.Common.{refl}
use Rattle.board.specs.declared.event.DeviceEvent.TheVariants.{Resize}
use Rattle.session.specs.Answering.{done_response}
use Rattle.session.proofs.Devices.{resizes_suit}
use Rattle.session.proofs.ExactDevices.{device_told}
use Rattle.session.proofs.session.Session.resize_device.Goals as goal

pub done-requires : goal.done-requires
done-requires g c =
    resizes_suit c.args.device c.args.cols c.args.rows c.device_event.result c.device_event.ensures.suits

pub returns : goal.returns
returns g c =
    let did = c.device_event in
    let says =
    device_told c.args.self.now did.new.self c.args.slot c.args.device (Resize c.args.cols c.args.rows) did.result done_response
    c.done.result (λ value. refl) c.done.ensures did.ensures.as_many did.ensures.call (λ state. refl) in
    record { call = says.0; refuses = says.1 }
