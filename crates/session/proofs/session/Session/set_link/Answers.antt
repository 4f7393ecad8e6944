-- When a link isn't set.
use Rattle.std.proofs.Common.{refl}
use Rattle.board.specs.declared.event.DeviceEvent.TheVariants.{SetLink}
use Rattle.session.specs.Answering.{done_response}
use Rattle.session.proofs.Devices.{links_suit}
use Rattle.session.proofs.ExactDevices.{device_told}
use Rattle.session.proofs.session.Session.set_link.Goals as goal

pub done-requires : goal.done-requires
done-requires g c =
    links_suit c.args.device c.args.up c.device_event.result c.device_event.ensures.suits

pub returns : goal.returns
returns g c =
    let did = c.device_event in
    let says =
    device_told c.args.self.now did.new.self c.args.slot c.args.device (SetLink c.args.up) did.result done_response
    c.done.result (λ value. refl) c.done.ensures did.ensures.as_many did.ensures.call (λ state. refl) in
    record { call = says.0; refuses = says.1 }
