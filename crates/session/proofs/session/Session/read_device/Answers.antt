-- When a read of a further device's window is refused.
use Rattle.std.proofs.Common.{refl}
use Rattle.board.specs.declared.event.DeviceEvent.TheVariants.{Read}
use Rattle.session.specs.Answering.{value_response}
use Rattle.session.proofs.Devices.{reads_suit}
use Rattle.session.proofs.ExactDevices.{device_told}
use Rattle.session.proofs.session.Session.read_device.Goals as goal

pub gave-requires : goal.gave-requires
gave-requires g c =
    reads_suit c.args.device c.args.offset c.args.width c.device_event.result c.device_event.ensures.suits

pub returns : goal.returns
returns g c =
    let did = c.device_event in
    let says =
    device_told c.args.self.now did.new.self c.args.slot c.args.device (Read c.args.offset c.args.width) did.result value_response
    c.gave.result (λ value. refl) c.gave.ensures did.ensures.as_many did.ensures.call (λ state. refl) in
    record { call = says.0; refuses = says.1 }
