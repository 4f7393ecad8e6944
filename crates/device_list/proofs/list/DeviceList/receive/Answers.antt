use Rattle.device_list.proofs.Sound.{one_changed}
use Rattle.device_list.proofs.list.DeviceList.receive.Goals as goal

pub returns-clause-sound : goal.returns-clause-sound
returns-clause-sound g c = λ m sound.
    one_changed m c.self.inside.devices.items c.args.self.now c.from.result c.in-Some.found.now c.receive.new.self
    c.self.view_is c.in-Some.ensures.item.3.0 c.in-Some.ensures.item.1 (c.receive.ensures.sound m) sound
