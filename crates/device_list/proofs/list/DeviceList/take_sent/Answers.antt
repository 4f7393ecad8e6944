use Rattle.device_list.proofs.Sound.{one_changed}
use Rattle.device_list.proofs.list.DeviceList.take_sent.Goals as goal

pub returns-clause-sound : goal.returns-clause-sound
returns-clause-sound g c = λ m sound.
    one_changed m c.self.inside.devices.items c.args.self.now c.from.result c.in_ok-found.found.now c.take_sent.new.self
    c.self.view_is c.in_ok-found.ensures.item.3.0 c.in_ok-found.ensures.item.1 (c.take_sent.ensures.sound m) sound
