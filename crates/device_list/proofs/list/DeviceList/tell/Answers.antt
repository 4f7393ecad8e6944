use Rattle.device_list.proofs.Sound.{all_sound}
use Rattle.device_list.proofs.list.DeviceList.tell.Goals as goal

pub returns-clause-sound : goal.returns-clause-sound
returns-clause-sound g c =
    all_sound c.args.mem.now c.tell.new.mem c.self.inside.devices.items c.args.self.now c.from.result c.tell.new.self
    c.self.view_is c.tell.ensures.range c.requires.sound c.tell.ensures.sound
