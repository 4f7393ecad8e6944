use Rattle.device_list.proofs.Sound.{all_sound}
use Rattle.device_list.proofs.list.DeviceList.serve_image.Goals as goal

pub returns-clause-sound : goal.returns-clause-sound
returns-clause-sound g c =
    all_sound c.args.mem.now c.serve_image.new.mem c.self.inside.devices.items c.args.self.now c.from.result
    c.serve_image.new.self c.self.view_is c.serve_image.ensures.range c.requires.sound c.serve_image.ensures.sound
