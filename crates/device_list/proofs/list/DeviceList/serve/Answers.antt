use Rattle.device_list.proofs.Sound.{all_sound}
use Rattle.device_list.proofs.list.DeviceList.serve.Goals.{in-Some, in-None}
use Rattle.device_list.proofs.list.DeviceList.serve.Goals as goal

pub returns-clause-sound : goal.returns-clause-sound
returns-clause-sound g c = elim c.match-get_mut.branch [
  | in-Some w ↦ rw (w.mem-is, w.self-inside-is)
      (all_sound c.args.mem.now w.serve.new.mem c.self.inside.devices.items c.args.self.now c.from.result
      w.serve.new.self c.self.view_is w.serve.ensures.range c.requires.sound w.serve.ensures.sound)
  | in-None w ↦ rw (w.mem-is, w.self-inside-is, c.self.view_is) c.requires.sound
]
