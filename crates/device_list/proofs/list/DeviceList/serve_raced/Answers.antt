use Rattle.shared_memory.specs.Sightings.{memory}
use Rattle.device_list.proofs.Sound.{all_sound}
use Rattle.device_list.proofs.list.DeviceList.serve_raced.Goals.{in-Some, in-None}
use Rattle.device_list.proofs.list.DeviceList.serve_raced.Goals as goal

pub returns-clause-sound : goal.returns-clause-sound
returns-clause-sound g c = elim c.match-get_mut.branch [
  | in-Some w ↦ rw (w.mem-is, w.self-inside-is)
      (all_sound (memory (g.M.Shared.sightings c.args.mem.now.0)) (memory (g.M.Shared.sightings w.serve_in.new.mem.0))
      c.self.inside.devices.items c.args.self.now c.from.result w.serve_in.new.self c.self.view_is
      w.serve_in.ensures.range c.requires.sound w.serve_in.ensures.sound)
  | in-None w ↦ rw (w.mem-is, w.self-inside-is, c.self.view_is) c.requires.sound
]
