use Rattle.shared_memory.specs.Sightings.{memory}
use Rattle.device_list.proofs.Saved.{refused_stays}
use Rattle.device_list.proofs.Sound.{one_changed}
use Rattle.device_list.proofs.list.DeviceList.write_raced.Goals as goal

pub returns-clause-sound : goal.returns-clause-sound
returns-clause-sound g c =
    one_changed (memory (g.M.Shared.sightings c.args.mem.now)) c.self.inside.devices.items c.args.self.now c.from.result c.in-Some.found.now
    c.write.new.self c.self.view_is c.in-Some.ensures.item.3.0 c.in-Some.ensures.item.1
    (λ was. c.write.ensures.sound) c.requires.sound

pub returns-clause-kept : goal.returns-clause-kept
returns-clause-kept g c =
    refused_stays c.write.result c.self.inside.devices.items c.args.self.now c.from.result c.in-Some.found.now c.write.new.self
    c.self.view_is c.in-Some.ensures.item.3.0 c.in-Some.ensures.item.1 c.write.ensures.kept
