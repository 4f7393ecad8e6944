use Rattle.shared_memory.specs.Sightings.{memory}
use Rattle.racing_guest.proofs.Telling.{looked_sound}
use Rattle.racing_guest.proofs.block.looking.look.Goals as goal

pub returns-clause-sound : goal.returns-clause-sound
returns-clause-sound g c =
    looked_sound g.M.Shared.races c.args.limits c.wants_stable-stable.result
    (g.M.Shared.sightings c.args.mem.now) (g.M.Shared.sightings c.serve-served.new.mem)
    (memory (g.M.Shared.sightings c.args.mem.now)) (memory (g.M.Shared.sightings c.serve-served.new.mem))
    c.args.window.now c.show_looks.new.window c.show_looks.new.window c.in-Some.queue.now c.of-ring.result
    c.serve-served.new.queue c.queue-2.result c.args.disk.now c.serve-served.new.self c.serve-served.result.ending
    c.serve-served.result.wanted _ c.requires.sound c.serve-served.ensures.range c.in-Some.ensures.value c.of-ring.ensures
    c.queue-2.ensures c.fault_met-fault.ensures.fault c.serve-served.ensures.held c.show_looks.ensures.after
    (c.show_looks.ensures.sound (memory (g.M.Shared.sightings c.serve-served.new.mem))) c.serve-served.ensures.serves
