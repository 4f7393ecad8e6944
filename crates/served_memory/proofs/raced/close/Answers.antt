use Rattle.shared_memory.specs.Sightings.{memory}
use Rattle.racing_window.specs.Lasting.{queue_lasts}
use Rattle.served_memory.proofs.Leaving.{closed_sound}
use Rattle.served_memory.proofs.raced.close.Goals as goal

pub returns-clause-range : goal.returns-clause-range
returns-clause-range g c = queue_lasts.closed_range _ _ _ _ _ c.close.ensures.closed

pub returns-clause-sound : goal.returns-clause-sound
returns-clause-sound g c =
    closed_sound (memory (g.M.Shared.sightings c.args.mem.now)) (memory (g.M.Shared.sightings c.close.new.mem))
    c.args.window.now c.show.new.window c.args.q c.in-Some.queue.now c.of-ring.result c.close.new.self c.queue-2.result
    c.requires.sound (returns-clause-range g c) c.in-Some.ensures.value c.of-ring.ensures c.close.ensures.shut
    c.queue-2.ensures (c.show.ensures.sound (memory (g.M.Shared.sightings c.close.new.mem)))
