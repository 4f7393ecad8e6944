use Rattle.std.proofs.Common.{sym}
use Rattle.shared_memory.specs.Sightings.{memory}
use Rattle.racing_guest.proofs.Telling.{told_sound, unserved_sound, untold_sound}
use Rattle.racing_guest.proofs.block.looking.told.Goals as goal

pub returns-in_default-clause-sound : goal.returns-in_default-clause-sound
returns-in_default-clause-sound g c =
    unserved_sound (memory (g.M.Shared.sightings c.args.mem.now)) c.args.window.now c.show_drop.new.window c.args.disk.now
    (sym c.in_default.ensures.value)
    (c.show_drop.ensures.sound (memory (g.M.Shared.sightings c.args.mem.now)) c.requires.sound.window) c.requires.sound
    c.args.said c.tell_unserved.new.self c.if-not-tell_unserved.ensures.does c.show_drop.ensures.after

pub returns-in_err-served-clause-sound : goal.returns-in_err-served-clause-sound
returns-in_err-served-clause-sound g c =
    untold_sound (g.M.Shared.sightings c.args.mem.now) (g.M.Shared.sightings c.tell.new.mem) c.args.window.now
    c.in-Some.queue.now c.args.disk.now c.tell.new.self c.requires.sound c.in_err-served.ensures.unwritten
    c.in_err-served.ensures.kept c.in-Some.ensures.value

pub returns-clause-sound : goal.returns-clause-sound
returns-clause-sound g c =
    told_sound g.M.Shared.races c.args.limits c.wants_stable-stable.result
    (g.M.Shared.sightings c.args.mem.now) (g.M.Shared.sightings c.tell.new.mem)
    (memory (g.M.Shared.sightings c.args.mem.now)) (memory (g.M.Shared.sightings c.tell.new.mem))
    c.args.window.now c.show_looks-progress.new.window c.show_drop-2.new.window c.in-Some.queue.now c.of-ring.result
    c.tell.new.queue c.queue-2.result c.args.disk.now c.tell.new.self c.in_ok-served.served.ending
    c.in_ok-served.served.wanted _ c.requires.sound c.tell.ensures.range c.in-Some.ensures.value c.of-ring.ensures
    c.queue-2.ensures c.fault_met-fault.ensures.fault c.tell.ensures.held c.show_looks-progress.ensures.after
    (c.show_looks-progress.ensures.sound (memory (g.M.Shared.sightings c.tell.new.mem))) c.args.said
    c.in_ok-served.ensures.does (c.show_drop-2.ensures.sound (memory (g.M.Shared.sightings c.tell.new.mem)))
    c.show_drop-2.ensures.after
