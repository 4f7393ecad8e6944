use Rattle.std.proofs.Common.{◌∙◌, ap, sym}
use Rattle.shared_memory.specs.Sightings.{memory}
use Rattle.mmio_window.specs.Queue.{entry_of, made_as}
use Rattle.mmio_window.proofs.Soundness.{serving_keeps_sound}
use Rattle.racing_window.proofs.Staying.{served_keeps}
use Rattle.racing_window.proofs.service.serve_queue.Goals as goal

pub returns-in_err-ending-clause-range : goal.returns-in_err-ending-clause-range
returns-in_err-ending-clause-range g c =
    (served_keeps _ _ _ entry_of _ _ _ _ _ _ _ _ _ _ c.serve-served.result c.serve-served.ensures.service
    c.serve-served.ensures.refuses).range

pub returns-clause-range : goal.returns-clause-range
returns-clause-range g c =
    (served_keeps _ _ _ entry_of _ _ _ _ _ _ _ _ _ _ c.serve-served.result c.serve-served.ensures.service
    c.serve-served.ensures.refuses).range

pub returns-in_err-ending-clause-sound : goal.returns-in_err-ending-clause-sound
returns-in_err-ending-clause-sound g c =
    let kept = served_keeps _ _ _ entry_of _ _ _ _ _ _ _ _ _ _ c.serve-served.result c.serve-served.ensures.service
    c.serve-served.ensures.refuses in
    serving_keeps_sound (memory (g.M.Shared.sightings c.args.mem.now)) (memory (g.M.Shared.sightings c.serve-served.new.mem))
    c.args.window.now c.args.q c.in-Some.queue.now c.queue-2.result c.requires.sound kept.range (sym c.in-Some.ensures.value)
    (ap made_as c.queue-2.ensures ∙ kept.made ∙ ap made_as c.of-ring.ensures)

pub returns-clause-sound : goal.returns-clause-sound
returns-clause-sound g c =
    let kept = served_keeps _ _ _ entry_of _ _ _ _ _ _ _ _ _ _ c.serve-served.result c.serve-served.ensures.service
    c.serve-served.ensures.refuses in
    c.show.ensures.sound (memory (g.M.Shared.sightings c.serve-served.new.mem))
    (serving_keeps_sound (memory (g.M.Shared.sightings c.args.mem.now)) (memory (g.M.Shared.sightings c.serve-served.new.mem))
    c.args.window.now c.args.q c.in-Some.queue.now c.queue-2.result c.requires.sound kept.range (sym c.in-Some.ensures.value)
    (ap made_as c.queue-2.ensures ∙ kept.made ∙ ap made_as c.of-ring.ensures))
