use Rattle.shared_memory.specs.Sightings.{memory}
use Rattle.racing_window.proofs.Fitting.{sound_by_tests}
use Rattle.racing_window.proofs.memory.fits.Goals as goal

pub returns-then-queue_fits-clause-sound : goal.returns-then-queue_fits-clause-sound
returns-then-queue_fits-clause-sound g c = λ is m sound.
    sound_by_tests m (memory (g.M.Shared.sightings c.args.mem.now)) c.args.window.now c.negotiation-negotiation.result.now
    c.saved-saved.result c.queue_fits.result c.queue_fits-then-queue_fits.result c.saved-saved.ensures.value
    c.negotiation-negotiation.ensures c.queue_fits.ensures c.queue_fits-then-queue_fits.ensures c.if-queue_fits.true is sound
