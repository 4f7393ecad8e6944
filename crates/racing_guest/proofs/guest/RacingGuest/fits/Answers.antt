use Rattle.shared_memory.specs.Sightings.{memory}
use Rattle.racing_guest.proofs.Fitting.{sound_by_parts}
use Rattle.racing_guest.proofs.guest.RacingGuest.fits.Goals as goal

pub returns-then-fits-clause-sound : goal.returns-then-fits-clause-sound
returns-then-fits-clause-sound g c = λ fits.
    sound_by_parts (memory (g.M.Shared.sightings c.args.mem.now)) c.args.self.now c.self.inside.block c.self.inside.console
    c.window.result.now c.window-then-fits.result.now c.self.view_is c.window.ensures c.window-then-fits.ensures
    (c.fits.ensures.sound c.if-fits.true) (c.fits-then-fits.ensures.sound fits)
