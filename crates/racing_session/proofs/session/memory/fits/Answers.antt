use Rattle.std.proofs.Common.{[]}
use Rattle.guest_memory.specs.Pages.{bits_of}
use Rattle.racing_session.proofs.Moving.{fits_each, sound_each}
use Rattle.racing_session.proofs.session.memory.fits.Goals as goal

pub returns-clause-fits : goal.returns-clause-fits
returns-clause-fits g c =
    fits_each c.args.memory.now (bits_of c.new.result.items) [] c.over.result c.args.guest.now c.over.ensures c.fits-2.result c.fits-2.ensures.fits

pub returns-clause-sound : goal.returns-clause-sound
returns-clause-sound g c = λ fits none m sound.
    sound_each c.args.memory.now (bits_of c.new.result.items) [] c.over.result c.args.guest.now c.over.ensures (c.fits-2.ensures.sound fits none m sound)
