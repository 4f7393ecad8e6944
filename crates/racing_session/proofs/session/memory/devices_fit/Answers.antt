use Rattle.std.proofs.Common.{◌∙◌, List, [], ap}
use Rattle.shared_memory.specs.Sightings.{memory}
use Rattle.racing_memory.specs.Past.{sightings_of}
use Rattle.device_list.specs.Device.{DeviceState}
use Rattle.device_list.specs.List.{devices_fit}
use Rattle.guest_memory.specs.Pages.{bits_of}
use Rattle.racing_session.proofs.Moving.{devices_fit_each, devices_sound_each}
use Rattle.racing_session.proofs.session.memory.devices_fit.Goals as goal

pub returns-clause-fits : goal.returns-clause-fits
returns-clause-fits g c =
    devices_fit_each c.args.memory.now (bits_of c.new.result.items) [] c.over-memory.result c.args.further.now.devices c.over-memory.ensures c.fits.result
    (c.fits.ensures.fits ∙ ap (λ (ds : List DeviceState). devices_fit (memory (sightings_of c.over-memory.result)) ds) c.devices.ensures)

pub returns-clause-sound : goal.returns-clause-sound
returns-clause-sound g c = λ fits.
    devices_sound_each c.args.memory.now (bits_of c.new.result.items) [] c.over-memory.result c.args.further.now.devices c.over-memory.ensures c.devices.result.now
    c.devices.ensures (c.fits.ensures.sound fits)
