use Rattle.std.proofs.Common.{◌∙◌, List, ap, sym}
use Rattle.shared_memory.specs.Sightings.{memory}
use Rattle.device_list.specs.Device.{DeviceState}
use Rattle.device_list.specs.List.{devices_fit}
use Rattle.device_list.proofs.Sound.{fitting_sound}
use Rattle.device_list.proofs.list.DeviceList.fits.Goals as goal

pub returns-clause-sound : goal.returns-clause-sound
returns-clause-sound g c = λ fits idle m sound.
    let new = memory (g.M.Shared.sightings c.args.mem.now) in
    fitting_sound new m c.args.self.now (sym (c.each_fits.ensures
    ∙ ap (λ (ds : List DeviceState). devices_fit new ds) (c.as_slice.ensures.value ∙ c.self.view_is)) ∙ fits) idle sound
