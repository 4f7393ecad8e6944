use Rattle.std.proofs.Common.{◌∙◌, List, subst}
use Rattle.device_list.specs.Device.{DeviceState}
use Rattle.device_list.specs.List.{AreSoundDevices}
use Rattle.device_list.specs.Saved.{RestoresEach}
use Rattle.device_list.proofs.list.DeviceList.saved.Goals as goal

pub returns-clause-back : goal.returns-clause-back
returns-clause-back g c = λ m sound.
    subst (λ (l : List DeviceState). AreSoundDevices m l → RestoresEach m l)
    (c.as_slice.ensures.value ∙ c.self.view_is) (c.save_each.ensures.back m) sound
