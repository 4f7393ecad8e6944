use Rattle.std.proofs.Common.{◌∙◌, ◌↔◌, List, subst}
use Rattle.std.specs.Prelude.{IsTrue}
use Rattle.device_list.specs.Device.{DeviceState}
use Rattle.device_list.specs.Saved.{SuitDevices}
use Rattle.device_list.proofs.list.DeviceList.suits.Goals as goal

pub returns : goal.returns
returns g c =
    subst (λ (l : List DeviceState). IsTrue c.each_suits.result ↔ SuitDevices c.args.saved.now l)
    (c.as_slice.ensures.value ∙ c.self.view_is) c.each_suits.ensures
