use Rattle.std.proofs.Common.{◌∙◌, ap₂, ℕ, List}
use Rattle.std.specs.List.{slice_get}
use Rattle.device_list.specs.Device.{DeviceState}
use Rattle.device_list.proofs.Saved.{looked_up}
use Rattle.device_list.proofs.list.DeviceList.get.Goals as goal

pub returns : goal.returns
returns g c =
    looked_up (λ found. found.now) _ c.get.result c.deref.result.now c.from.result c.get.ensures.lookup.1
    c.get.ensures.lookup.3
    ∙ ap₂ (λ (l : List DeviceState) (i : ℕ). slice_get l i) (c.deref.ensures.value ∙ c.self.view_is) c.from.ensures
