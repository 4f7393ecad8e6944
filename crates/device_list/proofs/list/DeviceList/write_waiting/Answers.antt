use Rattle.std.proofs.Common.{◌≡◌, ◌∙◌, List, Some, subst}
use Rattle.device_list.specs.Device.{DeviceState}
use Rattle.device_list.specs.Waiting.{AreOfTypes, refilled_devices, waiting_of, with_waiting_of_each}
use Rattle.device_list.proofs.Refilling.{list_back}
use Rattle.device_list.proofs.list.DeviceList.write_waiting.Goals as goal

pub returns-clause-back : goal.returns-clause-back
returns-clause-back g c =
    let same : c.as_slice.result.now ≡ c.args.self.now = c.as_slice.ensures.value ∙ c.self.view_is in
    subst (λ (ds : List DeviceState). (others : List DeviceState) → AreOfTypes ds others
    → refilled_devices (waiting_of ds) others ≡ Some (with_waiting_of_each ds others)) same
    (list_back c.as_slice.result.now c.write_each.ensures.back)
