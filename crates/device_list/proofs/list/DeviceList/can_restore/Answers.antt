use Rattle.std.proofs.Common.{◌∙◌}
use Rattle.device_list.proofs.Standing.{judged}
use Rattle.device_list.proofs.list.DeviceList.can_restore.Goals as goal

pub returns : goal.returns
returns g c =
    judged c.args.mem.now c.args.saved.now c.as_slice.result.now c.args.self.now c.can_stand.result
    (c.as_slice.ensures.value ∙ c.self.view_is) c.can_stand.ensures.stand c.can_stand.ensures.fall
