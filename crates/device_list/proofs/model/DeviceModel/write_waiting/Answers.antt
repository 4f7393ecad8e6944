use Rattle.device_list.proofs.Refilling.{network_back}
use Rattle.device_list.proofs.model.DeviceModel.write_waiting.Goals as goal

pub returns-in-Network-clause-back : goal.returns-in-Network-clause-back
returns-in-Network-clause-back g c =
    rw c.in-Network.is (λ other rest same. network_back c.in-Network.card other rest (c.write_waiting.ensures.back rest) same)
