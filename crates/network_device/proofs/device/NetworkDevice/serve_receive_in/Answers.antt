use Rattle.std.proofs.Common.{inl, inr, refl, ap}
use Rattle.network_device.specs.Device.{passing}
use Rattle.network_device.specs.Network.{Network}
use Rattle.network_device.proofs.device.NetworkDevice.serve_receive_in.Goals as goal

pub returns-in-Ok-clause-served : goal.returns-in-Ok-clause-served
returns-in-Ok-clause-served g c = rw (← c.self.view_is) (inl c.in-Ok.ensures.serves)

pub returns-in-Err-clause-served : goal.returns-in-Err-clause-served
returns-in-Err-clause-served g c =
    let left = c.in-Err.ensures.leaves in
    rw (← c.self.view_is) (inr (
      refl,
      record {
        last = passing c.serve-served.new.backend.frames c.serve-served.new.device.0.dropped;
        refused = left.ends left.refuses;
        dropped = ap (λ (n : Network). n.waiting) c.drop_waiting.ensures;
      },
    ))
