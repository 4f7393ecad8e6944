use Rattle.mmio_window.proofs.Leaving.{on_err}
use Rattle.network_device.proofs.device.NetworkDevice.serve_transmit_in.Goals as goal

pub returns-clause-ok : goal.returns-clause-ok
returns-clause-ok g c = rw (← c.self.view_is) c.serve-served.ensures.serves

pub returns-clause-no_room : goal.returns-clause-no_room
returns-clause-no_room g c =
    rw (← c.self.view_is) (on_err c.serve-served.result _ _ c.serve-served.ensures.leaves
    (λ why left. left.ends left.refuses))
