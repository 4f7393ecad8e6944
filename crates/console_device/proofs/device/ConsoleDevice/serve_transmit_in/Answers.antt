use Rattle.mmio_window.proofs.Leaving.{on_err}
use Rattle.console_device.proofs.device.ConsoleDevice.serve_transmit_in.Goals as goal

pub returns-clause-no_memory : goal.returns-clause-no_memory
returns-clause-no_memory g c =
    on_err c.serve.result _ _ c.serve.ensures.leaves (λ why left. left.ends left.refuses)
