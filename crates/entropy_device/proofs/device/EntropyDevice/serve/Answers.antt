use Rattle.std.proofs.Common.{refl}
use Rattle.mmio_window.specs.Window.{queue_at}
use Rattle.mmio_window.proofs.Leaving.{whole}
use Rattle.entropy_device.specs.Device.{entropy}
use Rattle.entropy_device.proofs.device.EntropyDevice.serve.Goals as goal

pub returns-clause-served : goal.returns-clause-served
returns-clause-served g c =
    whole entropy _ 0 (queue_at 0 c.args.window.now) c.serve_in.result c.args.mem.now
    c.serve_in.new.mem c.args.window.now c.serve_in.new.window
    c.args.self.now c.serve_in.new.self refl refl
    c.serve_in.ensures.served
