use Rattle.std.proofs.Common.{refl}
use Rattle.mmio_window.specs.Window.{queue_at}
use Rattle.console_device.specs.Device.{receive}
use Rattle.mmio_window.proofs.Leaving.{whole}
use Rattle.console_device.proofs.device.ConsoleDevice.serve_receive.Goals as goal

pub returns-clause-served : goal.returns-clause-served
returns-clause-served g c =
    whole receive _ 0 (queue_at 0 c.args.window.now) c.serve_receive_piece.result c.args.mem.now
    c.serve_receive_piece.new.mem c.args.window.now c.serve_receive_piece.new.window
    c.args.self.now.pending c.serve_receive_piece.new.self.pending refl refl
    c.serve_receive_piece.ensures.served
