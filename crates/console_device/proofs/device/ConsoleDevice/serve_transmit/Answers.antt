use Rattle.std.proofs.Common.{refl}
use Rattle.chain.specs.Service.{Refused}
use Rattle.mmio_window.specs.Window.{queue_at}
use Rattle.mmio_window.proofs.Pieces.{notified_once}
use Rattle.console_device.specs.Device.{transmit_within}
use Rattle.console_device.proofs.Notified.{on_refusal, refused_somewhere, served_exactly}
use Rattle.console_device.proofs.Pieces.{sent_whole}
use Rattle.console_device.proofs.device.ConsoleDevice.serve_transmit.Goals as goal

pub returns-clause-ok_within : goal.returns-clause-ok_within
returns-clause-ok_within g c =
    sent_whole (g.O.Outlet.limit c.args.out.now) _ (queue_at 1 c.args.window.now)
    c.in_ok-serve_transmit_piece.field-0
    c.args.mem.now c.serve_transmit_piece.new.mem c.args.window.now c.serve_transmit_piece.new.window
    (g.O.Outlet.bytes c.args.out.now) (g.O.Outlet.bytes c.serve_transmit_piece.new.out)
    refl refl c.in_ok-serve_transmit_piece.ensures.ok

pub returns-clause-ok : goal.returns-clause-ok
returns-clause-ok g c =
    served_exactly (g.O.Outlet.limit c.args.out.now) 1 (queue_at 1 c.args.window.now)
    c.args.mem.now c.serve_transmit_piece.new.mem c.args.window.now c.serve_transmit_piece.new.window
    (g.O.Outlet.bytes c.args.out.now) (g.O.Outlet.bytes c.serve_transmit_piece.new.out)
    (returns-clause-ok_within g c)

pub returns-in_err-serve_transmit_piece-clause-no_memory :
    goal.returns-in_err-serve_transmit_piece-clause-no_memory
returns-in_err-serve_transmit_piece-clause-no_memory g c =
    on_refusal c.from_residual.result _
    (refused_somewhere (g.O.Outlet.limit c.args.out.now) 1 (queue_at 1 c.args.window.now)
    c.args.mem.now c.serve_transmit_piece.new.mem c.args.window.now c.serve_transmit_piece.new.window
    (g.O.Outlet.bytes c.args.out.now) (g.O.Outlet.bytes c.serve_transmit_piece.new.out)
    (notified_once (transmit_within (g.O.Outlet.limit c.args.out.now)) _ 1
    (queue_at 1 c.args.window.now) Refused
    c.args.mem.now c.serve_transmit_piece.new.mem c.args.window.now c.serve_transmit_piece.new.window
    (g.O.Outlet.bytes c.args.out.now) (g.O.Outlet.bytes c.serve_transmit_piece.new.out)
    c.in_err-serve_transmit_piece.ensures.no_memory))
