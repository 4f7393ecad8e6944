use Rattle.console_device.proofs.Transmitting.{left, transmit_does, transmit_refused}
use Rattle.console_device.proofs.transmit.TransmitHandlerChainHandler.serve.Goals as goal

pub returns-in_err-put_out-clause-refuses : goal.returns-in_err-put_out-clause-refuses
returns-in_err-put_out-clause-refuses g c =
    left c.from_residual.result _ (λ why. transmit_refused (g.O.Outlet.limit c.args.out.now)
    g.M.Shared.races (g.M.Shared.sightings c.args.mem.now)
    (g.M.Shared.sightings c.put_out.new.mem) c.args.chain.now (g.O.Outlet.bytes c.args.out.now) why
    c.in_err-put_out.ensures.unread c.requires.good c.in_err-put_out.ensures.owed c.in_err-put_out.ensures.refused)

pub returns-clause-does : goal.returns-clause-does
returns-clause-does g c =
    transmit_does (g.O.Outlet.limit c.args.out.now) g.M.Shared.races (g.M.Shared.sightings c.args.mem.now)
    (g.M.Shared.sightings c.put_out.new.mem) c.args.chain.now (g.O.Outlet.bytes c.args.out.now)
    (g.O.Outlet.bytes c.put_out.new.out) c.put_out.ensures.loads c.in_ok-put_out.ensures.ok c.in_ok-put_out.ensures.fits
