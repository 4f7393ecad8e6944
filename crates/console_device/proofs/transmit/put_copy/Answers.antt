use Rattle.std.proofs.Common.{length}
use Rattle.chain_handler.proofs.Doing.{copy_out}
use Rattle.console_device.proofs.transmit.put_copy.Goals as goal

pub returns-clause-put : goal.returns-clause-put
returns-clause-put g c =
    copy_out g.M.Shared.races (g.M.Shared.sightings c.args.mem.now)
    (g.M.Shared.sightings c.load.new.self) c.args.addr (length c.args.piece.now) c.load.new.into
    (g.O.Outlet.bytes c.args.out.now) (g.O.Outlet.bytes c.append.new.self) c.load.ensures.loads c.requires.inside
    c.load.ensures.value c.append.ensures.bytes
