use Rattle.shared_memory.specs.Sightings.{memory}
use Rattle.console_device.proofs.Transmitting.{on_ok, whole_long, whole_out}
use Rattle.console_device.proofs.transmit.put_out.Goals as goal

pub returns-in-Some-clause-ok : goal.returns-in-Some-clause-ok
returns-in-Some-clause-ok g c =
    on_ok c.put.result _ _ (whole_out (g.M.Shared.sightings c.args.mem.now) c.args.chain.now c.in-Some.bytes.now
    (g.O.Outlet.bytes c.args.out.now) (g.O.Outlet.bytes c.put.new.self) c.requires.good c.in-Some.ensures) c.put.ensures.ok

pub returns-in-Some-clause-fits : goal.returns-in-Some-clause-fits
returns-in-Some-clause-fits g c =
    rw (whole_long (memory (g.M.Shared.sightings c.args.mem.now)) c.args.chain.now c.in-Some.bytes.now c.requires.good.inside
    c.in-Some.ensures) at c.put.ensures.fits

pub returns-in-Some-clause-owed : goal.returns-in-Some-clause-owed
returns-in-Some-clause-owed g c =
    rw (whole_long (memory (g.M.Shared.sightings c.args.mem.now)) c.args.chain.now c.in-Some.bytes.now c.requires.good.inside
    c.in-Some.ensures) at c.put.ensures.some

pub returns-in-Some-clause-refused : goal.returns-in-Some-clause-refused
returns-in-Some-clause-refused g c =
    rw (whole_long (memory (g.M.Shared.sightings c.args.mem.now)) c.args.chain.now c.in-Some.bytes.now c.requires.good.inside
    c.in-Some.ensures) at c.put.ensures.refused
