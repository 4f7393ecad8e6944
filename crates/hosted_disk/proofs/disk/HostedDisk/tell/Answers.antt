use Rattle.hosted_disk.proofs.Told.{drop_told}
use Rattle.hosted_disk.proofs.disk.HostedDisk.tell.Goals as goal

pub returns-in-Drop-clause-does : goal.returns-in-Drop-clause-does
returns-in-Drop-clause-does g c =
    rw (c.in-Drop.is)
    (drop_told c.give_up.result c.args.self.now c.give_up.new.self c.args.mem.now c.args.window.now
    c.give_up.new.window c.give_up.ensures.gives c.give_up.ensures.rest)
