use Rattle.chain.specs.Buffers.{buffer_of}
use Rattle.chain.proofs.Holding.{good_after}
use Rattle.chain.proofs.buffers.Chain.push.Goals as goal

pub returns-clause-keeps : goal.returns-clause-keeps
returns-clause-keeps g c =
    good_after c.args.mem.now c.args.self.now c.push_tested.new.self (buffer_of c.args.addr c.args.len c.args.writable)
    c.push_tested.result (c.push_tested.ensures.ok c.args.mem.now (rw c.from.ensures at c.holds-inside.ensures.inside))
    c.push_tested.ensures.pushed c.push_tested.ensures.err
