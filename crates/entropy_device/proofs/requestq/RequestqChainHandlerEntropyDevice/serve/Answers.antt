use Rattle.entropy_device.proofs.Filling.{filled_raced}
use Rattle.entropy_device.proofs.requestq.RequestqChainHandlerEntropyDevice.serve.Goals as goal

pub returns-clause-does : goal.returns-clause-does
returns-clause-does g c =
    filled_raced g.M.Shared.races (g.M.Shared.sightings c.args.mem.now) (g.M.Shared.sightings c.fill-count.new.mem)
    c.args.chain.now c.args.pool.now c.fill-count.new.self c.fill-count.result c.requires.good
    c.fill-count.ensures.count c.fill-count.ensures.stored c.fill-count.ensures.left
