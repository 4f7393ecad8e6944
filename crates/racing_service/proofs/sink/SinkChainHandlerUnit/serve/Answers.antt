use Rattle.std.proofs.Common.{refl}
use Rattle.racing_service.specs.Sink.{sink}
use Rattle.chain_handler.proofs.Seeing.{writes_nothing}
use Rattle.racing_service.proofs.sink.SinkChainHandlerUnit.serve.Goals as goal

pub returns-clause-does : goal.returns-clause-does
returns-clause-does g c =
    writes_nothing sink g.M.Shared.races (g.M.Shared.sightings c.args.mem.now) c.args.chain.now tt tt
    c.requires.good refl
