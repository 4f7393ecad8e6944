use Rattle.chain_handler.proofs.Still.{does_as, range_as, refuses_as}
use Rattle.chain_handler.proofs.standing.StandingQueueHandler.serve.Goals as goal

pub returns-clause-does : goal.returns-clause-does
returns-clause-does g c = does_as _ (λ s l b why. Unit {0}) _ _ _ _ _ c.serve.result c.requires.good c.serve.ensures.does

pub returns-clause-refuses : goal.returns-clause-refuses
returns-clause-refuses g c =
    refuses_as (g.H.ChainHandler.device (g.H.ChainHandler.setup c.args.self.now.0 c.args.backend.now)) _ _ _ _ _
    (g.H.ChainHandler.state c.serve.new.self c.serve.new.backend) c.serve.result c.requires.good c.serve.ensures.refuses

pub returns-clause-range : goal.returns-clause-range
returns-clause-range g c = range_as _ _ _ _ _ _ _ c.serve.result c.serve.ensures.does c.serve.ensures.refuses
