use Rattle.std.proofs.Common.{ap, ◌∙◌}
use Rattle.board.proofs.Lists.{none_there, some_there}
use Rattle.board.proofs.board.Board.slot.Goals as goal

pub returns-clause-there : goal.returns-clause-there
returns-clause-there g c =
    some_there c.deref.result.now c.args.self.now.slots c.args.slot c.get.result (c.deref.ensures.value
    ∙ ap (λ b. b.slots) c.self.view_is) c.get.ensures.lookup

pub returns-clause-missing : goal.returns-clause-missing
returns-clause-missing g c =
    none_there c.deref.result.now c.args.self.now.slots c.args.slot c.get.result (c.deref.ensures.value
    ∙ ap (λ b. b.slots) c.self.view_is) c.get.ensures.lookup
