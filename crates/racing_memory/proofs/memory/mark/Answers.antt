use Rattle.racing_memory.proofs.Marks.{none_kept}
use Rattle.racing_memory.proofs.memory.mark.Goals as goal

pub returns-else-not-is_empty : goal.returns-else-not-is_empty
returns-else-not-is_empty c =
    none_kept c.args.pages.now.items c.args.from c.args.n c.args.pages.now.ok.0 c.is_empty.ensures c.if-not-is_empty.false
