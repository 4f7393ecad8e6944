use Rattle.show.proofs.Weaving.{untabbed}
use Rattle.show.proofs.weave.woven.has_tab.Goals as goal

pub returns : goal.returns
returns c = rw c.is_some.ensures (untabbed c.args.text.now c.memchr.result c.memchr.ensures)
