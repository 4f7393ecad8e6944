use Rattle.std.proofs.Common.{ap, rules, is_ok}
use Rattle.show.proofs.Weaving.{said_or_not}
use Rattle.show.proofs.weave.woven.Woven.say.Goals as goal

pub returns : goal.returns
returns g c =
    said_or_not (is_ok c.append.result) c.args.self.now.is_inside c.append.new.self.is_inside _ _ _ _ _
    c.if-self.false c.append.ensures.inside (ap g.W.Write.contents c.append.ensures.out)
    c.append.ensures.items (search rules)
