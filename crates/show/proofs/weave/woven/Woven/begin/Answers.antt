use Rattle.std.proofs.Common.{ap, rules}
use Rattle.show.proofs.Weaving.{begun_then}
use Rattle.show.proofs.weave.woven.Woven.begin.Goals as goal

pub returns-in_ok-append-clause-kept : goal.returns-in_ok-append-clause-kept
returns-in_ok-append-clause-kept g c =
    begun_then c.args.self.now.is_inside _ _ _ _ (search rules)
    (ap g.W.Write.contents c.append.ensures.out) (search rules)
