use Rattle.std.proofs.Common.{ap, rules}
use Rattle.show.proofs.Weaving.{put_then}
use Rattle.show.proofs.weave.woven.Woven.put.Goals as goal

pub returns-clause-bytes : goal.returns-clause-bytes
returns-clause-bytes g c =
    put_then c.begin.new.self.is_inside c.piece_of-count.result.1 _ _ _ _ _ _ c.begin.ensures.kept
    (search rules) (ap g.W.Write.contents c.append.ensures.out) (search rules)
    c.piece_of-count.ensures.piece
