use Rattle.std.proofs.Common.{refl, rules}
use Rattle.replay.proofs.Begun.{put_all, put_none, put_one}
use Rattle.replay.proofs.asking.put_tags.Goals as goal

pub loop-left-init : goal.loop-left-init
loop-left-init g c = rw c.taken.ensures (put_none _ _ _ _ _ _)

pub loop-left-preserved : goal.loop-left-preserved
loop-left-preserved g c =
    put_one _ _ _ _ _ _ _ _ _ _ _ _ _ _ _ c.loop-left.invariant c.take_one-tag.ensures
    c.put_tag-is_none.ensures.sends c.put_tag-is_none.ensures.none

pub returns : goal.returns
returns g c before from =
    put_all _ _ before _ _ _ _ _ _ _ _ _ (search rules) (search rules) refl c.loop-left.invariant (search rules) from
