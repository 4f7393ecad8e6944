use Rattle.replay.proofs.Begun.{puts_asked, puts_more}
use Rattle.replay.proofs.asking.put_asked.Goals as goal

pub returns : goal.returns
returns g c before further from from_further =
    puts_asked _ _ _ _ _ _ _ _
    (puts_more _ _ _ _ _ _ _ _ _ _ _ (c.put_tags-no_own.ensures before from)
    (c.put_named-is_none.ensures further from_further))
    c.put_asked_end.ensures
