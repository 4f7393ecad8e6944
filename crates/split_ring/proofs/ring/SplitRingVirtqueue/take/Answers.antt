use Rattle.indirect.specs.Lists.{split_tables}
use Rattle.indirect.proofs.Listing.{list_is_good, split_keeps_good}
use Rattle.split_ring.proofs.ring.SplitRingVirtqueue.take.Goals as goal

pub returns-in-Ok-clause-good : goal.returns-in-Ok-clause-good
returns-in-Ok-clause-good g c =
    let ok = c.in-Ok.ensures.ok in
    list_is_good split_tables split_keeps_good _ c.args.mem.now _ _ _ ok.0 ok.1 c.append_path.new.chain ok.2
