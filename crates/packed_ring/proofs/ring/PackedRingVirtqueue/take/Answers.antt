use Rattle.indirect.specs.Lists.{packed_tables}
use Rattle.indirect.proofs.Listing.{list_is_good, packed_keeps_good}
use Rattle.packed_ring.proofs.ring.PackedRingVirtqueue.take.Goals as goal

pub returns-in-Ok-clause-good : goal.returns-in-Ok-clause-good
returns-in-Ok-clause-good g c =
    let end = c.in-Ok.end in
    list_is_good packed_tables packed_keeps_good _ c.args.mem.now _ _ _ end.count end.last
    c.append_list.new.chain c.in-Ok.ensures.ok
