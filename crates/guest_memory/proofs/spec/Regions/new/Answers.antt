use Rattle.std.proofs.Common.{length, ◌≤◌}
use Rattle.guest_memory.proofs.Placing.{put_in_places}
use Rattle.guest_memory.proofs.spec.Regions.new.Goals as goal

pub invariant_of-result : goal.invariant_of-result
invariant_of-result c =
    let few : length c.args.regions.now ≤ 8 = c.if-regions-gt-MOST_REGIONS.false in
    rw c.copy_from_slice.ensures.after (put_in_places c.args.regions.now few)
