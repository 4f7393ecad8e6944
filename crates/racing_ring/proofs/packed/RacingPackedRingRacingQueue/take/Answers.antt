use Rattle.std.proofs.Common.{◌+◌, rules}
use Rattle.packed_ring.specs.Kind.{entry_of}
use Rattle.racing_ring.proofs.Lying.{packed_lies_loads}
use Rattle.racing_ring.proofs.PackedTaking.{listed_good, told_none}
use Rattle.racing_ring.proofs.packed.RacingPackedRingRacingQueue.take.Goals as goal

pub returns-then-self-eq0-clause-told : goal.returns-then-self-eq0-clause-told
returns-then-self-eq0-clause-told g c =
    told_none (g.M.Shared.sightings c.args.mem.now) c.args.self.now (rw c.self.view_is at c.if-self-eq0.true)

pub returns-in-Ok-Some-clause-good : goal.returns-in-Ok-Some-clause-good
returns-in-Ok-Some-clause-good g c =
    let end = c.in-Ok-Some.end in
    listed_good (g.M.Shared.sightings c.args.mem.now) (g.M.Shared.sightings c.append_list.new.mem) _ _ _ _ _
    c.append_list.new.chain (entry_of end.id (end.count + 1)) (rw c.in-Ok-Some.field-0-is at c.in-Ok-Some.ensures.listed)

pub returns-in-Err-clause-lies : goal.returns-in-Err-clause-lies
returns-in-Err-clause-lies g c =
    let lies = packed_lies_loads g.M.Shared.races (g.M.Shared.sightings c.args.mem.now)
    (g.M.Shared.sightings c.append_list.new.mem) c.args.self.now.setup c.append_list.ensures.loads c.requires in
    search (rules, lies)
