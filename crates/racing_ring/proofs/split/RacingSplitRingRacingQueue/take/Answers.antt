use Rattle.std.proofs.Common.{rules}
use Rattle.racing_ring.proofs.Taking.{lies_taken, taken, taken_faulty, walked_good}
use Rattle.racing_ring.proofs.split.RacingSplitRingRacingQueue.take.Goals as goal

pub returns-in-Ok-clause-offered : goal.returns-in-Ok-clause-offered
returns-in-Ok-clause-offered g c =
    taken g.M.Shared.races (g.M.Shared.sightings c.args.mem.now) (g.M.Shared.sightings c.head-head.new.mem)
    (g.M.Shared.sightings c.append_path.new.mem) c.args.self.now c.head-head.result c.head-head.ensures.loads
    c.append_path.ensures.loads c.head-head.ensures.value c.append_path.new.chain
    (rw (c.size.ensures.value, c.self.view_is) at c.in-Ok.ensures.ok)

pub returns-in-Ok-clause-good : goal.returns-in-Ok-clause-good
returns-in-Ok-clause-good g c =
    walked_good (g.M.Shared.sightings c.head-head.new.mem).now (g.M.Shared.sightings c.append_path.new.mem) _ _ _ _
    c.append_path.new.chain c.in-Ok.ensures.ok

pub returns-in-Err-clause-faulty : goal.returns-in-Err-clause-faulty
returns-in-Err-clause-faulty g c =
    let faulty =
    taken_faulty g.M.Shared.races (g.M.Shared.sightings c.args.mem.now)
    (g.M.Shared.sightings c.head-head.new.mem) (g.M.Shared.sightings c.append_path.new.mem) c.args.self.now
    c.head-head.result c.head-head.ensures.loads c.append_path.ensures.loads
    c.head-head.ensures.value c.in-Err.fault (rw (c.size.ensures.value, c.self.view_is) at c.in-Err.ensures.fault) in
    search (rules, faulty)

pub returns-in-Ok-clause-lies : goal.returns-in-Ok-clause-lies
returns-in-Ok-clause-lies g c =
    lies_taken g.M.Shared.races (g.M.Shared.sightings c.args.mem.now)
    (g.M.Shared.sightings c.head-head.new.mem) (g.M.Shared.sightings c.append_path.new.mem) c.args.self.now
    c.head-head.result c.head-head.ensures.loads c.append_path.ensures.loads
    c.head-head.ensures.value c.requires
