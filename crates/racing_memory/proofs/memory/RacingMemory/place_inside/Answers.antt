use Rattle.racing_memory.proofs.Places.{only_place, place_found}
use Rattle.racing_memory.proofs.memory.RacingMemory.place_inside.Goals as goal

pub returns-then-self-eq1-clause-above : goal.returns-then-self-eq1-clause-above
returns-then-self-eq1-clause-above c =
    (only_place c.self.inside.regions.now c.self.inside.past.noted.stood c.self.inside.past.noted.past c.args.addr c.args.n c.args.self.now c.self.invariant.0
    c.self.view_is c.requires c.if-self-eq1.true).above

pub returns-then-self-eq1-clause-below : goal.returns-then-self-eq1-clause-below
returns-then-self-eq1-clause-below c =
    (only_place c.self.inside.regions.now c.self.inside.past.noted.stood c.self.inside.past.noted.past c.args.addr c.args.n c.args.self.now c.self.invariant.0
    c.self.view_is c.requires c.if-self-eq1.true).below

pub returns : goal.returns
returns c =
    let at = place_found c.self.inside.regions.now c.self.inside.past.noted.stood c.self.inside.past.noted.past c.args.addr c.args.n c.unwrap_or.result
    c.place_of.result c.args.self.now c.self.invariant.0 c.self.view_is c.requires c.place_of.ensures c.unwrap_or.ensures in
    record { place = at.within; above = at.above; below = at.below }
