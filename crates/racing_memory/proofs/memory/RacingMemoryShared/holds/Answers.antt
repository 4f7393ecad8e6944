use Rattle.std.proofs.Common.{◌≡◌, ◌∙◌, ◌+◌, true, ap, subst, sym}
use Rattle.guest_memory.specs.declared.spec.RegionSpec.{RegionSpec}
use Rattle.racing_memory.specs.Words.{reaches}
use Rattle.racing_memory.proofs.Places.{none_tells, region_touched, room_tells}
use Rattle.racing_memory.proofs.memory.RacingMemoryShared.holds.Goals as goal

pub room_behind-requires : goal.room_behind-requires
room_behind-requires c =
    subst (λ (r : RegionSpec). reaches c.args.addr r ≡ true) c.index-self-place.is
    (region_touched c.self.inside.regions.now c.args.addr c.in-Some.place c.place_of.result
    c.index-self-place.result c.place_of.ensures c.in-Some.is c.index-self-place.is)

pub returns-in-Some-clause-inside : goal.returns-in-Some-clause-inside
returns-in-Some-clause-inside c =
    room_tells c.self.inside.regions.now c.self.inside.past.noted.stood c.self.inside.past.noted.past c.args.addr c.args.n c.in-Some.place
    c.room_behind.result c.place_of.result c.index-self-place.result c.args.self.now c.self.invariant.0 c.self.view_is
    c.place_of.ensures c.in-Some.is c.index-self-place.is
    (c.room_behind.ensures.value ∙ ap (λ (r : RegionSpec). r.base + r.len) (sym c.index-self-place.is))

pub returns-in-None-clause-inside : goal.returns-in-None-clause-inside
returns-in-None-clause-inside c =
    none_tells c.self.inside.regions.now c.self.inside.past.noted.stood c.self.inside.past.noted.past c.args.addr c.args.n c.place_of.result
    c.args.self.now c.self.invariant.0 c.self.view_is c.place_of.ensures c.in-None.is
