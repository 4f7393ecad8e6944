use Rattle.std.proofs.Common.{refl, arith}
use Rattle.guest_memory.proofs.InRegions.{none_inside, room_found, touches_found}
use Rattle.guest_memory.proofs.lookup.room_at.Goals as goal

pub room_behind-room-requires : goal.room_behind-room-requires
room_behind-room-requires g c =
    touches_found c.args.regions.now c.args.addr c.in-Some.place c.place_of.result
    c.index-regions-place.result c.place_of.ensures c.in-Some.is
    c.index-regions-place.is

pub returns-in-None-clause-there : goal.returns-in-None-clause-there
returns-in-None-clause-there g c =
    none_inside c.args.regions.now c.args.addr 1 c.place_of.result c.requires c.place_of.ensures c.in-None.is

pub returns-then-room-eq0-clause-there : goal.returns-then-room-eq0-clause-there
returns-then-room-eq0-clause-there g c =
    let room = room_found c.args.regions.now c.args.addr c.in-Some.place c.room_behind-room.result
    c.place_of.result c.index-regions-place.result
    c.requires c.place_of.ensures c.in-Some.is c.index-regions-place.is c.room_behind-room.ensures.value 1 in
    (λ never. cc, λ inside. absurd (omega (arith, c.if-room-eq0.true, room.1 inside)))

pub returns-else-room-eq0-clause-room : goal.returns-else-room-eq0-clause-room
returns-else-room-eq0-clause-room g c =
    room_found c.args.regions.now c.args.addr c.in-Some.place c.room_behind-room.result c.place_of.result
    c.index-regions-place.result c.requires
    c.place_of.ensures c.in-Some.is c.index-regions-place.is c.room_behind-room.ensures.value

pub returns-else-room-eq0-clause-there : goal.returns-else-room-eq0-clause-there
returns-else-room-eq0-clause-there g c =
    let room = returns-else-room-eq0-clause-room g c in
    (λ there. (room 1).0 (omega (arith, c.if-room-eq0.false)), λ inside. refl)
