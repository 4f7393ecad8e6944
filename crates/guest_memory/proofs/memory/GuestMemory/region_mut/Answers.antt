use Rattle.std.proofs.Common.{◌↔◌, ◌≤◌, ℕ, Option, Some, None, refl, subst, sym, arith}
use Rattle.std.specs.Prelude.{IsSome, IfSome}
use Rattle.std.specs.Option.{unwrap_or}
use Rattle.guest_memory.specs.Memory.{Memory, Inside}
use Rattle.guest_memory.proofs.InRegions.{rest_is}
use Rattle.guest_memory.proofs.memory.GuestMemory.region_mut.Goals as goal

-- there is room where a region holds the address
some_room : (m : Memory) (a : ℕ) (o : Option ℕ) → (IsSome o ↔ Inside m a 1)
    → IfSome o (λ room. (n : ℕ) → (n ≤ room) ↔ Inside m a n)
    → Inside m a 1 → (n : ℕ) → (n ≤ unwrap_or o 1) ↔ Inside m a n
some_room m a None there room inside = absurd (cc (there.1 inside))
some_room m a (Some k) there room inside = room

pub lend-requires : goal.lend-requires
lend-requires g c =
    let room = some_room c.args.self.now c.args.addr c.room_at.result c.room_at.ensures.there
    c.room_at.ensures.room c.requires in
    subst (Inside c.args.self.now c.args.addr) (sym c.unwrap_or-room.ensures)
    ((room (unwrap_or c.room_at.result 1)).0 (omega arith))

pub returns : goal.returns
returns g c =
    let room = some_room c.args.self.now c.args.addr c.room_at.result c.room_at.ensures.there
    c.room_at.ensures.room c.requires in (
      (refl, λ w. refl),
      record {
        writes_back = tt;
        rest =
            rest_is c.args.self.now c.args.addr c.unwrap_or-room.result c.lend.result.now
            (subst (λ (k : ℕ). (n : ℕ) → (n ≤ k) ↔ Inside c.args.self.now c.args.addr n)
            (sym c.unwrap_or-room.ensures) room)
            c.lend.ensures.len c.lend.ensures.value;
      },
    )
