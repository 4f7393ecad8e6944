use Rattle.std.proofs.Common.{arith}
use Rattle.guest_memory.proofs.InRegions.{rest_is}
use Rattle.guest_memory.proofs.memory.GuestMemory.region.Goals as goal

pub slice-requires : goal.slice-requires
slice-requires g c = (c.in_ok-room.ensures.room c.in_ok-room.room).0 (omega arith)

pub returns-clause-rest : goal.returns-clause-rest
returns-clause-rest g c =
    rest_is c.args.self.now c.args.addr c.in_ok-room.room c.slice.result.now c.in_ok-room.ensures.room
    c.slice.ensures.len
    c.slice.ensures.value
