-- What a memory is once a part of it that was lent has been written.
use Rattle.std.specs.Prelude.{ℕ, ◌-◌, List, length}
use Rattle.std.specs.Borrow.{Lends, MutBor, Fml, Array, u8}
use Rattle.std.specs.declared.alloc.Allocator.{Ghosts}
use denote.RattleType.{RattleType}
use Rattle.guest_memory.specs.Memory.{Memory, put_at, stored, with_marks}
use Rattle.guest_memory.specs.Regions.{Region}
use Rattle.guest_memory.specs.Bytes.{with_bytes}
use Rattle.guest_memory.specs.contracts.memory.GuestMemory.{the_row}
use Rattle.guest_memory.specs.contracts.region.Region as region
use Rattle.guest_memory.specs.contracts.bytes.Bytes as bytes

-- m, whose allocator is of type A, ends with the bytes last behind r from address a on, and their pages are marked
abbrev pub LendsPart : (A : RattleType) → Ghosts A.Denot → MutBor Memory → ℕ → MutBor (List ℕ) → Fml
LendsPart A heap m a r =
    Lends (the_row A heap) (Array u8 0) m r (stored (with_marks m.now a (length r.now)) a)

-- the same where no page is marked, since it is the host that writes
abbrev pub LendsToHost : (A : RattleType) → Ghosts A.Denot → MutBor Memory → ℕ → MutBor (List ℕ) → Fml
LendsToHost A heap m a r = Lends (the_row A heap) (Array u8 0) m r (stored m.now a)

-- the same of one region
abbrev pub LendsRegion : (A : RattleType) → Ghosts A.Denot → MutBor Region → ℕ → MutBor (List ℕ) → Fml
LendsRegion A heap m a r =
    Lends (region.the_row A heap) (Array u8 0) m r
    (λ bs. record m.now { bytes = put_at m.now.bytes (a - m.now.base) bs })

-- the same of its bytes, from place i on
abbrev pub LendsBytes : (A : RattleType) → (heap : Ghosts A.Denot) → MutBor (bytes.the_row A heap).Denot → ℕ
    → MutBor (List ℕ) → Fml
LendsBytes A heap b i r = Lends (bytes.the_row A heap) (Array u8 0) b r (with_bytes b.now i)
