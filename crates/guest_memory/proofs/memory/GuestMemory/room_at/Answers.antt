use Rattle.std.proofs.Common.{◌≡◌, ◌≤◌, ℕ, Bool, List, Option, Some, None}
use Rattle.guest_memory.specs.Regions.{memory_of}
use Rattle.std.specs.Prelude.{◌↔◌, IfSome}
use Rattle.guest_memory.specs.Memory.{Inside, Memory, with_pages}
use Rattle.guest_memory.proofs.Stocked.{tells_with, viewed}
use Rattle.guest_memory.proofs.memory.GuestMemory.room_at.Goals as goal

room_with : (m : Memory) (a : ℕ) {with_bits : Memory} {bits : List Bool} (o : Option ℕ) → with_pages bits m ≡ with_bits
    → IfSome o (λ room. (n : ℕ) → (n ≤ room) ↔ Inside m a n)
    → IfSome o (λ room. (n : ℕ) → (n ≤ room) ↔ Inside with_bits a n)
room_with m a None is h = tt
room_with m a (Some room) is h = λ n. tells_with is (h n)

pub returns-clause-room : goal.returns-clause-room
returns-clause-room g c =
    room_with (memory_of c.deref.result.now) c.args.addr c.room_at.result (viewed c.self.view_is c.deref.ensures.value)
    c.room_at.ensures.room
