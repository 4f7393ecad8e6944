-- What is left of loans that are taken one by one.
use Rattle.std.specs.Prelude.{◌≡◌, ℕ, ◌*◌, ◌≤◌, List, All, drop, length, take}
use Rattle.guest_memory.specs.Memory.{Memory}
use Rattle.guest_memory.specs.Pages.{page_size}

-- the first of the loans are taken, which may be none or all: they are empty, and the others as they were
pub record TakesFirst {X : Type 0} (IsEmpty : X → Type 0) (old new : List X) : Type 0 where
  pub taken : ℕ
  pub empty : All IsEmpty (take taken new)
  pub others : drop taken new ≡ drop taken old
  pub same : length new ≡ length old

-- these bytes have a bit for each page of a memory, from its first byte to its last, those in gaps included
abbrev pub HasBits : Memory → List ℕ → Type 0
HasBits memory bytes = length memory.bytes ≤ page_size * (8 * length bytes)
