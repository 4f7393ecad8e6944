-- What is read of a descriptor table while one chain is taken: each descriptor once.
use Rattle.std.specs.Prelude.{◌≡◌, ℕ, ◌+◌, ◌*◌, ◌<◌, ◌≤◌, ◌⊎◌, get_or, List, Option, Some, None}
use Rattle.guest_memory.specs.Memory.{num}
use Rattle.indirect.specs.declared.descriptor.Descriptor.{Descriptor}
use Rattle.indirect.specs.Descriptors.{split_descriptor}
use Rattle.shared_memory.specs.Sightings.{Sightings}
use Rattle.racing_ring.specs.Source.{Source, IsSeenInTurn}

-- the descriptors that were read, each at its index
abbrev pub Known : Type 0
Known = List (Option Descriptor)

-- the one at an index, if it was read
abbrev pub known_at : Known → ℕ → Option Descriptor
known_at known i = get_or known i None

-- none was read below the first of two indices, nor from the second on
abbrev pub AreUnreadBeside : Known → ℕ → ℕ → Type 0
AreUnreadBeside known from to = (i : ℕ) → (i < from) ⊎ (to ≤ i) → known_at known i ≡ None

-- the split descriptor at an address, as it was read of its source: all but the address is of one memory (2.7.5)
abbrev pub read_split : Source → ℕ → Descriptor
read_split source addr =
    let d = split_descriptor source.flags_in addr in
    record d { buffer = record d.buffer { segment = record d.buffer.segment { addr = num source.addr_in addr 8 } } }

-- d is what stood at an address, each of its two words at some access from a place on
pub record IsDescriptorSeen (begin : ℕ) (new : Sightings) (addr : ℕ) (d : Descriptor) : Type 0 where
  pub source : Source
  pub seen : IsSeenInTurn begin new source
  pub is : d ≡ read_split source addr

-- The descriptor d of index i was looked up in the table at an address: it is what was known of it, or else what was
-- read of it just now, and it is known from then on.
pub record IsLookedUp (begin : ℕ) (after : Sightings) (addr : ℕ) (old new : Known) (i : ℕ) (d : Descriptor) : Type 0 where
  pub found : known_at new i ≡ Some d
  pub kept : (j : ℕ) (e : Descriptor) → known_at old j ≡ Some e → known_at new j ≡ Some e
  pub fresh : (j : ℕ) (e : Descriptor) → known_at old j ≡ None → known_at new j ≡ Some e
      → IsDescriptorSeen begin after (addr + 16 * j) e

-- each descriptor of a table of n at an address is what stood there so
abbrev pub IsTableSeen : ℕ → Sightings → ℕ → ℕ → (ℕ → Descriptor) → Type 0
IsTableSeen begin new addr n table = (i : ℕ) → i < n → IsDescriptorSeen begin new (addr + 16 * i) (table i)

-- two tables are one below n
abbrev pub AreOne : ℕ → (ℕ → Descriptor) → (ℕ → Descriptor) → Type 0
AreOne n t u = (i : ℕ) → i < n → t i ≡ u i
