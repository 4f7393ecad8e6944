-- A region of words of 8 bytes.
use Rattle.std.specs.Prelude.{◌≡◌, ℕ, ◌+◌, ◌*◌, ◌^◌, ◌<◌, ◌≤◌, ◌⊎◌, Bool, bit_xor}
use Rattle.std.specs.Int.{bit_at}
use Rattle.guest_memory.specs.declared.spec.RegionSpec.{RegionSpec}
use Rattle.guest_memory.specs.Faults.{zeroed_region}
use Rattle.guest_memory.specs.Regions.{touches}

-- that of so many words, from an address on
abbrev pub spec_of_words : ℕ → ℕ → RegionSpec
spec_of_words base words = record { base = base; len = 8 * words }

-- there may be so many there
pub record IsOfWords (base words : ℕ) : Type 0 where
  pub few : 8 * words ≤ 2 ^ 46
  pub fits : base + 8 * words ≤ 2 ^ 64

-- whether an address lies in the region, or is its end
abbrev pub reaches : ℕ → RegionSpec → Bool
reaches addr region = touches addr (zeroed_region region)

-- What `change`, xored with a word as it then is, makes of it. A bit that isn't one of the `len` bytes from byte `from` on stays
-- whatever it is. Where theirs are as they were read, in `word`, they become those of the number v.
pub record IsChange (word from len v change : ℕ) : Type 0 where
  pub others : (now i : ℕ) → (i < 8 * from) ⊎ (8 * (from + len) ≤ i) → bit_at (bit_xor now change) i ≡ bit_at now i
  pub named : (now i : ℕ) → i < 8 * len → bit_at now (8 * from + i) ≡ bit_at word (8 * from + i)
      → bit_at (bit_xor now change) (8 * from + i) ≡ bit_at v i
