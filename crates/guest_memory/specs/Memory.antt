-- Guest memory as a driver and a device see it: bytes from a base address on, with gaps between regions, and
-- the little-endian numbers that virtqueues keep in it (2.7, 2.8; numbers are little-endian by 1.4).
use Rattle.std.specs.Prelude.{◌≡◌, ℕ, ◌+◌, ◌-◌, ◌≤◌, ◌⊎◌, nat_le, Bool, true, ◌&&◌, ◌||◌, List, [], ◌∷◌, ◌++◌, length, take, drop, replicate, if◌then◌else◌}
use Rattle.std.specs.List.{All}
use Rattle.byteorder.specs.Endian.{little_number, little_bytes}
use Rattle.guest_memory.specs.Pages.{marked}

-- the addresses between two regions: from start on, and before end, there is no byte
pub record Gap : Type 0 where
  pub start : ℕ
  pub end : ℕ

-- the first address, the byte at each address from there on, and the gaps in order. In a gap a byte stands as
-- 0, and nobody reads it. A memory of one region has no gaps. Where the host has them kept, there is a bit for each
-- page from the base on that says whether it was written
pub record Memory : Type 0 where
  pub base : ℕ
  pub bytes : List ℕ
  pub gaps : List Gap
  pub pages : List Bool

-- the n bytes from address a on end before a gap, or begin behind it
pub record Misses (g : Gap) (a n : ℕ) : Type 0 where
  pub apart : (a + n ≤ g.start) ⊎ (g.end ≤ a)

-- they do so at each gap
unfoldable pub MissesAll : List Gap → ℕ → ℕ → Type 0
MissesAll gaps a n = All (λ g. Misses g a n) gaps

-- the n bytes from address a on all lie in the memory, in one region; for n = 0 the address does, or is a
-- region's end
pub record Inside (m : Memory) (a n : ℕ) : Type 0 where
  pub above : m.base ≤ a
  pub below : a + n ≤ m.base + length m.bytes
  pub clear : MissesAll m.gaps a n

-- the test whether n bytes miss each gap
unfoldable pub misses_all : List Gap → ℕ → ℕ → Bool
misses_all [] a n = true
misses_all (g ∷ gs) a n = (nat_le (a + n) g.start || nat_le g.end a) && misses_all gs a n

-- the test whether they lie in the memory
abbrev pub is_inside : Memory → ℕ → ℕ → Bool
is_inside m a n = nat_le m.base a && nat_le (a + n) (m.base + length m.bytes) && misses_all m.gaps a n

-- the n bytes from address a on
abbrev pub part_of : Memory → ℕ → ℕ → List ℕ
part_of m a n = take n (drop (a - m.base) m.bytes)

-- the bytes bs written from place i on; a list keeps its length, whatever is written
abbrev pub put_at : List ℕ → ℕ → List ℕ → List ℕ
put_at bytes i bs = take (length bytes) (take i bytes ++ bs ++ drop (i + length bs) bytes)

-- the bytes of bs that a write from address a on puts in place: it ends where the next gap begins
unfoldable pub up_to_gap : List Gap → ℕ → List ℕ → List ℕ
up_to_gap [] a bs = bs
up_to_gap (g ∷ gs) a bs = if nat_le g.end a then up_to_gap gs a bs else take (g.start - a) bs

-- the memory with the bytes bs from address a on, whose pages aren't marked
abbrev pub stored : Memory → ℕ → List ℕ → Memory
stored m a bs = record m { bytes = put_at m.bytes (a - m.base) (up_to_gap m.gaps a bs) }

-- the memory with these bits of its pages
abbrev pub with_pages : List Bool → Memory → Memory
with_pages bits m = record m { pages = bits }

-- the pages of the n bytes from address a on are marked
abbrev pub with_marks : Memory → ℕ → ℕ → Memory
with_marks m a n = record m { pages = marked 0 (a - m.base) n m.pages }

-- the memory with the bytes bs from address a on
abbrev pub put : Memory → ℕ → List ℕ → Memory
put m a bs = stored (with_marks m a (length bs)) a bs

-- these are the bytes from address a to the end of its region: no longer range from there on lies in the
-- memory
pub record IsRest (m : Memory) (a : ℕ) (bytes : List ℕ) : Type 0 where
  pub inside : Inside m a (length bytes)
  pub longest : (n : ℕ) → Inside m a n → n ≤ length bytes
  pub are : bytes ≡ part_of m a (length bytes)

-- the little-endian number of the k bytes from address a on
abbrev pub num : Memory → ℕ → ℕ → ℕ
num m a k = little_number k (part_of m a k)

-- the memory with the number v in the k bytes from address a on, little-endian
abbrev pub put_num : Memory → ℕ → ℕ → ℕ → Memory
put_num m a k v = put m a (little_bytes k v)

-- the same addresses, whatever the bytes are
pub record SameRange (old new : Memory) : Type 0 where
  pub base : new.base ≡ old.base
  pub size : length new.bytes ≡ length old.bytes
  pub gaps : new.gaps ≡ old.gaps

-- a memory of len zeros, in one region
abbrev pub zeroed : ℕ → ℕ → Memory
zeroed base len = record { base = base; bytes = replicate len 0; gaps = []; pages = [] }
