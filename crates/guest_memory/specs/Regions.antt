-- A memory as its regions: runs of bytes in ascending order, with a gap between each two.
use Rattle.std.specs.Prelude.{ℕ, ◌+◌, ◌-◌, ◌<◌, ◌≤◌, ◌^◌, nat_le, Bool, ◌&&◌, List, [], ◌∷◌, ◌++◌, length, replicate}
use Rattle.guest_memory.specs.Memory.{Memory}

-- the first address, and the byte at each address from there on
pub record Region : Type 0 where
  pub base : ℕ
  pub bytes : List ℕ

-- the address behind the last byte
abbrev pub end_of : Region → ℕ
end_of r = r.base + length r.bytes

-- the region r, a gap, and then the memory m
unfoldable pub in_front : Region → Memory → Memory
in_front r m = record {
  base = r.base;
  bytes = r.bytes ++ (replicate (m.base - end_of r) 0 ++ m.bytes);
  gaps = record { start = end_of r; end = m.base } ∷ m.gaps;
  pages = m.pages;
}

-- the memory of these regions, whose pages nobody has marked
unfoldable pub memory_of : List Region → Memory
memory_of [] = record { base = 0; bytes = []; gaps = []; pages = [] }
memory_of (r ∷ []) = record { base = r.base; bytes = r.bytes; gaps = []; pages = [] }
memory_of (r ∷ (s ∷ rs)) = in_front r (memory_of (s ∷ rs))

-- there is a region, each begins above the end of the one before it, and the last ends by 2^64
unfoldable pub AreApart : List Region → Type 0
AreApart [] = ⊥
AreApart (r ∷ []) = end_of r ≤ 2 ^ 64
AreApart (r ∷ (s ∷ rs)) = (end_of r < s.base) × AreApart (s ∷ rs)

-- the regions of a memory: apart, and the number of addresses from the first byte to the last is one of 64
-- bits
pub record AreRegions (rs : List Region) : Type 0 where
  pub apart : AreApart rs
  pub spans : length (memory_of rs).bytes < 2 ^ 64

-- whether a lies in the region, or is its end
abbrev pub touches : ℕ → Region → Bool
touches a r = nat_le r.base a && nat_le a (end_of r)

-- the n bytes from address a on lie in the region
pub record IsIn (r : Region) (a n : ℕ) : Type 0 where
  pub above : r.base ≤ a
  pub below : a + n ≤ end_of r
