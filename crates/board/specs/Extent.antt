-- Extents: which sectors of the backing image each slot has (5.2.4).
use Rattle.std.specs.Prelude.{◌≡◌, ℕ, ◌+◌, ◌/◌, ◌&&◌, Bool, false, IsTrue, nat_le, nat_lt, if◌then◌else◌, List, [], ◌∷◌, All, AllPairs}
use Rattle.std.specs.List.{list_any}
use Rattle.block_device.specs.declared.extent.Extent.{Extent}
use Rattle.block_device.specs.Extent.{IsWithin, sector_len}

-- whether the sector is one of the extent's
abbrev pub has_sector : Extent → ℕ → Bool
has_sector extent sector = nat_le extent.start sector && nat_lt sector (extent.start + extent.count)

-- no sector is in both
abbrev pub IsApart : Extent → Extent → Type 0
IsApart one other = (sector : ℕ) → (has_sector one sector && has_sector other sector) ≡ false

-- they have a sector in common
pub record Overlaps (one other : Extent) : Type 0 where
  pub sector : ℕ
  pub in_one : IsTrue (has_sector one sector)
  pub in_other : IsTrue (has_sector other sector)

-- these extents of one image can stand side by side: each lies in it, and no two share a sector
pub record AreSound (sectors : ℕ) (extents : List Extent) : Type 0 where
  pub within : All (IsWithin sectors) extents
  pub apart : AllPairs IsApart extents

-- the image's bytes from place i on, with a zero for each byte of one of the extents
abbrev pub outside_from : List Extent → ℕ → List ℕ → List ℕ
outside_from extents i [] = []
outside_from extents i (byte ∷ bytes) =
    (if list_any (λ extent. has_sector extent (i / sector_len)) extents then 0 else byte)
    ∷ outside_from extents (i + 1) bytes

-- the image's bytes outside all of the extents, each in its place, and a zero for each byte inside
abbrev pub outside_of : List Extent → List ℕ → List ℕ
outside_of extents bytes = outside_from extents 0 bytes
