-- Sectors and extents of a list of bytes: how long they are, and what each is after one sector was put in
-- place of another. Callers of an image cite these of the bytes that it tells. Throughout, a sector lies
-- inside of the bytes where 512 * (sector + 1) is at most their length.
use Rattle.std.proofs.Common.{◌≡◌, ℕ, ◌+◌, ◌-◌, ◌*◌, ◌<◌, ◌≤◌, ◌⊎◌, ◌≢◌, inl, inr, List, ◌++◌, length, take, drop, get_or, ◌∙◌, ap, arith}
use Rattle.std.proofs.Math.Seq.{take-add}
use Rattle.std.proofs.lemmas.Bool.{cases_lt}
use Rattle.std.proofs.lemmas.List.{length-take-le, length-take, length-drop, length-append, get_or-take, get_or-drop, drop-drop, drop-take, take-take, take_at, drop_at}
use borrow.Rule.Slice.PartMut.{put_mid}
use Rattle.sector_cache.specs.Sector.{extent_of, sector_of, with_sector, with_sectors}
use Rattle.sector_cache.proofs.Stops.{differs_sector, extent_apart}

-- a write to the 512 bytes from 512 * sector on is a write of the sector
pub put_mid-sector : (bytes new : List ℕ) (sector at n : ℕ) → at ≡ sector * 512 → n ≡ 512
    → put_mid at n bytes new ≡ with_sector bytes sector new
put_mid-sector bytes new sector at n e f =
    ap (λ rest. take at bytes ++ (new ++ rest)) (drop-drop n at bytes)
    ∙ ap (λ m. take m bytes ++ (new ++ drop (at + n) bytes)) (omega (arith, e))
    ∙ ap (λ m. take (512 * sector) bytes ++ (new ++ drop m bytes)) (omega (arith, e, f))

-- a write to the bytes from 512 * first on is a write of the sectors there
pub put_mid-sectors : (bytes chunk from : List ℕ) (first at n : ℕ) → chunk ≡ from
    → at ≡ first * 512 → n ≡ length from
    → put_mid at n bytes chunk ≡ with_sectors bytes first from
put_mid-sectors bytes chunk from first at n is e f =
    ap (λ new. put_mid at n bytes new) is
    ∙ ap (λ rest. take at bytes ++ (from ++ rest)) (drop-drop n at bytes)
    ∙ ap (λ m. take m bytes ++ (from ++ drop (at + n) bytes)) (omega (arith, e))
    ∙ ap (λ m. take (512 * first) bytes ++ (from ++ drop m bytes)) (omega (arith, e, f))

-- Lengths.

pub length-extent_of : (bytes : List ℕ) (start count : ℕ) → 512 * (start + count) ≤ length bytes
    → length (extent_of bytes start count) ≡ 512 * count
length-extent_of bytes start count inside =
    length-take-le (512 * count) (drop (512 * start) bytes) (omega (arith, length-drop (512 * start) bytes))

pub length-with_sector : (bytes : List ℕ) (sector : ℕ) (new : List ℕ) → 512 * (sector + 1) ≤ length bytes
    → length new ≡ 512 → length (with_sector bytes sector new) ≡ length bytes
length-with_sector bytes sector new inside whole =
    omega (
      arith,
      length-append (take (512 * sector) bytes) (new ++ drop (512 * (sector + 1)) bytes),
      length-append new (drop (512 * (sector + 1)) bytes),
      length-take-le (512 * sector) bytes (omega arith),
      length-drop (512 * (sector + 1)) bytes,
    )

-- Byte by byte.

-- byte i of an extent
pub get_or-extent_of : (bytes : List ℕ) (start count i d : ℕ) → i < 512 * count
    → get_or (extent_of bytes start count) i d ≡ get_or bytes (512 * start + i) d
get_or-extent_of bytes start count i d within =
    get_or-take (512 * count) (drop (512 * start) bytes) i d within ∙ get_or-drop (512 * start) bytes i d

-- Sectors after a write of one.

-- the sector written reads as what was written
pub sector_of-with_sector : (bytes : List ℕ) (sector : ℕ) (new : List ℕ) → 512 * sector ≤ length bytes
    → length new ≡ 512 → sector_of (with_sector bytes sector new) sector ≡ new
sector_of-with_sector bytes sector new inside whole =
    ap (take 512) (drop_at (take (512 * sector) bytes) (new ++ drop (512 * (sector + 1)) bytes) (512 * sector)
    (length-take-le (512 * sector) bytes inside))
    ∙ take_at new (drop (512 * (sector + 1)) bytes) 512 whole

-- an extent that the sector isn't in is as it was
pub extent_of-with_sector_apart : (bytes : List ℕ) (sector : ℕ) (new : List ℕ) (start count : ℕ)
    → 512 * (sector + 1) ≤ length bytes → length new ≡ 512 → (sector < start) ⊎ (start + count ≤ sector)
    → extent_of (with_sector bytes sector new) start count ≡ extent_of bytes start count
extent_of-with_sector_apart bytes sector new start count inside whole apart =
    extent_apart (512 * sector) (512 * (sector + 1)) start count bytes (with_sector bytes sector new)
    (differs_sector bytes sector new inside whole)
    (elim apart [ inl before ↦ inr (omega (arith, before)) | inr after ↦ inl (omega (arith, after)) ])

-- another sector is as it was
pub sector_of-with_sector_other : (bytes : List ℕ) (sector : ℕ) (new : List ℕ) (other : ℕ)
    → 512 * (sector + 1) ≤ length bytes → length new ≡ 512 → other ≢ sector
    → sector_of (with_sector bytes sector new) other ≡ sector_of bytes other
sector_of-with_sector_other bytes sector new other inside whole differs =
    extent_of-with_sector_apart bytes sector new other 1 inside whole
    (elim (cases_lt sector other) [ inl below ↦ inl below | inr above ↦ inr (omega arith) ])

-- Extents of extents.

-- an extent within an extent is one of the bytes
pub extent_of-extent_of : (bytes : List ℕ) (start count from some : ℕ) → from + some ≤ count
    → extent_of (extent_of bytes start count) from some ≡ extent_of bytes (start + from) some
extent_of-extent_of bytes start count from some within =
    ap (λ n. take (512 * some) (drop (512 * from) (take n (drop (512 * start) bytes)))) (let e : 512 * count
    ≡ 512 * from + 512 * (count - from) = omega arith in e)
    ∙ ap (take (512 * some)) (drop-take (512 * from) (512 * (count - from)) (drop (512 * start) bytes))
    ∙ take-take (512 * some) (512 * (count - from))
    (drop (512 * from) (drop (512 * start) bytes)) (omega arith)
    ∙ ap (take (512 * some)) (drop-drop (512 * from) (512 * start) bytes)
    ∙ ap (λ n. take (512 * some) (drop n bytes)) (let e : 512 * start + 512 * from
    ≡ 512 * (start + from) = omega arith in e)

-- one sector more
pub extent_of-more : (bytes : List ℕ) (start count : ℕ)
    → extent_of bytes start (count + 1) ≡ extent_of bytes start count ++ sector_of bytes (start + count)
extent_of-more bytes start count =
    ap (λ n. take n (drop (512 * start) bytes)) (let e : 512 * (count + 1)
    ≡ 512 * count + 512 = omega arith in e)
    ∙ take-add (512 * count) 512 (drop (512 * start) bytes)
    ∙ ap (λ rest. extent_of bytes start count ++ take 512 rest) (drop-drop (512 * count) (512 * start) bytes)
    ∙ ap (λ n. extent_of bytes start count ++ take 512 (drop n bytes)) (let e : 512 * start + 512 * count
    ≡ 512 * (start + count) = omega arith in e)
