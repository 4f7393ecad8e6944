-- Runs of sectors written to a list of bytes, and the extent around them.
use Rattle.std.proofs.Common.{◌≡◌, ℕ, ◌+◌, ◌*◌, ◌≤◌, ◌<◌, Bool, true, Option, Some, None, List, [], ◌∷◌, ◌++◌, length, take, drop, refl, sym, ap, ◌∙◌, arith, length-append, length-take, length-drop}
use Rattle.std.specs.Prelude.{IfSome}
use Rattle.std.specs.Option.{option_map}
use Rattle.std.proofs.Math.Seq.{take-add}
use Rattle.std.proofs.lemmas.List.{places, same_lists, take-append-drop}
use Rattle.sector_cache.specs.Sector.{extent_of, sector_of}
use Rattle.sector_cache.specs.Disk.{Disk, IsWhole, written, written_from}
use Rattle.sector_cache.proofs.Sectors.{extent_of-more, extent_of-extent_of}
use Rattle.block_device.specs.declared.extent.Extent.{Extent}
use Rattle.block_device.specs.Extent.{IsWithin, extent_disk, SameContentsOutside, KeepsOutside}
use Rattle.block_device.specs.Outcome.{with_sectors, dirty_after, filled, AreSectorContents}

pub length-with_sectors : (bytes : List ℕ) (sector : ℕ) (new : List ℕ)
    → 512 * sector + length new ≤ length bytes → length (with_sectors bytes sector new) ≡ length bytes
length-with_sectors bytes sector new inside = simp (length-append, length-take, length-drop) (omega arith)

-- nothing is written
pub with_sectors-nil : (bytes : List ℕ) (sector : ℕ) → with_sectors bytes sector [] ≡ bytes
with_sectors-nil bytes sector =
    ap (λ n. take (512 * sector) bytes ++ drop n bytes) (omega arith) ∙ take-append-drop (512 * sector) bytes

-- some sectors more
pub with_sectors-with_sectors : (bytes : List ℕ) (sector done : ℕ) (front chunk : List ℕ)
    → length front ≡ 512 * done
    → 512 * (sector + done) + length chunk ≤ length bytes
    → with_sectors (with_sectors bytes sector front) (sector + done) chunk
    ≡ with_sectors bytes sector (front ++ chunk)
with_sectors-with_sectors bytes sector done front chunk long inside =
    same_lists _ _ (simp (length-append, length-take, length-drop) (omega arith))
    (λ k d h. grind (arith, places))

-- the extent of what is written within it
pub extent_of-with_sectors : (bytes : List ℕ) (start count sector : ℕ) (new : List ℕ)
    → 512 * (start + count) ≤ length bytes → 512 * sector + length new ≤ 512 * count
    → extent_of (with_sectors bytes (start + sector) new) start count
    ≡ with_sectors (extent_of bytes start count) sector new
extent_of-with_sectors bytes start count sector new inside within =
    same_lists _ _ (simp (length-append, length-take, length-drop) (omega arith))
    (λ k d h. grind (arith, places))

before-with_sectors : (bytes : List ℕ) (start sector : ℕ) (new : List ℕ)
    → 512 * (start + sector) + length new ≤ length bytes
    → take (512 * start) (with_sectors bytes (start + sector) new) ≡ take (512 * start) bytes
before-with_sectors bytes start sector new inside =
    same_lists _ _ (simp (length-append, length-take, length-drop) (omega arith))
    (λ k d h. grind (arith, places))

behind-with_sectors : (bytes : List ℕ) (start count sector : ℕ) (new : List ℕ)
    → 512 * (start + count) ≤ length bytes → 512 * sector + length new ≤ 512 * count
    → drop (512 * (start + count)) (with_sectors bytes (start + sector) new)
    ≡ drop (512 * (start + count)) bytes
behind-with_sectors bytes start count sector new inside within =
    same_lists _ _ (simp (length-append, length-take, length-drop) (omega arith))
    (λ k d h. grind (arith, places))

-- a write of some bytes makes the disk dirty
pub dirty_after-chunk : (front chunk : List ℕ) (dirty : Bool) → 0 < length chunk
    → true ≡ dirty_after (front ++ chunk) dirty
dirty_after-chunk [] [] dirty some = absurd (omega (arith, some))
dirty_after-chunk [] (x ∷ chunk) dirty some = refl
dirty_after-chunk (x ∷ front) chunk dirty some = refl

pub same_disk : (n f : ℕ) (t u : Option (List ℕ)) (m k : Bool) → t ≡ u → m ≡ k
    → ◌≡◌ {A = Disk} (record { contents = t; sector_count = n; failures = f; dirty = m })
    (record { contents = u; sector_count = n; failures = f; dirty = k })
same_disk n f t u m k p q = rw (p, q) refl

-- before the first sector
pub filled-nil : (sector : ℕ) (disk : Disk) → disk ≡ filled sector [] disk
filled-nil sector disk = same_disk disk.sector_count disk.failures disk.contents
    (option_map (λ bytes. with_sectors bytes sector []) disk.contents) disk.dirty disk.dirty
    (same_contents disk.contents) refl
  where
    same_contents : (contents : Option (List ℕ))
        → contents ≡ option_map (λ bytes. with_sectors bytes sector []) contents
    same_contents None = refl
    same_contents (Some bytes) = ap Some (sym (with_sectors-nil bytes sector))

-- some sectors more are written in place
pub written_from-filled : (disk : Disk) (sector done n : ℕ) (front chunk : List ℕ) → IsWhole disk
    → length front ≡ 512 * done
    → length chunk ≡ 512 * n → 0 < n → sector + done + n ≤ disk.sector_count
    → written_from (sector + done) chunk (filled sector front disk) ≡ filled sector (front ++ chunk) disk
written_from-filled disk sector done n front chunk is_whole long size some inside =
    same_disk disk.sector_count disk.failures _ _ true (dirty_after (front ++ chunk) disk.dirty)
    (same_contents disk.contents is_whole)
    (dirty_after-chunk front chunk disk.dirty (omega (arith, size, some)))
  where
    same_contents : (contents : Option (List ℕ))
        → IfSome contents (λ bytes. length bytes ≡ 512 * disk.sector_count)
        → option_map (λ bytes. with_sectors bytes (sector + done) chunk)
        (option_map (λ bytes. with_sectors bytes sector front) contents)
        ≡ option_map (λ bytes. with_sectors bytes sector (front ++ chunk)) contents
    same_contents None h = refl
    same_contents (Some bytes) h =
        ap Some (with_sectors-with_sectors bytes sector done front chunk long
        (omega (arith, h, size, inside)))

-- a sector that is written is a run of one
pub written-run : (sector : ℕ) (new : List ℕ) (disk : Disk) → length new ≡ 512
    → written sector new disk ≡ written_from sector new disk
written-run sector new disk whole =
    let behind : 512 * (sector + 1) ≡ 512 * sector + length new = omega (arith, whole) in
    ap (λ n. record disk {
      contents = option_map (λ bytes. take (512 * sector) bytes ++ (new ++ drop n bytes)) disk.contents;
      dirty = true;
    }) behind

-- and so one sector more is
pub written-filled : (disk : Disk) (sector done : ℕ) (front chunk : List ℕ) → IsWhole disk
    → length front ≡ 512 * done → length chunk ≡ 512 → sector + done < disk.sector_count
    → written (sector + done) chunk (filled sector front disk) ≡ filled sector (front ++ chunk) disk
written-filled disk sector done front chunk is_whole long whole inside =
    written-run (sector + done) chunk (filled sector front disk) whole
    ∙ written_from-filled disk sector done 1 front chunk is_whole long whole (omega arith)
    (omega (arith, inside))

-- the extent of a disk that was written within it
pub extent_disk-filled : (extent : Extent) (disk : Disk) (sector : ℕ) (new : List ℕ) → IsWhole disk
    → IsWithin disk.sector_count extent → 512 * sector + length new ≤ 512 * extent.count
    → extent_disk extent (filled (extent.start + sector) new disk)
    ≡ filled sector new (extent_disk extent disk)
extent_disk-filled extent disk sector new is_whole lies within =
    same_disk extent.count disk.failures _ _ (dirty_after new disk.dirty) (dirty_after new disk.dirty)
    (same_contents disk.contents is_whole) refl
  where
    same_contents : (contents : Option (List ℕ))
        → IfSome contents (λ bytes. length bytes ≡ 512 * disk.sector_count)
        → option_map (λ bytes. extent_of bytes extent.start extent.count)
        (option_map (λ bytes. with_sectors bytes (extent.start + sector) new) contents)
        ≡ option_map (λ bytes. with_sectors bytes sector new)
        (option_map (λ bytes. extent_of bytes extent.start extent.count) contents)
    same_contents None h = refl
    same_contents (Some bytes) h =
        ap Some (extent_of-with_sectors bytes extent.start extent.count sector new (omega arith) within)

-- nothing outside of it changes
pub KeepsOutside-filled : (extent : Extent) (disk new : Disk) (sector : ℕ) (bytes : List ℕ) → IsWhole disk
    → IsWithin disk.sector_count extent → 512 * sector + length bytes ≤ 512 * extent.count
    → new.contents ≡ (filled (extent.start + sector) bytes disk).contents
    → new.sector_count ≡ disk.sector_count → KeepsOutside extent disk new
KeepsOutside-filled extent disk new sector bytes is_whole lies within contents sectors =
    record { sectors = sectors; contents = rw contents (same_contents disk.contents is_whole) }
  where
    same_contents : (contents : Option (List ℕ))
        → IfSome contents (λ bytes. length bytes ≡ 512 * disk.sector_count)
        → SameContentsOutside extent contents
        (option_map (λ old. with_sectors old (extent.start + sector) bytes) contents)
    same_contents None h = tt
    same_contents (Some old) h = record {
      before = before-with_sectors old extent.start sector bytes (omega arith);
      behind = behind-with_sectors old extent.start extent.count sector bytes (omega arith) within;
      size = length-with_sectors old (extent.start + sector) bytes (omega arith);
    }

-- a call that leaves the contents changes none outside
pub KeepsOutside-same : (extent : Extent) (disk new : Disk) → new.contents ≡ disk.contents
    → new.sector_count ≡ disk.sector_count → KeepsOutside extent disk new
KeepsOutside-same extent disk new contents sectors =
    record { sectors = sectors; contents = rw contents (same_contents disk.contents) }
  where
    same_contents : (contents : Option (List ℕ)) → SameContentsOutside extent contents contents
    same_contents None = tt
    same_contents (Some old) = record { before = refl; behind = refl; size = refl }

-- Reading: no sector, and one more.
pub AreSectorContents-none : (disk : Disk) (sector : ℕ) → AreSectorContents disk sector 0 []
AreSectorContents-none disk sector = record { size = refl; contents = nothing disk.contents }
  where
    nothing : (contents : Option (List ℕ)) → IfSome contents (λ bytes. [] ≡ extent_of bytes sector 0)
    nothing None = tt
    nothing (Some bytes) = refl

pub AreSectorContents-more : (disk : Disk) (sector done : ℕ) (found chunk : List ℕ)
    → AreSectorContents disk sector done found → length chunk ≡ 512
    → IfSome disk.contents (λ bytes. chunk ≡ sector_of bytes (sector + done))
    → AreSectorContents disk sector (done + 1) (found ++ chunk)
AreSectorContents-more disk sector done found chunk h whole contents =
    record {
      size = omega (arith, length-append found chunk, h.size);
      contents = more disk.contents h.contents contents;
    }
  where
    more : (contents : Option (List ℕ)) → IfSome contents (λ bytes. found ≡ extent_of bytes sector done)
        → IfSome contents (λ bytes. chunk ≡ sector_of bytes (sector + done))
        → IfSome contents (λ bytes. found ++ chunk ≡ extent_of bytes sector (done + 1))
    more None p q = tt
    more (Some bytes) p q = rw (p, q) (sym (extent_of-more bytes sector done))

-- what was read of the disk within the extent is what the extent tells
pub AreSectorContents-extent : (extent : Extent) (disk : Disk) (sector count : ℕ) (found : List ℕ)
    → sector + count ≤ extent.count → AreSectorContents disk (extent.start + sector) count found
    → AreSectorContents (extent_disk extent disk) sector count found
AreSectorContents-extent extent disk sector count found within h =
    record { size = h.size; contents = same_contents disk.contents h.contents }
  where
    same_contents : (contents : Option (List ℕ))
        → IfSome contents (λ bytes. found ≡ extent_of bytes (extent.start + sector) count)
        → IfSome (option_map (λ bytes. extent_of bytes extent.start extent.count) contents) (λ bytes. found
        ≡ extent_of bytes sector count)
    same_contents None h = tt
    same_contents (Some bytes) h = h
        ∙ sym (extent_of-extent_of bytes extent.start extent.count sector count within)

-- the sectors' bytes in front, and some sectors more
pub take-sectors : (payload : List ℕ) (done n : ℕ)
    → take (512 * done) payload ++ take (512 * n) (drop (512 * done) payload)
    ≡ take (512 * (done + n)) payload
take-sectors payload done n = sym (take-add (512 * done) (512 * n) payload)
    ∙ ap (λ k. take k payload) (omega arith)

contents_trans : (extent : Extent) (a b c : Option (List ℕ)) → SameContentsOutside extent a b
    → SameContentsOutside extent b c → SameContentsOutside extent a c
contents_trans extent None None None p q = tt
contents_trans extent None None (Some c) p q = absurd q
contents_trans extent None (Some b) c p q = absurd p
contents_trans extent (Some a) None c p q = absurd p
contents_trans extent (Some a) (Some b) None p q = absurd q
contents_trans extent (Some a) (Some b) (Some c) p q =
    record { before = q.before ∙ p.before; behind = q.behind ∙ p.behind; size = q.size ∙ p.size }

-- what stays in two steps stays in both
pub outside_trans : (extent : Extent) (a b c : Disk) → KeepsOutside extent a b → KeepsOutside extent b c
    → KeepsOutside extent a c
outside_trans extent a b c p q =
    record {
      sectors = q.sectors ∙ p.sectors;
      contents = contents_trans extent a.contents b.contents c.contents p.contents q.contents;
    }

-- the extent still lies in the disk
pub lies_still : (extent : Extent) (a b : Disk) → KeepsOutside extent a b → IsWithin a.sector_count extent
    → IsWithin b.sector_count extent
lies_still extent a b keeps lies = omega (arith, keeps.sectors, lies)
