-- An image over a medium with a write cache: a sector that was written waits in the cache until it is flushed.
use Rattle.std.specs.Prelude.{◌≡◌, ℕ, zero, suc, ◌+◌, Bool, true, false, Contains, List, [], ◌∷◌, ◌++◌, length, get_or}
use Rattle.std.specs.List.{list_any}
use Rattle.std.proofs.Common.{inl, sym, true≢false}
use Rattle.sector_cache.specs.Disk.{Disk}
use Rattle.sector_cache.specs.MemoryImage as memory
use Rattle.sector_cache.specs.Sector.{sector_of}
use Rattle.sector_cache.proofs.Stops.{differs_in_range, differs_nowhere}
use Rattle.test_support.specs.Past.{Since, from_1}
use Rattle.test_support.specs.declared.write_back_image.Moment.{Moment}
use Rattle.test_support.specs.declared.write_back_image.WriteBackImage.{WriteBackImage}

-- the sector was written since the last flush
abbrev pub Waits : List Bool → ℕ → Type 0
Waits waiting sector = get_or waiting sector false ≡ true

-- What a stop may leave where these bytes were read: the same in each sector that doesn't wait, and any in one
-- that does. There the medium may have what it had, what was written, or what it was about to take.
pub record MayStand (read : List ℕ) (waiting : List Bool) (left : List ℕ) : Type 0 where
  pub long : length left ≡ length read
  pub settled : (sector : ℕ) → ¬ Waits waiting sector → sector_of left sector ≡ sector_of read sector

-- what was written and not yet flushed
abbrev pub is_dirty : List Bool → Bool
is_dirty waiting = list_any (λ waits. waits) waiting

-- as an image in memory of what was written, which is dirty where a sector waits
abbrev pub disk_of : {A : Type 0} → WriteBackImage A → Disk
disk_of image = record (memory.disk_of image.memory) { dirty = is_dirty image.waiting.items }

abbrev pub may_leave_of : {A : Type 0} → WriteBackImage A → List ℕ → Type 0
may_leave_of image left = MayStand image.memory.bytes.items image.waiting.items left

-- at a moment that was recorded
abbrev pub might_leave_of : {A : Type 0} → Moment A → List ℕ → Type 0
might_leave_of moment left = MayStand moment.bytes.items moment.waiting.items left

-- this moment stands behind those that were recorded
pub record HasRecorded {A : Type 0} (image : WriteBackImage A) (past : List (Moment A)) : Type 0 where
  pub moment : Moment A
  pub bytes : moment.bytes.items ≡ image.memory.bytes.items
  pub waiting : moment.waiting.items ≡ image.waiting.items
  pub last : past ≡ image.past.items ++ moment ∷ []

-- the number of this moment in the record
abbrev pub number_of : {A : Type 0} → WriteBackImage A → ℕ
number_of image = length image.past.items + 1

-- what a stop since the moment of that number might have left
abbrev pub left_since_of : {A : Type 0} → WriteBackImage A → ℕ → List ℕ → Type 0
left_since_of image = from_1 (Since might_leave_of (may_leave_of image) image.past.items)

-- ---- the laws of an image

nothing_waits : (waiting : List Bool) (sector : ℕ) → is_dirty waiting ≡ false → ¬ Waits waiting sector
nothing_waits [] zero clean waits = true≢false (sym waits)
nothing_waits [] (suc sector) clean waits = true≢false (sym waits)
nothing_waits (true ∷ rest) sector clean waits = true≢false clean
nothing_waits (false ∷ rest) zero clean waits = true≢false (sym waits)
nothing_waits (false ∷ rest) (suc sector) clean waits = nothing_waits rest sector clean waits

-- where no sector waits a stop leaves what was read
pub durable : (read left : List ℕ) (waiting : List Bool) → ((sector : ℕ) → ¬ Contains [] sector)
    → is_dirty waiting ≡ false → MayStand read waiting left → left ≡ read
durable read left waiting none clean may =
    differs_nowhere read left (differs_in_range 0 0 [] (λ sector in_none. absurd (none sector in_none)) read left
    (record { others = λ sector other. may.settled sector (nothing_waits waiting sector clean) }))

-- this moment is one of those since any that is recorded
pub counts_now : {A : Type 0} (image : WriteBackImage A) (since : ℕ) (left : List ℕ) → may_leave_of image left
    → left_since_of image since left
counts_now image zero left may = tt
counts_now image (suc since) left may = inl may
