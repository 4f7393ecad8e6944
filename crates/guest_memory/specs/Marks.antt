-- What the bits of pages say of a memory that was written: a page whose bit isn't set is as it was.
use Rattle.std.specs.Prelude.{◌≡◌, ℕ, ◌*◌, true, false, Some, List, length, take, drop}
use Rattle.std.specs.List.{slice_get}
use Rattle.guest_memory.specs.Memory.{Memory, SameRange}
use Rattle.guest_memory.specs.Pages.{page_size}

-- the bytes of the page at place k
abbrev pub page_of : Memory → ℕ → List ℕ
page_of m k = take page_size (drop (page_size * k) m.bytes)

-- Writes led from one memory to the other: no bit is cleared, and a page whose bit stays clear is as it was.
pub record MarksWrites (old new : Memory) : Type 0 where
  pub range : SameRange old new
  pub bits : length new.pages ≡ length old.pages
  pub stay : (k : ℕ) → slice_get old.pages k ≡ Some true → slice_get new.pages k ≡ Some true
  pub clear : (k : ℕ) → slice_get new.pages k ≡ Some false → page_of new k ≡ page_of old k
