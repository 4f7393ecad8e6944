-- What a read gives of a file of which the bytes are known, and what a write leaves of them.
use Rattle.std.specs.Prelude.{◌≡◌, ℕ, ◌+◌, ◌*◌, ◌≤◌, List, ◌++◌, length, take, drop, Option, None, Some, IsSomeAnd, ⊤, Result, Ok, Err, OnOk, IsErr, ◌<◌}
use Rattle.sector_cache.specs.Sector.{sector_of, with_sector}

-- the bytes with others in place of as many from byte `at` on
abbrev pub with_bytes : List ℕ → ℕ → List ℕ → List ℕ
with_bytes bytes at new = take at bytes ++ (new ++ drop (at + length new) bytes)

-- how much an answer says was read or written: nothing where it is an error
abbrev pub count_of : {E : Type 0} → Result ℕ E → ℕ
count_of (Ok n) = n
count_of (Err _) = 0

-- a read at byte `at` gave a front of `into`, which is what stands there, where the bytes are known
abbrev pub Gets : {E : Type 0} → ℕ → List ℕ → Result ℕ E → Option (List ℕ) → Type 0
Gets at into result None = ⊤
Gets at into result (Some bytes) = take (count_of result) into ≡ take (count_of result) (drop at bytes)

-- A write of `from` at byte `at` of which at least a front of n bytes was written: some bytes stand in
-- the place of it, the front is that of `from`, and no other byte is different.
pub record IsPut (at : ℕ) (from : List ℕ) (n : ℕ) (old new : List ℕ) : Type 0 where
  pub left : List ℕ
  pub long : length left ≡ length from
  pub front : take n left ≡ take n from
  pub put : new ≡ with_bytes old at left

-- what a write inside of the file leaves of its bytes, where they are known
abbrev pub Puts : {E : Type 0} → ℕ → List ℕ → Result ℕ E → (old new : Option (List ℕ)) → Type 0
Puts at from result None new = new ≡ None
Puts at from result (Some old) new =
    at + length from ≤ length old → IsSomeAnd new (IsPut at from (count_of result) old)

-- these are the sector's bytes, where the file's are known
abbrev pub HasSector : Option (List ℕ) → ℕ → List ℕ → Type 0
HasSector None sector bytes = ⊤
HasSector (Some held) sector bytes = bytes ≡ sector_of held sector

-- A write of a sector that the file has: some 512 bytes stand in it, those that were written where it
-- succeeded, and no other byte is different.
pub record IsSectorPut {E : Type 0} (sector : ℕ) (from : List ℕ) (result : Result (Unit {0}) E)
    (old new : List ℕ) : Type 0 where
  pub left : List ℕ
  pub long : length left ≡ 512
  pub whole : OnOk result (left ≡ from)
  pub put : new ≡ with_sector old sector left

-- the same, where the file's bytes are known
abbrev pub PutsSector : {E : Type 0} → ℕ → List ℕ → Result (Unit {0}) E → (old new : Option (List ℕ)) → Type 0
PutsSector sector from result None new = new ≡ None
PutsSector sector from result (Some old) new =
    512 * (sector + 1) ≤ length old → IsSomeAnd new (IsSectorPut sector from result old)

-- a write of a sector that the file doesn't have whole fails and leaves it, where its bytes are known
abbrev pub LeavesShort : {E : Type 0} → ℕ → Result (Unit {0}) E → (old new : Option (List ℕ)) → Type 0
LeavesShort sector result None new = ⊤
LeavesShort sector result (Some old) new = length old < 512 * (sector + 1) → IsErr result × (new ≡ Some old)
