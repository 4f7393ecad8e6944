-- A memory that its guest may write while a device works on it, as the device sees it: access by access.
use Rattle.std.specs.Prelude.{◌≡◌, ℕ, ◌+◌, ◌≤◌, Bool, true, false}
use Rattle.guest_memory.specs.Memory.{Memory, SameRange, put_num}

-- The memory as each access shows it, of which the last one so far is number now; what stands behind that has no
-- meaning. A copy of several words shows each of them as it was read.
pub record Sightings : Type 0 where
  pub at : ℕ → Memory
  pub now : ℕ

-- as it was seen last
abbrev pub memory : Sightings → Memory
memory s = s.at s.now

-- a memory that nobody else writes is seen as it is
abbrev pub still : Memory → Sightings
still m = record { at = λ k. m; now = 0 }

-- whatever the guest's CPUs write: no page that a device wrote is forgotten for it, and none is marked
pub record GuestWrites (old new : Memory) : Type 0 where
  pub range : SameRange old new
  pub pages : new.pages ≡ old.pages

-- what the guest may make of its memory between two accesses: nothing, or, where its CPUs race with the device, whatever
-- they write
abbrev pub Interference : Bool → Memory → Memory → Type 0
Interference false old new = new ≡ old
Interference true old new = GuestWrites old new

-- the device only read: what was seen before stays, and the guest may have written before each access
pub record Loads (races : Bool) (old new : Sightings) : Type 0 where
  pub later : old.now ≤ new.now
  pub kept : (k : ℕ) → k ≤ old.now → new.at k ≡ old.at k
  pub interference : (k : ℕ) → old.now ≤ k → k ≤ new.now → Interference races (memory old) (new.at k)

-- the memory was seen as m, no earlier than old and no later than new
pub record SeenAs (old new : Sightings) (m : Memory) : Type 0 where
  pub place : ℕ
  pub from : old.now ≤ place
  pub to : place ≤ new.now
  pub is : m ≡ new.at place

-- what was seen before stays, and behind it the memory was seen once
pub record Extends (old new : Sightings) : Type 0 where
  pub next : new.now ≡ old.now + 1
  pub kept : (k : ℕ) → k ≤ old.now → new.at k ≡ old.at k

-- so it is at a store beside which the guest may write; a memory that nobody else writes is seen only as it is
abbrev pub StoreExtends : Bool → Sightings → Sightings → Type 0
StoreExtends false old new = Unit {0}
StoreExtends true old new = Extends old new

-- the device stored the number v in the k bytes from address a on; the guest may have written before that
pub record Stores (races : Bool) (old new : Sightings) (a k v : ℕ) : Type 0 where
  pub extends : StoreExtends races old new
  pub before : Memory
  pub interference : Interference races (memory old) before
  pub stored : memory new ≡ put_num before a k v
