-- Bytes at addresses of a memory that its guest may write meanwhile: what was read of them, and what was stored.
use Rattle.std.specs.Prelude.{◌≡◌, ℕ, ◌≤◌, Bool, List, [], ◌∷◌}
use Rattle.guest_memory.specs.Memory.{Memory, part_of, put}
use Rattle.shared_memory.specs.Sightings.{Sightings, Interference, SeenAs, StoreExtends, memory}

-- ---- reading

-- the byte x stood at an address at some access
pub record IsByteSeen (old new : Sightings) (addr x : ℕ) : Type 0 where
  pub where_read : Memory
  pub seen : SeenAs old new where_read
  pub is : part_of where_read addr 1 ≡ x ∷ []

-- Each of these bytes stood at its address at some access. So an address that is named twice may have two bytes.
abbrev pub AreBytesSeen : Sightings → Sightings → List ℕ → List ℕ → Type 0
AreBytesSeen old new [] [] = Unit {0}
AreBytesSeen old new (a ∷ addrs) (x ∷ bytes) = IsByteSeen old new a x × AreBytesSeen old new addrs bytes
AreBytesSeen old new _ _ = ⊥

-- at each access from old to new the byte at this address was as at the first
abbrev pub IsSteady : Sightings → Sightings → ℕ → Type 0
IsSteady old new addr = (k : ℕ) → old.now ≤ k → k ≤ new.now → part_of (new.at k) addr 1 ≡ part_of (memory old) addr 1

-- ---- writing

-- the byte x was stored at address a; the guest may have written before that
pub record StoresByte (races : Bool) (old new : Sightings) (a x : ℕ) : Type 0 where
  pub extends : StoreExtends races old new
  pub before : Memory
  pub interference : Interference races (memory old) before
  pub stored : memory new ≡ put before a (x ∷ [])

-- the byte x was stored at address a, and the later ones behind that
pub record StoresOne (races : Bool) (old : Sightings) (a x : ℕ) (Later : Sightings → Type 0) : Type 0 where
  pub stored : Sightings
  pub stores : StoresByte races old stored a x
  pub later : Later stored

-- these bytes were stored at these addresses, one after another
abbrev pub StoresEach : Bool → Sightings → Sightings → List ℕ → List ℕ → Type 0
StoresEach races old new [] [] = new ≡ old
StoresEach races old new (a ∷ addrs) (x ∷ bytes) = StoresOne races old a x (λ stored. StoresEach races stored new addrs bytes)
StoresEach races old new _ _ = ⊥
