-- What a stop, as a loss of power, may leave at any moment: between two calls, and within one.
use Rattle.std.specs.Prelude.{◌≡◌, ℕ, ◌+◌, ◌*◌, ◌≤◌, ◌⊎◌, ⊤, Contains, List, take, drop}
use Rattle.sector_cache.specs.Sector.{sector_of}

-- bytes that differ from byte `start` up to byte `end` alone: those before and those behind are the same
pub record DiffersWithin (start end : ℕ) (old new : List ℕ) : Type 0 where
  pub before : take start new ≡ take start old
  pub behind : drop end new ≡ drop end old

-- bytes that differ in these sectors alone: each other one is the same
pub record DiffersInSectors (sectors : List ℕ) (old new : List ℕ) : Type 0 where
  pub others : (sector : ℕ) → ¬ Contains sectors sector → sector_of new sector ≡ sector_of old sector

-- these are bytes that a stop may leave, but for what may differ: there a write was cut, and any bytes stand
pub record IsCutBy (Differs : List ℕ → List ℕ → Type 0) (may_leave : List ℕ → Type 0)
    (left : List ℕ) : Type 0 where
  pub whole : List ℕ
  pub may : may_leave whole
  pub within : Differs whole left

-- Time goes from one moment to a later one, and nothing is touched but what may differ. `may_leave` is what
-- a stop may leave then, and `left_since` what one at any moment since a number of them might have left.
pub record TouchesBy (Differs : List ℕ → List ℕ → Type 0) (moment moment' : ℕ)
    (may_leave may_leave' : List ℕ → Type 0) (left_since left_since' : ℕ → List ℕ → Type 0) : Type 0 where
  pub later : moment ≤ moment'
  -- what might have been left is not taken back
  pub keeps : (since : ℕ) (left : List ℕ) → since ≤ moment → left_since since left → left_since' since left
  -- a stop now leaves all other bytes as one at first may
  pub now : (left : List ℕ) → may_leave' left → IsCutBy Differs may_leave left
  -- and so does a stop at any moment between
  pub between : (since : ℕ) (left : List ℕ) → left_since' since left → left_since since left
      ⊎ IsCutBy Differs may_leave left

-- only the bytes from `start` to `end` are touched
abbrev pub IsCut : (start end : ℕ) → (may_leave : List ℕ → Type 0) → (left : List ℕ) → Type 0
IsCut start end may_leave left = IsCutBy (DiffersWithin start end) may_leave left

abbrev pub Touches : (start end : ℕ) → (moment moment' : ℕ) → (may_leave may_leave' : List ℕ → Type 0)
    → (left_since left_since' : ℕ → List ℕ → Type 0) → Type 0
Touches start end moment moment' may_leave may_leave' left_since left_since' =
    TouchesBy (DiffersWithin start end) moment moment' may_leave may_leave' left_since left_since'

-- the same of two states of an image or a file: from the old one to the new one, whatever calls were made and
-- whatever failed, and at each moment within a call
abbrev pub TouchesOnly : {I : Type 0} → (moment : I → ℕ) → (may_leave : I → List ℕ → Type 0)
    → (left_since : I → ℕ → List ℕ → Type 0) → (start end : ℕ) → (old new : I) → Type 0
TouchesOnly moment may_leave left_since start end old new =
    Touches start end (moment old) (moment new) (may_leave old) (may_leave new)
    (left_since old) (left_since new)

-- no byte is touched
abbrev pub TouchesNothing : {I : Type 0} → (moment : I → ℕ) → (may_leave : I → List ℕ → Type 0)
    → (left_since : I → ℕ → List ℕ → Type 0) → (old new : I) → Type 0
TouchesNothing moment may_leave left_since old new = TouchesOnly moment may_leave left_since 0 0 old new

-- only the bytes of one sector are
abbrev pub TouchesSector : {I : Type 0} → (moment : I → ℕ) → (may_leave : I → List ℕ → Type 0)
    → (left_since : I → ℕ → List ℕ → Type 0) → (sector : ℕ) → (old new : I) → Type 0
TouchesSector moment may_leave left_since sector old new =
    TouchesOnly moment may_leave left_since (512 * sector) (512 * (sector + 1)) old new

-- only the bytes of a run of sectors are, which has `size` bytes and begins at sector `first`
abbrev pub TouchesFrom : {I : Type 0} → (moment : I → ℕ) → (may_leave : I → List ℕ → Type 0)
    → (left_since : I → ℕ → List ℕ → Type 0) → (first size : ℕ) → (old new : I) → Type 0
TouchesFrom moment may_leave left_since first size old new =
    TouchesOnly moment may_leave left_since (512 * first) (512 * first + size) old new

-- only the bytes of these sectors are
abbrev pub TouchesSectors : {I : Type 0} → (moment : I → ℕ) → (may_leave : I → List ℕ → Type 0)
    → (left_since : I → ℕ → List ℕ → Type 0) → (sectors : List ℕ) → (old new : I) → Type 0
TouchesSectors moment may_leave left_since sectors old new =
    TouchesBy (DiffersInSectors sectors) (moment old) (moment new) (may_leave old) (may_leave new)
    (left_since old) (left_since new)

-- of what doesn't record its moments: all have one number, and nothing is said of what might have been left
abbrev pub unnumbered : {I : Type 0} → I → ℕ
unnumbered image = 0

abbrev pub unrecorded : {I : Type 0} → I → ℕ → List ℕ → Type 0
unrecorded image since left = ⊤

-- a stop leaves these bytes and no others
abbrev pub Only : List ℕ → (List ℕ → Type 0) → Type 0
Only bytes may_leave = (left : List ℕ) → may_leave left → left ≡ bytes

-- nothing might have been left since that number but what may be left now, as since the number of this moment
abbrev pub BeginsAt : (may_leave : List ℕ → Type 0) → (left_since : ℕ → List ℕ → Type 0) → ℕ → Type 0
BeginsAt may_leave left_since since = (left : List ℕ) → left_since since left → may_leave left
