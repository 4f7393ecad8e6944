-- What an image over a file is seen as.
use Rattle.std.specs.Prelude.{◌≡◌, ℕ, ◌-◌, ◌^◌, ◌<◌, Bool, Option, None, Some, IsSomeAnd, false, true}
use Rattle.sector_cache.specs.Disk.{Disk}
use Rattle.sector_cache.specs.declared.fault.FileCall.{FileCall}
use Rattle.sector_cache.specs.declared.fault.FileFailure.{FileFailure}
use Rattle.sector_cache.specs.declared.file_image.FileImage.{FileImage}

-- as one without contents
abbrev pub disk_of : {F : Type 0} → FileImage F → Disk
disk_of image =
    record { contents = None; sector_count = image.sectors; failures = image.failures; dirty = image.dirty }

-- an image that was just made of a file of so many sectors, whose bytes nobody knows
abbrev pub new_without_contents : ℕ → Disk
new_without_contents sectors = record { contents = None; sector_count = sectors; failures = 0; dirty = false }

-- the file behind it
abbrev pub file_of : {F : Type 0} → FileImage F → F
file_of image = image.file

-- its calls are tried, since one failure more can be counted
abbrev pub IsTried : {F : Type 0} → FileImage F → Type 0
IsTried image = image.failures < 2 ^ 64 - 1

-- its calls are tried no more
abbrev pub IsSpent : {F : Type 0} → FileImage F → Type 0
IsSpent image = image.failures ≡ 2 ^ 64 - 1

-- What it keeps of calls of the file: whether a sync has failed, the sector of the last write that was tried,
-- and the first call that failed.
pub record Trouble : Type 0 where
  pub is_lost : Bool
  pub last : Option ℕ
  pub first : Option FileFailure

abbrev pub trouble_of : {F : Type 0} → FileImage F → Trouble
trouble_of image = record { is_lost = image.is_lost; last = image.last; first = image.first }

-- of an image that was just made
abbrev pub untroubled : Trouble
untroubled = record { is_lost = false; last = None; first = None }

-- after a write of this sector was tried
abbrev pub with_last : ℕ → Trouble → Trouble
with_last sector trouble = record trouble { last = Some sector }

-- after a sync that failed, or was not tried any more
abbrev pub lost : Trouble → Trouble
lost trouble = record trouble { is_lost = true }

-- the first failure stays; where there was none it is this call
abbrev pub IsFirst : FileCall → Option ℕ → (old new : Option FileFailure) → Type 0
IsFirst call sector (Some first) new = new ≡ Some first
IsFirst call sector None new = IsSomeAnd new (λ first. (first.call ≡ call) × (first.sector ≡ sector))

-- a call that failed changes nothing else but the first failure
pub record IsNoted (call : FileCall) (sector : Option ℕ) (old new : Trouble) : Type 0 where
  pub rest : new ≡ record old { first = new.first }
  pub first : IsFirst call sector old.first new.first

-- Where the image is clean the file is synced: nothing that was written waits.
abbrev pub IsSettled : {F : Type 0} → (F → Type 0) → FileImage F → Type 0
IsSettled IsSynced image = image.dirty ≡ false → IsSynced image.file
