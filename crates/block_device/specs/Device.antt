-- The block device as a queue's service sees it: what it may do with one chain (5.2.6).
use Rattle.std.specs.Prelude.{◌≡◌, ℕ, zero, suc, ◌-◌, true, List, [], ◌∷◌, ◌++◌, length, map, replicate, Some, None}
use Rattle.chain.specs.Service.{Given, Device}
use Rattle.sector_cache.specs.Disk.{Disk}
use Rattle.block_device.specs.declared.device.BlockDevice.{BlockDevice}
use Rattle.block_device.specs.declared.request.Request.{Request}
use Rattle.block_device.specs.Request.{request_of, payload_of, code_of}
use Rattle.block_device.specs.Outcome.{Outcome, Completes, Ends}

-- What an outcome writes, where `room` places come before the status: what was found in the first of
-- them, then nothing, and the status last.
abbrev pub given_of : ℕ → Outcome → Given Disk
given_of room outcome = record {
  state = outcome.disk;
  written = (map Some outcome.found ++ replicate (room - length outcome.found) None)
      ++ Some (code_of outcome.status) ∷ [];
}

-- one of these outcomes, as it is given
pub record Answers (Is : Outcome → Type 0) (room : ℕ) (given : Given Disk) : Type 0 where
  pub outcome : Outcome
  pub is : Is outcome
  pub given_is : given ≡ given_of room outcome

-- A chain without a writable byte has no place for a status: it is used, and nothing is done. Any other
-- is a request, which ends in one of these ways.
abbrev pub GivesBy : (Request → List ℕ → Disk → Outcome → Type 0) → BlockDevice → Disk → List ℕ → ℕ
    → Given Disk → Type 0
GivesBy Way device disk readable zero given = given ≡ record { state = disk; written = [] }
GivesBy Way device disk readable (suc room) given =
    Answers (λ outcome. Way (request_of device readable room) (payload_of readable) disk outcome) room given

-- a device that takes every chain, each of which ends in one of these ways, and never lacks memory
abbrev pub device_by : (Request → List ℕ → Disk → Outcome → Type 0) → BlockDevice → Device Disk
device_by Way device = record {
  takes = λ disk. true;
  Gives = λ disk readable w given. GivesBy Way device disk readable w given;
  LacksMemory = λ disk readable w. ⊥;
}

-- the device, whether or not the image fails
abbrev pub block_device : BlockDevice → Device Disk
block_device device = device_by (Ends device.identity) device

-- the same device over an image that never fails
abbrev pub exact_device : BlockDevice → Device Disk
exact_device device = device_by (Completes device.identity) device

-- The exact device has an answer to this chain, which says of each writable place what is written there.
pub record HasAnswer (device : BlockDevice) (disk : Disk) (readable : List ℕ) (w : ℕ) : Type 0 where
  pub given : Given Disk
  pub gives : GivesBy (Completes device.identity) device disk readable w given
  pub each : length given.written ≡ w
