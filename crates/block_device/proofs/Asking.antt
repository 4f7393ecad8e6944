-- Chains that ask the image for nothing are chains of the device.
use Rattle.std.proofs.Common.{◌≡◌, ℕ, zero, suc, ◌+◌, Bool, false, List, length, refl, subst, sym, ap, ◌∙◌, arith}
use Rattle.guest_memory.specs.Memory.{Memory}
use Rattle.chain.specs.declared.segment.Buffer.{Buffer}
use Rattle.chain.specs.Bytes.{readable_of, writable_of}
use Rattle.chain.specs.Service.{Does, Given}
use Rattle.sector_cache.specs.Disk.{Disk}
use Rattle.block_device.specs.declared.device.BlockDevice.{BlockDevice}
use Rattle.block_device.specs.declared.request.Request.{Request}
use Rattle.block_device.specs.declared.request.Request.TheVariants.{Rejected, Read, Write, Flush, GetId, WriteZeroes}
use Rattle.block_device.specs.declared.request.RequestStatus.{RequestStatus}
use Rattle.block_device.specs.Asking.{EndsUnasked, asks_image, unasked_device}
use Rattle.block_device.specs.Device.{GivesBy, block_device}
use Rattle.block_device.specs.Outcome.{Ends}
use Rattle.block_device.specs.Request.{request_of}

pub served_gives : (device : BlockDevice) (disk : Disk) (readable : List ℕ) (w : ℕ) (given : Given Disk)
    → GivesBy (EndsUnasked device.identity) device disk readable w given
    → GivesBy (Ends device.identity) device disk readable w given
served_gives device disk readable zero given h = h
served_gives device disk readable (suc room) given h =
    record { outcome = h.outcome; is = h.is.ends; given_is = h.given_is }

-- what holds of each request that asks for nothing
pub unasked_by_cases : (P : Request → Type 0) → ((status : RequestStatus) → P (Rejected status)) → P GetId
    → (request : Request) → asks_image request ≡ false → P request
unasked_by_cases P rejected id (Rejected status) none = rejected status
unasked_by_cases P rejected id GetId none = id
unasked_by_cases P rejected id (Read sector count) none = absurd (cc none)
unasked_by_cases P rejected id (Write sector count) none = absurd (cc none)
unasked_by_cases P rejected id Flush none = absurd (cc none)
unasked_by_cases P rejected id (WriteZeroes segments) none = absurd (cc none)

-- the request of a chain asks for nothing, where it has room for a status
abbrev pub AsksNothing : BlockDevice → List ℕ → ℕ → Type 0
AsksNothing device readable w = (room : ℕ) → w ≡ suc room
    → asks_image (request_of device readable room) ≡ false

pub unasked_gives : (device : BlockDevice) (disk : Disk) (readable : List ℕ) (w : ℕ) (given : Given Disk)
    → AsksNothing device readable w
    → GivesBy (Ends device.identity) device disk readable w given
    → GivesBy (EndsUnasked device.identity) device disk readable w given
unasked_gives device disk readable zero given none h = h
unasked_gives device disk readable (suc room) given none h =
    record {
      outcome = h.outcome;
      is = record { unasked = none room refl; ends = h.is };
      given_is = h.given_is;
    }

pub served_does : (device : BlockDevice) (m new : Memory) (buffers : List Buffer) (s t : Disk) (len : ℕ)
    (any : Bool) → Does (unasked_device device) m new buffers s t len any
    → Does (block_device device) m new buffers s t len any
served_does device m new buffers s t len any d = record {
  written = d.written;
  gives = served_gives device s (readable_of m buffers) (length (writable_of buffers)) _ d.gives;
  each = d.each;
  memory = d.memory;
  len_is = d.len_is;
  any_is = d.any_is;
}

pub unasked_does : (device : BlockDevice) (m new : Memory) (buffers : List Buffer) (s t : Disk) (len : ℕ)
    (any : Bool) → AsksNothing device (readable_of m buffers) (length (writable_of buffers))
    → Does (block_device device) m new buffers s t len any
    → Does (unasked_device device) m new buffers s t len any
unasked_does device m new buffers s t len any none d = record {
  written = d.written;
  gives = unasked_gives device s (readable_of m buffers) (length (writable_of buffers)) _ none d.gives;
  each = d.each;
  memory = d.memory;
  len_is = d.len_is;
  any_is = d.any_is;
}

-- a chain whose request asks for nothing
pub asks_nothing : (device : BlockDevice) (readable : List ℕ) (w at : ℕ) (request : Request) → w ≡ at + 1
    → request ≡ request_of device readable at → asks_image request ≡ false → AsksNothing device readable w
asks_nothing device readable w at request all is none room some =
    let same : room ≡ at = omega (arith, all, some) in
    subst (λ (k : ℕ). asks_image (request_of device readable k) ≡ false) (sym same)
    (ap (λ (r : Request). asks_image r) (sym is) ∙ none)
