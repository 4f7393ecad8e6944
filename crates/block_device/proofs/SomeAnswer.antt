-- Over an image that tells all of its bytes, and doesn't fail, each chain has an answer.
use Rattle.std.proofs.Common.{◌≡◌, ℕ, zero, suc, ◌+◌, ◌*◌, ◌/◌, ◌≤◌, true, false, Option, Some, List, [], length, refl, sym, subst, arith, length-append, length-take, length-drop}
use Rattle.std.proofs.lemmas.Bool.Decides.{nat_tests}
use Rattle.std.proofs.lemmas.Grind.{common_steps}
use Rattle.std.proofs.lemmas.List.{length-map, length-replicate}
use Rattle.std.specs.Prelude.{IfSome, nat_lt}
use Rattle.sector_cache.specs.Disk.{Disk, IsWhole}
use Rattle.sector_cache.specs.Sector.{extent_of}
use Rattle.block_device.specs.declared.device.BlockDevice.{BlockDevice}
use Rattle.block_device.specs.declared.request.Request.{Request}
use Rattle.block_device.specs.declared.request.Request.TheVariants.{Rejected, Read, Write, Flush, GetId, WriteZeroes}
use Rattle.block_device.specs.Request.{are_sectors, payload_of, request_of, sector_in}
use Rattle.block_device.specs.Zeroes.{are_segments}
use Rattle.block_device.specs.Outcome.{Outcome, AreSectorContents, Completes, completed}
use Rattle.block_device.specs.Device.{HasAnswer, given_of}
use Rattle.block_device.specs.Progress.{IsServable}
use Rattle.block_device.proofs.RequestCases.{request_by_cases}

-- ---- what is asked for can be served

pub servable : (device : BlockDevice) (readable : List ℕ) (room : ℕ)
    → IsServable device.extent.count (request_of device readable room) (payload_of readable) room
servable device readable room =
    request_by_cases (λ request. IsServable device.extent.count request (payload_of readable) room) device
    readable room (λ status. tt) (sectors_there device.extent.count (sector_in readable) room)
    (sectors_there device.extent.count (sector_in readable) (length (payload_of readable))) tt
    (id_fits room) (λ fit within. (segments_whole (length (payload_of readable)) fit, within))
  where
    sectors_there : (capacity sector len : ℕ) → are_sectors capacity sector len ≡ true
        → (sector + len / 512 ≤ capacity) × (len ≡ 512 * (len / 512))
    sectors_there capacity sector len fit =
        (grind (arith, nat_tests, common_steps), grind (arith, nat_tests, common_steps))

    id_fits : (room : ℕ) → nat_lt room 20 ≡ false → 20 ≤ room
    id_fits room long = grind (arith, nat_tests)

    segments_whole : (len : ℕ) → are_segments len ≡ true → len ≡ 16 * (len / 16)
    segments_whole len fit = grind (arith, nat_tests, common_steps)

-- ---- and has an outcome

-- what a request finds fits in the room before the status
record HasOutcome (identity : List ℕ) (request : Request) (payload : List ℕ) (disk : Disk)
    (room : ℕ) : Type 0 where
  outcome : Outcome
  is : Completes identity request payload disk outcome
  fits : length outcome.found ≤ room

found_size : (bytes : List ℕ) (sector count : ℕ) → 512 * (sector + count) ≤ length bytes
    → length (extent_of bytes sector count) ≡ 512 * count
found_size bytes sector count inside = simp (length-take, length-drop) (omega arith)

has_outcome : (identity : List ℕ) (request : Request) (payload bytes : List ℕ) (disk : Disk)
    (capacity room : ℕ) → disk.contents ≡ Some bytes → length bytes ≡ 512 * disk.sector_count
    → capacity ≤ disk.sector_count → IsServable capacity request payload room → length identity ≡ 20
    → HasOutcome identity request payload disk room
has_outcome identity (Rejected status) payload bytes disk capacity room contents whole below h twenty =
    record {
      outcome = completed (Rejected status) payload [] disk;
      is = record { found = []; finds = refl; is = refl };
      fits = omega arith;
    }
has_outcome identity (Read sector count) payload bytes disk capacity room contents whole below h twenty =
    let found = extent_of bytes sector count in
    let size : length found ≡ 512 * count =
    found_size bytes sector count (omega (arith, whole, below, h.0)) in
    let finds : AreSectorContents disk sector count found =
    record {
      size = size;
      contents = subst
          (λ (o : Option (List ℕ)). IfSome o (λ bytes. found ≡ extent_of bytes sector count))
          (sym contents) refl;
    } in
    record {
      outcome = completed (Read sector count) payload found disk;
      is = record { found = found; finds = finds; is = refl };
      fits = omega (arith, size, h.1);
    }
has_outcome identity (Write sector count) payload bytes disk capacity room contents whole below h twenty =
    record {
      outcome = completed (Write sector count) payload [] disk;
      is = record { found = []; finds = refl; is = refl };
      fits = omega arith;
    }
has_outcome identity Flush payload bytes disk capacity room contents whole below h twenty =
    record {
      outcome = completed Flush payload [] disk;
      is = record { found = []; finds = refl; is = refl };
      fits = omega arith;
    }
has_outcome identity GetId payload bytes disk capacity room contents whole below h twenty =
    record {
      outcome = completed GetId payload identity disk;
      is = record { found = identity; finds = refl; is = refl };
      fits = omega (arith, h, twenty);
    }
has_outcome identity (WriteZeroes segments) payload bytes disk capacity room contents whole below h twenty =
    record {
      outcome = completed (WriteZeroes segments) payload [] disk;
      is = record { found = []; finds = refl; is = refl };
      fits = omega arith;
    }

given_size : (room : ℕ) (outcome : Outcome) → length outcome.found ≤ room
    → length (given_of room outcome).written ≡ suc room
given_size room outcome fits = simp (length-append, length-map, length-replicate) (omega arith)

pub some_answer : (device : BlockDevice) (disk : Disk) (bytes readable : List ℕ) (w : ℕ)
    → disk.contents ≡ Some bytes → IsWhole disk → device.extent.count ≤ disk.sector_count
    → length device.identity ≡ 20
    → HasAnswer device disk readable w
some_answer device disk bytes readable zero contents whole below twenty =
    record { given = record { state = disk; written = [] }; gives = refl; each = refl }
some_answer device disk bytes readable (suc room) contents whole below twenty =
    let size : length bytes ≡ 512 * disk.sector_count = rw contents at whole in
    let o : HasOutcome device.identity (request_of device readable room) (payload_of readable) disk room =
    has_outcome device.identity (request_of device readable room) (payload_of readable) bytes disk
    device.extent.count room contents size below (servable device readable room) twenty in
    record {
      given = given_of room o.outcome;
      gives = record { outcome = o.outcome; is = o.is; given_is = refl };
      each = given_size room o.outcome o.fits;
    }
