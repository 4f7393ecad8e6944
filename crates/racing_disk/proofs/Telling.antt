-- What the host is told of a chain: its places are there, and nothing of it lies outside.
use Rattle.std.proofs.Common.{◌≡◌, ◌∙◌, ℕ, Bool, true, List, refl, replicate, None}
use Rattle.std.specs.Prelude.{All}
use Rattle.guest_memory.specs.Memory.{Memory}
use Rattle.chain.specs.declared.segment.Buffer.{Buffer}
use Rattle.chain.specs.declared.segment.Segment.{Segment}
use Rattle.chain.specs.Buffers.{Good}
use Rattle.shared_memory.specs.Sightings.{Sightings}
use Rattle.block_device.specs.declared.device.BlockDevice.{BlockDevice}
use Rattle.block_device.specs.declared.operation.Operation.{Operation}
use Rattle.block_device.specs.declared.request.Request.{Request}
use Rattle.block_device.specs.Asking.{asks_image, has_segments}
use Rattle.block_device.specs.Hosting.{hosted_device}
use Rattle.block_device.specs.Operation.{HasPlaces, LiesInside, OnDisk, operation_of, runs_by, runs_with, zeroes_in}
use Rattle.block_device.specs.Request.{payload_of}
use Rattle.block_device.proofs.Telling.{places, runs_left, told_inside, zeroes_on_disk}
use Rattle.racing_disk.specs.Judging.{IsJudged}
use Rattle.racing_disk.specs.Telling.{IsLeft, WasLeft}

-- ---- a chain without a place for a status

pub none_given : (device : BlockDevice) (readable : List ℕ) (n : ℕ) → n ≡ 0
    → (hosted_device device).Gives tt readable n (record { state = tt; written = replicate n None })
none_given device readable n none = rw none (λ disk. refl)

-- ---- its places are there

pub places_left : (device : BlockDevice) (buffers : List Buffer) (request : Request) (kept : List Segment)
    → WasLeft device buffers request kept → asks_image request ≡ true
    → HasPlaces device.extent.count buffers request
places_left device buffers request kept w asks =
    places device w.readable w.left.room buffers request w.long w.left.all w.left.judged.is w.left.judged.servable asks

-- ---- the runs

pub runs_are : (device : BlockDevice) (buffers : List Buffer) (request : Request) (kept : List Segment)
    (readable : List ℕ) → IsLeft device readable buffers request kept
    → runs_with kept request buffers ≡ runs_by request readable buffers
runs_are device buffers request kept readable left =
    runs_left (zeroes_in (payload_of readable)) kept request buffers left.judged.zeroes

-- ---- nothing lies outside

pub zeroed_on_disk : (device : BlockDevice) (old new : Sightings) (buffers : List Buffer) (room : ℕ) (request : Request)
    (runs : List Segment) → IsJudged device old new buffers room request runs → has_segments request ≡ true
    → All (OnDisk device.extent.count) runs
zeroed_on_disk device old new buffers room request runs j some =
    rw (j.judged.zeroes some)
    (zeroes_on_disk device.extent.count request (payload_of j.readable) room j.judged.servable some)

pub left_inside : (device : BlockDevice) (m : Memory) (buffers : List Buffer) (request : Request) (stable : Bool)
    (operation : Operation) (kept runs : List Segment) → Good m buffers → WasLeft device buffers request kept
    → asks_image request ≡ true → operation ≡ operation_of stable request → runs ≡ runs_with kept request buffers
    → LiesInside device.extent.count m operation runs
left_inside device m buffers request stable operation kept runs good w asks told are =
    told_inside device m buffers request w.readable stable w.left.room operation runs good w.left.judged.is
    w.left.judged.servable asks told (are ∙ runs_are device buffers request kept w.readable w.left)
