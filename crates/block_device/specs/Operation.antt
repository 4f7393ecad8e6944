-- What the host of a disk is told of a request that asks for the disk (5.2.6): an operation, and the runs of
-- its bytes.
use Rattle.std.specs.Prelude.{◌≡◌, ℕ, ◌+◌, ◌*◌, ◌≤◌, Bool, true, false, List, [], length, map, All}
use Rattle.std.specs.List.{filter}
use Rattle.guest_memory.specs.Memory.{Memory, Inside}
use Rattle.chain.specs.declared.segment.Buffer.{Buffer}
use Rattle.chain.specs.declared.segment.Segment.{Segment}
use Rattle.chain.specs.Bytes.{len_of, readable_of, segments_of}
use Rattle.chain.specs.Runs.{has_bytes, runs_of}
use Rattle.block_device.specs.declared.device.BlockDevice.{BlockDevice}
use Rattle.block_device.specs.declared.operation.Operation.{Operation}
use Rattle.block_device.specs.declared.operation.OperationKind.{OperationKind}
use Rattle.block_device.specs.declared.operation.OperationKind.TheVariants as kind
use Rattle.block_device.specs.declared.request.Request.{Request}
use Rattle.block_device.specs.declared.request.Request.TheVariants.{Read, Write, WriteZeroes}
use Rattle.block_device.specs.declared.segments.WriteZeroesSegment.{WriteZeroesSegment}
use Rattle.block_device.specs.Asking.{IsAsked, asks_image, has_segments}
use Rattle.block_device.specs.Extent.{sector_len}
use Rattle.block_device.specs.Request.{payload_of}
use Rattle.block_device.specs.Zeroes.{segments_in}

-- The operation of a request. Where its driver didn't negotiate FLUSH, what is written has to be stable
-- (5.2.6.2).
-- Refused requests and GET_ID have none.
abbrev pub operation_of : Bool → Request → Operation
operation_of stable (Read sector count) =
    record { kind = kind.In; start = sector_len * sector; len = sector_len * count; stable = false }
operation_of stable (Write sector count) =
    record { kind = kind.Out; start = sector_len * sector; len = sector_len * count; stable = stable }
operation_of stable (WriteZeroes segments) =
    record { kind = kind.Zeroes; start = 0; len = 0; stable = stable }
operation_of stable request = record { kind = kind.Flush; start = 0; len = 0; stable = false }

-- the bytes of the disk that a segment of a WRITE_ZEROES names
abbrev pub disk_run : WriteZeroesSegment → Segment
disk_run segment = record { addr = sector_len * segment.sector; len = sector_len * segment.count }

-- those of all segments in order, but for segments without a sector
abbrev pub disk_runs : List WriteZeroesSegment → List Segment
disk_runs segments = filter has_bytes (map disk_run segments)

abbrev pub zeroes_in : List ℕ → List Segment
zeroes_in payload = disk_runs (segments_in payload)

-- Where the bytes of an operation lie: of IN all that come before the status, of OUT all behind the header
-- (5.2.6), of a WRITE_ZEROES these.
abbrev pub runs_with : List Segment → Request → List Buffer → List Segment
runs_with zeroes (Read sector count) buffers = runs_of 0 (sector_len * count) (segments_of true buffers)
runs_with zeroes (Write sector count) buffers = runs_of 16 (16 + sector_len * count) (segments_of false buffers)
runs_with zeroes (WriteZeroes segments) buffers = zeroes
runs_with zeroes request buffers = []

-- of a WRITE_ZEROES what the segments in these readable bytes name
abbrev pub runs_by : Request → List ℕ → List Buffer → List Segment
runs_by request readable buffers = runs_with (zeroes_in (payload_of readable)) request buffers

-- in those of a memory
abbrev pub runs_for : Request → Memory → List Buffer → List Segment
runs_for request m buffers = runs_by request (readable_of m buffers) buffers

-- The request asks for a disk of so many sectors, where all of its sectors are, and its bytes have places in the chain
-- of these buffers.
abbrev pub HasPlaces : ℕ → List Buffer → Request → Type 0
HasPlaces capacity buffers (Read sector count) =
    (sector + count ≤ capacity) × (sector_len * count ≤ len_of true buffers)
HasPlaces capacity buffers (Write sector count) =
    (sector + count ≤ capacity) × (16 + sector_len * count ≤ len_of false buffers)
HasPlaces capacity buffers request = asks_image request ≡ true

-- The chain asks for the disk, and of a WRITE_ZEROES these are the runs.
pub record IsToldToHost (device : BlockDevice) (m : Memory) (buffers : List Buffer) (request : Request)
    (runs : List Segment) : Type 0 where
  pub asked : IsAsked device m buffers request
  pub zeroes : has_segments request ≡ true → runs ≡ runs_for request m buffers

-- every byte of the run is one of a disk of so many sectors
abbrev pub OnDisk : ℕ → Segment → Type 0
OnDisk capacity run = run.addr + run.len ≤ sector_len * capacity

abbrev pub InMemory : Memory → Segment → Type 0
InMemory m run = Inside m run.addr run.len

-- the runs, by what they are of
abbrev pub LieBy : OperationKind → ℕ → Memory → List Segment → Type 0
LieBy kind.In capacity m runs = All (InMemory m) runs
LieBy kind.Out capacity m runs = All (InMemory m) runs
LieBy kind.Flush capacity m runs = runs ≡ []
LieBy kind.Zeroes capacity m runs = All (OnDisk capacity) runs

-- Nothing that the host is told lies outside the guest's memory or its disk.
pub record LiesInside (capacity : ℕ) (m : Memory) (operation : Operation) (runs : List Segment) : Type 0 where
  pub disk : operation.start + operation.len ≤ sector_len * capacity
  pub lie : LieBy operation.kind capacity m runs
  pub few : length runs ≤ 256
