-- What of a driver's writes stands after a stop, as a loss of power (5.2.6.2).
use Rattle.std.specs.Prelude.{◌≡◌, ◌⊎◌, ℕ, ◌+◌, Bool, true, false, not, ◌&&◌, ◌||◌, nat_le, nat_lt, ⊤, Option, Some, List, [], ◌∷◌, ◌++◌, length}
use Rattle.std.specs.List.{list_any, slice_get}
use Rattle.guest_memory.specs.Memory.{Memory}
use Rattle.chain.specs.declared.segment.Segment.{Segment}
use Rattle.chain.specs.Bytes.{readable_of, writable_of}
use Rattle.chain.specs.Service.{Served}
use Rattle.sector_cache.specs.Disk.{Disk}
use Rattle.block_device.specs.declared.device.BlockDevice.{BlockDevice}
use Rattle.block_device.specs.declared.operation.Operation.{Operation}
use Rattle.block_device.specs.declared.operation.OperationKind.{OperationKind}
use Rattle.block_device.specs.declared.operation.OperationKind.TheVariants as kind
use Rattle.block_device.specs.declared.operation.Verdict.{Verdict}
use Rattle.block_device.specs.declared.operation.Verdict.TheVariants as verdict
use Rattle.block_device.specs.declared.request.Request.{Request}
use Rattle.block_device.specs.declared.request.Request.TheVariants.{Write, Flush, WriteZeroes}
use Rattle.block_device.specs.declared.request.RequestStatus.TheVariants.{Success}
use Rattle.block_device.specs.Request.{code_of, request_of}

-- OUT, FLUSH and WRITE_ZEROES end by a flush of the image
abbrev pub ends_by_flush : Request → Bool
ends_by_flush (Write sector count) = true
ends_by_flush Flush = true
ends_by_flush (WriteZeroes segments) = true
ends_by_flush request = false

-- The chain's request ends by a flush, and its driver is told that it succeeded.
pub record IsCommitted (device : BlockDevice) (m : Memory) (served : Served Disk) : Type 0 where
  pub room : ℕ
  pub all : length (writable_of served.buffers) ≡ room + 1
  pub request : ends_by_flush (request_of device (readable_of m served.buffers) room) ≡ true
  pub front : List (Option ℕ)
  pub told : served.given.written ≡ front ++ Some (code_of Success) ∷ []

-- ---- a disk that the host serves

-- A disk's bytes as its host reads them, and as a stop at this moment would leave them on the medium.
pub record Medium : Type 0 where
  pub held : List ℕ
  pub left : List ℕ

-- an operation with its runs
pub record Asked : Type 0 where
  pub operation : Operation
  pub runs : List Segment

-- An operation with its runs, how it came out, and those that were in flight beside it: asked before it was
-- completed, and not completed before it was asked. One that a stop cuts short counts as failed.
pub record Completion : Type 0 where
  pub operation : Operation
  pub runs : List Segment
  pub verdict : Verdict
  pub beside : List Asked

-- the run has this byte
abbrev pub has_byte : ℕ → Segment → Bool
has_byte place run = nat_le run.addr place && nat_lt place (run.addr + run.len)

-- whether this byte of the disk is one that the operation writes
abbrev pub writes_by : OperationKind → Operation → List Segment → ℕ → Bool
writes_by kind.In operation runs place = false
writes_by kind.Out operation runs place =
    has_byte place (record { addr = operation.start; len = operation.len })
writes_by kind.Flush operation runs place = false
writes_by kind.Zeroes operation runs place = list_any (has_byte place) runs

abbrev pub writes_at : Completion → ℕ → Bool
writes_at done place = writes_by done.operation.kind done.operation done.runs place

-- whether one that was in flight beside it writes the byte, and whether either may have
abbrev pub beside_writes : Completion → ℕ → Bool
beside_writes done place =
    list_any (λ other. writes_by other.operation.kind other.operation other.runs place) done.beside

abbrev pub may_write : Completion → ℕ → Bool
may_write done place = writes_at done place || beside_writes done place

-- Whether the host says by this completion that a byte is on the medium: by a FLUSH that was done of each, by
-- a stable write that was done of each that it writes. It speaks of no byte that was being written beside it.
abbrev pub lasts_by : Verdict → OperationKind → Bool → Bool → Bool
lasts_by verdict.Failed what stable writes = false
lasts_by verdict.Done kind.Flush stable writes = true
lasts_by verdict.Done kind.In stable writes = false
lasts_by verdict.Done kind.Out stable writes = stable && writes
lasts_by verdict.Done kind.Zeroes stable writes = stable && writes

abbrev pub must_last : Completion → ℕ → Bool
must_last done place =
    lasts_by done.verdict done.operation.kind done.operation.stable (writes_at done place)
    && not (beside_writes done place)

-- The host keeps its word: what it says is on the medium is there. A byte that isn't written is read as
-- before, and a stop leaves what it would have left, or what is read.
pub record KeepsWord (done : Completion) (old new : Medium) : Type 0 where
  pub held : (place : ℕ) → may_write done place ≡ false → slice_get new.held place ≡ slice_get old.held place
  pub left :
      (place : ℕ) → may_write done place ≡ false
      → (slice_get new.left place ≡ slice_get old.left place)
      ⊎ (slice_get new.left place ≡ slice_get new.held place)
  pub lasts : (place : ℕ) → must_last done place ≡ true → slice_get new.left place ≡ slice_get new.held place

-- with each of these completions
abbrev pub KeepsWordIn : Medium → List Completion → Medium → Type 0
KeepsWordIn old [] new = new ≡ old
KeepsWordIn old (done ∷ later) new = (mid : Medium) × KeepsWord done old mid × KeepsWordIn mid later new

-- none of these writes this byte, nor does one that was in flight beside them
abbrev pub IsUnwritten : ℕ → List Completion → Type 0
IsUnwritten place [] = ⊤
IsUnwritten place (done ∷ later) = (may_write done place ≡ false) × IsUnwritten place later
