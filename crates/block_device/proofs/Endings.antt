-- A request that puts nothing in the writable places, but for its status.
use Rattle.std.proofs.Common.{◌≡◌, ℕ, ◌+◌, ◌∙◌, if◌then◌else◌, List, [], refl, sym, ap, arith}
use Rattle.std.specs.Prelude.{OnErr, OnOk, Result, Err, Ok}
use Rattle.guest_memory.specs.Memory.{Memory}
use Rattle.chain.specs.declared.segment.Buffer.{Buffer}
use Rattle.chain.specs.Bytes.{readable_of, writable_of}
use Rattle.chain.proofs.Partial.{scattered-nil}
use Rattle.sector_cache.specs.Disk.{Disk, failed, flushed}
use Rattle.block_device.specs.declared.device.BlockDevice.{BlockDevice}
use Rattle.block_device.specs.declared.request.RequestStatus.{RequestStatus}
use Rattle.block_device.specs.declared.request.RequestStatus.TheVariants.{IoError, Success}
use Rattle.block_device.specs.declared.request.Request.{Request}
use Rattle.block_device.specs.Extent.{KeepsOutside, extent_disk}
use Rattle.block_device.specs.Request.{is_io_error, payload_of, status_of}
use Rattle.block_device.specs.Outcome.{Ends}
use Rattle.block_device.specs.Progress.{IsDone, IsWritten}
use Rattle.block_device.proofs.Extents.{KeepsOutside-same, outside_trans}

pub nothing_found : {identity : List ℕ} (request : Request) (buffers : List Buffer) (m : Memory)
    (disk disk' : Disk) (status : RequestStatus)
    → Ends identity request (payload_of (readable_of m buffers)) disk
    (record { disk = disk'; found = []; status = status })
    → IsDone identity request buffers m m disk disk' 0 status
nothing_found request buffers m disk disk' status ends = record {
  found = [];
  ends = ends;
  len_is = refl;
  memory = sym (scattered-nil m (writable_of buffers));
}

-- All that it writes is written, and seen so; the flush is left.
module _ (device : BlockDevice) (request : Request) (buffers : List Buffer) (m : Memory) (disk d seen : Disk)
    (is : extent_disk device.extent d ≡ seen) (no_failure : d.failures ≡ disk.failures)
    (outside : KeepsOutside device.extent disk d) where
  abbrev EndsAt : Disk → RequestStatus → Type 0
  EndsAt last status =
      Ends device.identity request (payload_of (readable_of m buffers)) (extent_disk device.extent disk)
      (record { disk = last; found = []; status = status })

  ends_at : (disk' last : Disk) (status : RequestStatus) → extent_disk device.extent disk' ≡ last
      → disk'.contents ≡ d.contents → disk'.sector_count ≡ d.sector_count
      → disk'.failures ≡ disk.failures + (if is_io_error status then 1 else 0) → EndsAt last status
      → IsWritten device request buffers m status disk disk'
  ends_at disk' last status shows contents sectors counted ends = record {
    done = nothing_found request buffers m (extent_disk device.extent disk) (extent_disk device.extent disk')
        status (rw shows ends);
    calls = record {
      counted = counted;
      outside = outside_trans device.extent disk d disk' outside
          (KeepsOutside-same device.extent d disk' contents sectors);
    };
  }

  -- It ends by how the flush came out.
  pub flush_ends : {E : Type 0} (disk' : Disk) (result : Result (Unit {0}) E)
      → OnOk result (disk' ≡ flushed d) → OnErr result (disk' ≡ failed d)
      → EndsAt (flushed seen) Success → EndsAt (failed seen) IoError
      → IsWritten device request buffers m (status_of result) disk disk'
  flush_ends disk' (Ok done) ok err whole stops =
      rw ok (ends_at (flushed d) (flushed seen) Success (ap flushed is) refl refl (no_failure ∙ omega arith)
      whole)
  flush_ends disk' (Err error) ok err whole stops =
      rw err (ends_at (failed d) (failed seen) IoError (ap failed is) refl refl (ap (λ n. n + 1) no_failure)
      stops)
