-- A chain that is answered at once, since its request asks nothing of the disk: what it is given was stored byte by byte.
use Rattle.std.specs.Prelude.{◌≡◌, ℕ, Bool, true, Option, List, length, take, ◌<◌}
use Rattle.chain.specs.declared.segment.Buffer.{Buffer}
use Rattle.chain.specs.Bytes.{writable_of}
use Rattle.chain.specs.Service.{Entry, used_len, wrote}
use Rattle.sector_cache.specs.Disk.{Disk}
use Rattle.shared_memory.specs.Sightings.{Sightings}
use Rattle.block_device.specs.declared.device.BlockDevice.{BlockDevice}
use Rattle.block_device.specs.declared.request.Request.{Request}
use Rattle.block_device.specs.declared.request.RequestStatus.{RequestStatus}
use Rattle.block_device.specs.Asking.{EndsUnasked}
use Rattle.block_device.specs.Hosting.{hosted_device}
use Rattle.chain_handler.specs.Device.{Part, StoresParts}
use Rattle.racing_service.specs.Queue.{RacingKind}
use Rattle.shared_memory.specs.Bytes.{StoresEach}

-- The request asks nothing of the disk, and whatever that is, it ends with this status, and with these bytes in the first
-- writable places.
pub record IsAnswer (device : BlockDevice) (request : Request) (found : List ℕ) (status : RequestStatus) : Type 0 where
  pub ends : (payload : List ℕ) (disk : Disk)
      → EndsUnasked device.identity request payload disk (record { disk = disk; found = found; status = status })

-- The device writes this in the chain of these buffers, whose readable bytes are these, as `DoesRaced` says: it is stored part
-- after part.
pub record IsAnswered (device : BlockDevice) (races : Bool) (old new : Sightings) (readable : List ℕ) (buffers : List Buffer)
    (len : ℕ) : Type 0 where
  pub written : List (Option ℕ)
  pub gives : (hosted_device device).Gives tt readable (length (writable_of buffers))
      (record { state = tt; written = written })
  pub each : length written ≡ length (writable_of buffers)
  pub parts : List Part
  pub stores : StoresParts races old parts new (writable_of buffers) written
  pub len_is : len ≡ used_len written
  pub any_is : true ≡ wrote written

module _ {Ring : Type 0} (queues : RacingKind Ring) where
  -- and its used entry was stored behind that
  pub record IsAnsweredIn (device : BlockDevice) (races : Bool) (old new : Sightings) (readable : List ℕ) (buffers : List Buffer)
      (entry : Entry) (len : ℕ) (before after : Ring) : Type 0 where
    pub done : Sightings
    pub answered : IsAnswered device races old done readable buffers len
    pub given : queues.IsGiven races done new before entry len true
    pub past : after ≡ queues.still.past before entry

-- what the request finds was stored in the first places, and room is left for the status
pub record HasFound (device : BlockDevice) (races : Bool) (old new : Sightings) (buffers : List Buffer) (request : Request)
    (len : ℕ) (status : RequestStatus) : Type 0 where
  pub found : List ℕ
  pub answer : IsAnswer device request found status
  pub len_is : len ≡ length found
  pub fits : len < length (writable_of buffers)
  pub stored : StoresEach races old new (take len (writable_of buffers)) found
