-- A disk that the host serves (5.2) for a guest that may write its memory meanwhile: the block device as its driver knows
-- it, what is in flight of it, and whether its queue is on hold. The disk's bytes are the host's.
use Rattle.std.specs.Prelude.{ℕ, Bool, false, List, Option, None, All, replicate}
use Rattle.guest_memory.specs.Memory.{Memory}
use Rattle.chain.specs.Service.{Entry}
use Rattle.block_device.specs.declared.device.BlockDevice.{BlockDevice}
use Rattle.racing_service.specs.Flights.{AreAhead}
use Rattle.block_device.specs.Tags.{InFlight, TagIsHeld, tokens_of}

pub record RacingHostedDisk (T : Type 0) : Type 0 where
  pub device : BlockDevice
  pub tags : List (Option (InFlight T))
  pub on_hold : Bool

-- one of so many sectors, of which so many operations may be in flight: none is
abbrev pub fresh_disk : (T : Type 0) → ℕ → Bool → List ℕ → ℕ → RacingHostedDisk T
fresh_disk T sectors read_only identity depth = record {
  device = record {
    extent = record { start = 0; count = sectors };
    read_only = read_only;
    identity = identity;
  };
  tags = replicate depth None;
  on_hold = false;
}

-- What is in flight is held: nothing that the host is told lies outside the guest's memory or the disk, and each chain
-- lies between the next used entry and the next chain of the queue.
pub record HoldsFlights {Ring T : Type 0} (entry_of : T → Entry) (Fits : Ring → T → Type 0) (ahead_of : Ring → ℕ)
    (m : Memory) (queue : Ring) (disk : RacingHostedDisk T) : Type 0 where
  pub each : All (TagIsHeld disk.device.extent.count m) disk.tags
  pub ahead : AreAhead entry_of Fits ahead_of queue (tokens_of disk.tags)
