-- What the chains of a service keep of an image, whatever they ask.
use Rattle.std.specs.Prelude.{◌≡◌, ℕ, Bool, ◌||◌, nat_lt, List}
use Rattle.sector_cache.specs.Disk.{Disk}
use Rattle.block_device.specs.declared.device.BlockDevice.{BlockDevice}
use Rattle.block_device.specs.Extent.{StaysInExtent, TouchesExtent}

-- The device is the same one, all outside of its extent stays, and the latch is set exactly where a call
-- failed.
pub record KeepsImage {I : Type 0} (disk : I → Disk) (moment : I → ℕ) (may_leave : I → List ℕ → Type 0)
    (left_since : I → ℕ → List ℕ → Type 0) (device device' : BlockDevice) (failed failed' : Bool)
    (old new : I) : Type 0 where
  pub same : device' ≡ device
  pub stays : StaysInExtent device.extent (disk old) (disk new)
  pub touches : TouchesExtent moment may_leave left_since device.extent old new
  pub counted : failed' ≡ (failed || nat_lt (disk old).failures (disk new).failures)
