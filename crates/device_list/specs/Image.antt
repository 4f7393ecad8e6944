-- A disk over the image among the further devices (5.2): some of the slot's spare sectors are its own.
use Rattle.std.specs.Prelude.{◌≡◌, ◌+◌, ◌<◌, ◌≤◌, ℕ, Option, Some, None, List}
use Rattle.guest_memory.specs.Memory.{Memory}
use Rattle.chain.specs.declared.budget.Budget.{Budget}
use Rattle.chain.specs.declared.budget.Progress.{Progress}
use Rattle.mmio_window.specs.declared.stage.Stage.{Stage}
use Rattle.mmio_window.specs.Pieces.{ServesTo}
use Rattle.mmio_window.specs.Window.{queue_at}
use Rattle.sector_cache.specs.Disk.{Disk}
use Rattle.block_device.specs.declared.device.BlockDevice.{BlockDevice}
use Rattle.block_device.specs.declared.extent.Extent.{Extent}
use Rattle.block_device.specs.Device.{block_device}
use Rattle.block_device.specs.Extent.{IsWithin, extent_disk}
use Rattle.device_list.specs.Device.{DeviceState}
use Rattle.device_list.specs.List.{At, IsNoneServed, image_at}

-- ---- which sectors it has

-- the extent has this sector
pub record HasSector (sector : ℕ) (extent : Extent) : Type 0 where
  pub begun : extent.start ≤ sector
  pub before_end : sector < extent.start + extent.count

-- Each disk over the image has a sector, and spare ones alone, and no two of them have one in common.
pub record HaveOwnSectors (spare : ℕ) (devices : List DeviceState) : Type 0 where
  pub some : (n : ℕ) (disk : BlockDevice) → image_at n devices ≡ Some disk → 0 < disk.extent.count
  pub lie : (n : ℕ) (disk : BlockDevice) → image_at n devices ≡ Some disk → IsWithin spare disk.extent
  pub apart : (sector n o : ℕ) (one other : BlockDevice) → image_at n devices ≡ Some one
      → image_at o devices ≡ Some other → HasSector sector one.extent → HasSector sector other.extent → n ≡ o

-- ---- its service

-- where an extent of the spare sectors lies in the image, of which the first spare sector is this one
abbrev pub moved : ℕ → Extent → Extent
moved base extent = record extent { start = base + extent.start }

-- the disk over the image, with its extent there
abbrev pub placed : ℕ → BlockDevice → BlockDevice
placed base image = record image { extent = moved base image.extent }

-- A piece of a service of the request queue of a device that is this disk: all of it but its window stays.
pub record ServesImageTo (stage : Stage) (budget : Budget) (progress : Progress) (image : BlockDevice) (disk disk' : Disk)
    (m m' : Memory) (d d' : DeviceState) : Type 0 where
  pub served : ServesTo stage (block_device image) budget 0 (queue_at 0 d.window) progress m m' d.window d'.window
      (extent_disk image.extent disk) (extent_disk image.extent disk')
  pub model : d'.model ≡ d.model

abbrev pub ServesIfImage : Option BlockDevice → Stage → Budget → Progress → (n base : ℕ) → Memory → Memory
    → List DeviceState → List DeviceState → Disk → Disk → Type 0
ServesIfImage None stage budget progress n base m m' old new disk disk' =
    IsNoneServed progress m m' old new × (disk' ≡ disk)
ServesIfImage (Some image) stage budget progress n base m m' old new disk disk' =
    At (ServesImageTo stage budget progress (placed base image) disk disk') n m m' old new

-- A piece of the service of device n's request queue, if it is a disk over the image, of which the first spare sector is
-- this one. Else nothing is served.
abbrev pub DevicesServeImageTo : Stage → Budget → Progress → (n base : ℕ) → Memory → Memory → List DeviceState
    → List DeviceState → Disk → Disk → Type 0
DevicesServeImageTo stage budget progress n base m m' old new disk disk' =
    ServesIfImage (image_at n old) stage budget progress n base m m' old new disk disk'
