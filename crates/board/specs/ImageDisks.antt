-- The further disks of a slot over its spare sectors of the image: what comes of a service of one.
use Rattle.std.specs.Prelude.{◌≡◌, ◌+◌, ℕ, zero, ◌<◌, nat_le, if◌then◌else◌, Option, Some, None, List, [], slice_set}
use Rattle.std.specs.List.{slice_get}
use Rattle.std.specs.Option.{option_and_then}
use Rattle.guest_memory.specs.Memory.{Memory}
use Rattle.chain.specs.Service.{Device}
use Rattle.mmio_window.specs.declared.queue.Queue.{Queue}
use Rattle.mmio_window.specs.Serving.{IsNotified}
use Rattle.mmio_window.specs.Window.{WindowState, queue_at}
use Rattle.sector_cache.specs.Disk.{Disk}
use Rattle.sector_cache.specs.Sector.{extent_of}
use Rattle.block_device.specs.declared.device.BlockDevice.{BlockDevice}
use Rattle.block_device.specs.Device.{block_device, exact_device}
use Rattle.block_device.specs.Extent.{SameOutside}
use Rattle.device_list.specs.Device.{DeviceState}
use Rattle.device_list.specs.List.{image_at}
use Rattle.board.specs.declared.event.DeviceEvent.{DeviceEvent}
use Rattle.board.specs.declared.pause.Service.{Service}
use Rattle.board.specs.declared.pause.Service.TheVariants.{Further}
use Rattle.hosted_disk.specs.Disk.{HostedDisk}
use Rattle.board.specs.Devices.{GivesDevice, IsUnmet, device_asks, devices_readied}
use Rattle.board.specs.Image.{Health, disk_with}
use Rattle.board.specs.Outcome.{Outcome, does}
use Rattle.board.specs.Slot.{BoardSlot, SlotState, state_of}

-- The disk over the image that is to serve its queue, if it lies in so many spare sectors. A slot whose own disk the host
-- serves has none.
abbrev pub image_disk_of : Option HostedDisk → ℕ → Option BlockDevice → Option BlockDevice
image_disk_of (Some host) spare found = None
image_disk_of None spare None = None
image_disk_of None spare (Some disk) = if nat_le (disk.extent.start + disk.extent.count) spare then Some disk else None

-- the disk over the image that serves its queue by this service, if one does: it has one queue (5.2.2)
abbrev pub image_served : Service → SlotState → Option BlockDevice
image_served (Further n zero) state = image_disk_of state.host state.spare (image_at n state.devices)
image_served service state = None

-- the same of a slot as the board keeps it
abbrev pub image_served_in : Service → BoardSlot → Option BlockDevice
image_served_in service slot = image_served service (state_of [] slot)

-- the disk over the image of which a service is asked by what is done to device n, if it is one
abbrev pub image_asked : {A : Type 0} → ℕ → DeviceEvent A → SlotState → Option BlockDevice
image_asked n what state = option_and_then (λ pause. image_served pause.service state) (device_asks n what state)

-- such a disk as its guest knows it: its sectors are all that there are
abbrev pub image_device : BlockDevice → BlockDevice
image_device disk = record disk { extent = record { start = 0; count = disk.extent.count } }

-- its bytes, of those of the spare sectors
abbrev pub bytes_in : BlockDevice → List ℕ → List ℕ
bytes_in disk spare_bytes = extent_of spare_bytes disk.extent.start disk.extent.count

-- Disk n over the image serves its queue so, over an image that holds its sectors and nothing else: its window, memory and
-- those sectors may change, and the rest of the slot stays, the other spare sectors too.
pub record ServesImageDisk (Serves : Option Queue → Memory → Memory → WindowState → WindowState → Disk → Disk → Type 0)
    (n : ℕ) (disk : BlockDevice) (old new : SlotState) (before after : Health) : Type 0 where
  pub device : DeviceState
  pub there : slice_get old.devices n ≡ Some device
  pub window : WindowState
  pub serves :
      Serves (queue_at 0 device.window) old.memory new.memory device.window window
      (disk_with (bytes_in disk old.spare_bytes) before) (disk_with (bytes_in disk new.spare_bytes) after)
  pub outside : SameOutside disk.extent old.spare_bytes new.spare_bytes
  pub is :
      new
      ≡ record old {
        memory = new.memory;
        spare_bytes = new.spare_bytes;
        devices = slice_set old.devices n (record device { window = window });
      }

-- It serves all that is on offer (5.2.6).
pub record IsImageDiskService {A : Type 0} (device : Device Disk) (n : ℕ) (disk : BlockDevice) (old : SlotState)
    (before after : Health) (outcome : Outcome A) : Type 0 where
  pub serves : ServesImageDisk (λ queue m m' w w' s t. IsNotified device 0 queue m m' w w' s t)
      n disk old outcome.state before after
  pub is : outcome ≡ does outcome.state

-- the slot as a device's service finds it
abbrev pub device_readied : {A : Type 0} → ℕ → DeviceEvent A → SlotState → SlotState
device_readied n what state = record state { devices = devices_readied n what state.memory state.devices }

-- what comes of what is done to device n, by the disk over the image that is asked for a service, if one is
abbrev pub GivesAtDevice : {A : Type 0} → Option BlockDevice → ℕ → DeviceEvent A → SlotState → Health → Health
    → Outcome A → Type 0
GivesAtDevice None n what state before after outcome = GivesDevice n what state before after outcome
GivesAtDevice (Some disk) n what state before after outcome =
    IsImageDiskService (exact_device (image_device disk)) n disk (device_readied n what state) before after outcome

-- Calls of the image failed: each request that met no failure is served as ever, and each that did is counted and ends in
-- one of the ways of a request that fails.
pub record IsFailedAtImage {A : Type 0} (n : ℕ) (disk : BlockDevice) (old : SlotState) (before after : Health)
    (outcome : Outcome A) : Type 0 where
  pub service : IsImageDiskService (block_device (image_device disk)) n disk old before after outcome
  pub failures : before.failures < after.failures

-- how it may be refused, for want of memory or by the image
abbrev pub IsRefusedAtDevice : {A : Type 0} → Option BlockDevice → ℕ → DeviceEvent A → SlotState → Health → Health
    → Outcome A → Type 0
IsRefusedAtDevice None n what state before after outcome = IsUnmet n what state before after outcome
IsRefusedAtDevice (Some disk) n what state before after outcome =
    IsFailedAtImage n disk (device_readied n what state) before after outcome
