-- A slot: what its guest can see, and what the board keeps of it.
use Rattle.std.specs.Prelude.{◌≡◌, ℕ, ◌+◌, ◌||◌, Bool, false, nat_lt, List, [], length, ◌≤◌, Option, Some, None, slice_set}
use Rattle.std.specs.List.{slice_get}
use Rattle.guest_memory.specs.Faults.{zeroed_regions}
use Rattle.guest_memory.specs.Memory.{Memory, SameRange}
use Rattle.mmio_window.specs.declared.device_kind.DeviceKind.TheVariants.{Block, Console}
use Rattle.mmio_window.specs.Interrupts.{interrupt_bits}
use Rattle.mmio_window.specs.Soundness.{IsSound}
use Rattle.mmio_window.specs.Window.{WindowState, fresh_window}
use Rattle.device_list.specs.Device.{DeviceState}
use Rattle.device_list.specs.List.{AreSoundDevices, are_at_work}
use Rattle.device_list.specs.Model.{image_of}
use Rattle.sector_cache.specs.Disk.{Disk}
use Rattle.sector_cache.specs.Sector.{extent_of}
use Rattle.block_device.specs.declared.device.BlockDevice.{BlockDevice}
use Rattle.block_device.specs.declared.extent.Extent.{Extent}
use Rattle.block_device.specs.Config.{block_features}
use Rattle.block_device.specs.Extent.{SameOutside, StaysInExtent}
use Rattle.block_device.specs.Tags.{is_any}
use Rattle.console_device.specs.Config.{console_features}
use Rattle.hosted_disk.specs.Disk.{HostedDisk, fresh_disk}
use Rattle.board.specs.declared.spec.Backing.{Backing}
use Rattle.board.specs.declared.spec.Backing.TheVariants.{Image, Host}
use Rattle.board.specs.declared.spec.SlotSpec.{SlotSpec}
use Rattle.board.specs.Backing.{OwnDisk, sectors_by, tags_in}
use Rattle.board.specs.Image.{sectors_of}

-- All that one guest can see: its memory, the bytes of its extent of the image, the spare sectors behind that, which its
-- further disks over the image have, how many there are and their bytes, the disk that the host
-- serves it in place of one of the image, whether its block device refuses writes and what its identity is,
-- the windows of its two devices, and of its console what was typed and is still pending, and the size, and its
-- further devices. Where the host serves its disk the extent is empty: the bytes are the host's.
pub record SlotState : Type 0 where
  pub memory : Memory
  pub extent : List ℕ
  pub spare : ℕ
  pub spare_bytes : List ℕ
  pub host : Option HostedDisk
  pub read_only : Bool
  pub identity : List ℕ
  pub block : WindowState
  pub console : WindowState
  pub pending : List ℕ
  pub cols : ℕ
  pub rows : ℕ
  pub devices : List DeviceState

-- A slot as the board keeps it. The bytes of its extent stand in the image, which all slots share. The
-- board notes whether an event of the slot has ever met a refusal, which the guest isn't told.
pub record BoardSlot : Type 0 where
  pub memory : Memory
  pub extent : Extent
  pub spare : ℕ
  pub host : Option HostedDisk
  pub read_only : Bool
  pub identity : List ℕ
  pub block : WindowState
  pub console : WindowState
  pub pending : List ℕ
  pub cols : ℕ
  pub rows : ℕ
  pub devices : List DeviceState
  pub disturbed : Bool

-- where a slot's spare sectors begin, and all that it has of the image
abbrev pub spare_start : BoardSlot → ℕ
spare_start slot = slot.extent.start + slot.extent.count

abbrev pub whole_extent : BoardSlot → Extent
whole_extent slot = record { start = slot.extent.start; count = slot.extent.count + slot.spare }

-- what the slot's guest can see where the image has these bytes
abbrev pub state_of : List ℕ → BoardSlot → SlotState
state_of bytes slot = record {
  memory = slot.memory;
  extent = extent_of bytes slot.extent.start slot.extent.count;
  spare = slot.spare;
  spare_bytes = extent_of bytes (spare_start slot) slot.spare;
  host = slot.host;
  read_only = slot.read_only;
  identity = slot.identity;
  block = slot.block;
  console = slot.console;
  pending = slot.pending;
  cols = slot.cols;
  rows = slot.rows;
  devices = slot.devices;
}

-- how many sectors a guest's disk has, and a slot's
abbrev pub disk_sectors : SlotState → ℕ
disk_sectors state = sectors_by state.host (sectors_of state.extent)

abbrev pub sectors_in : BoardSlot → ℕ
sectors_in slot = sectors_by slot.host slot.extent.count

-- whether anything is in flight of any disk of a slot
abbrev pub is_at_work : BoardSlot → Bool
is_at_work slot = is_any (tags_in slot.host) || are_at_work slot.devices

-- what the slot has of the image lies where it did
abbrev pub KeepsPlace : BoardSlot → BoardSlot → Type 0
KeepsPlace old new = (new.extent ≡ old.extent) × (new.spare ≡ old.spare)

-- An event of a slot stays in it: of the image it reaches what the slot has of it, which lies where it did.
pub record StaysInSlot (old new : BoardSlot) (before after : Disk) : Type 0 where
  pub place : KeepsPlace old new
  pub image : StaysInExtent (whole_extent old) before after

-- the same of one whose refusal is to be noted: this is whether a call of the image failed
pub record IsUnnoted (old new : BoardSlot) (before after : Disk) (failed : Bool) : Type 0 where
  pub stays : StaysInSlot old new before after
  pub disturbed : new.disturbed ≡ old.disturbed
  pub counted : failed ≡ nat_lt before.failures after.failures

-- All that a block request doesn't reach stays: what is beside the memory, the disk's bytes and the block
-- device's window, where the memory lies and how large it is, and how many bytes the disk has.
pub record KeepsBesideDisk (old new : SlotState) : Type 0 where
  pub rest : new ≡ record old { memory = new.memory; extent = new.extent; block = new.block }
  pub memory : SameRange old.memory new.memory
  pub extent : length new.extent ≡ length old.extent

-- All that a request of a further disk over the image doesn't reach stays: what is beside the memory, the disk's sectors and
-- its window, and where the memory lies and how large it is.
pub record KeepsBesideFurtherDisk (old new : SlotState) : Type 0 where
  pub number : ℕ
  pub before : DeviceState
  pub after : DeviceState
  pub disk : BlockDevice
  pub there : slice_get old.devices number ≡ Some before
  pub is_disk : image_of before.model ≡ Some disk
  pub model : after.model ≡ before.model
  pub rest :
      new
      ≡ record old {
        memory = new.memory;
        spare_bytes = new.spare_bytes;
        devices = slice_set old.devices number after;
      }
  pub outside : SameOutside disk.extent old.spare_bytes new.spare_bytes
  pub memory : SameRange old.memory new.memory

-- All that a transmit doesn't reach stays: what is beside the memory and the console's window, and where the
-- memory lies and how large it is.
pub record KeepsBesideTransmit (old new : SlotState) : Type 0 where
  pub rest : new ≡ record old { memory = new.memory; console = new.console }
  pub memory : SameRange old.memory new.memory

-- Each window is that of its device, of its kind and offering what it offers. The block device's has
-- ConfigGeneration 0, as its configuration never changes (2.5). Both are sound for the memory: their ready
-- queues lie in it. No more input is pending than may be. And its further devices are sound for the memory.
pub record IsSoundSlot (memory : Memory) (read_only : Bool) (block console : WindowState)
    (pending : List ℕ) (devices : List DeviceState) : Type 0 where
  pub block_kind : block.kind ≡ Block
  pub block_offers : block.negotiation.offered ≡ block_features read_only
  pub block_generation : block.config_generation ≡ 0
  pub console_kind : console.kind ≡ Console
  pub console_offers : console.negotiation.offered ≡ console_features
  pub block_sound : IsSound memory block
  pub console_sound : IsSound memory console
  pub pending_fits : length pending ≤ 4096
  pub devices_sound : AreSoundDevices memory devices

-- The extent of the image that a slot has: none where the host serves its disk.
abbrev pub extent_by : Backing → Extent → Extent
extent_by Image extent = extent
extent_by (Host depth) extent = record { start = 0; count = 0 }

-- and how many spare sectors behind it
abbrev pub spare_by : Backing → ℕ → ℕ
spare_by Image spare = spare
spare_by (Host depth) spare = 0

-- the disk that the host serves it, which has as many sectors as the extent counts, with every tag free
abbrev pub host_by : Backing → SlotSpec → Option HostedDisk
host_by Image spec = None
host_by (Host depth) spec = Some (fresh_disk spec.extent.count spec.read_only spec.identity depth)

-- its own disk, as it is opened
abbrev pub opened_disk : SlotSpec → OwnDisk
opened_disk spec = record {
  extent = extent_by spec.backing spec.extent;
  host = host_by spec.backing spec;
  read_only = spec.read_only;
  identity = spec.identity;
}

-- a slot of a new board: its memory is all zeros, its windows are as after a reset, nothing is pending or met
-- a refusal yet, it has no further device, and the rest is as it was asked for
abbrev pub opened : SlotSpec → BoardSlot
opened spec = record {
  memory = zeroed_regions spec.regions;
  extent = extent_by spec.backing spec.extent;
  spare = spare_by spec.backing spec.spare;
  host = host_by spec.backing spec;
  read_only = spec.read_only;
  identity = spec.identity;
  block = fresh_window Block (block_features spec.read_only) 0;
  console = fresh_window Console console_features 0;
  pending = [];
  cols = spec.cols;
  rows = spec.rows;
  devices = [];
  disturbed = false;
}

-- Both interrupt words have no bits but the two that a device may set: a used buffer, and a change of
-- configuration (4.2.2).
pub record AreInterruptWords (block_irq console_irq : ℕ) : Type 0 where
  pub block : block_irq ≤ 3
  pub console : console_irq ≤ 3

-- InterruptStatus of a slot's two windows (4.2.2), the block device's before the console's
abbrev pub interrupt_words : BoardSlot → ℕ × ℕ
interrupt_words slot = (interrupt_bits slot.block.interrupts, interrupt_bits slot.console.interrupts)
