-- The snapshot of a slot, and what a slot becomes that takes one up.
use Rattle.std.specs.Prelude.{◌≡◌, ◌≤◌, ◌++◌, ◌==◌, ℕ, true, All, IsSome, None, Option, Some, List, [], ◌∷◌, drop, if◌then◌else◌, length}
use Rattle.std.specs.List.{AllZip}
use Rattle.std.specs.Option.{option_and_then, option_map}
use Rattle.guest_memory.specs.Memory.{Memory, SameRange}
use Rattle.block_device.specs.Config.{block_features}
use Rattle.mmio_window.specs.declared.device_kind.DeviceKind.TheVariants.{Block, Console}
use Rattle.mmio_window.specs.declared.saved.SavedWindow.{SavedWindow}
use Rattle.mmio_window.specs.Saved.{saved_window, window_restored}
use Rattle.mmio_window.specs.Window.{WindowState}
use Rattle.device_list.specs.Device.{DeviceState}
use Rattle.device_list.specs.Model.{features_of, kind_of}
use Rattle.device_list.specs.Saved.{RestoresEach, SuitDevices, devices_restored, identity_of, mac_of, mtu_of, saved_devices, sectors_of}
use Rattle.device_list.specs.Waiting.{AreOfTypes, refilled_devices, waiting_of, with_waiting_of_each}
use Rattle.snapshot.specs.declared.saved.SavedDevice.{SavedDevice}
use Rattle.snapshot.specs.declared.saved.SavedSlot.{SavedSlot}
use Rattle.snapshot.specs.Faults.{IsFirstFault}
use Rattle.snapshot.specs.Spelling.{IsSnapshot, snapshot}
use Rattle.console_device.specs.Config.{console_features}
use Rattle.board.specs.declared.saved.RestoreFault.{RestoreFault}
use Rattle.board.specs.declared.saved.RestoreFault.TheVariants.{Snapshot, OtherSlot, BadDevice, BadBlock, BadConsole, BadDeviceWindow, BadWaiting}
use Rattle.board.specs.Backing.{held_disk, is_held}
use Rattle.board.specs.Slot.{BoardSlot, sectors_in}

-- ---- what is saved

-- what a slot keeps, as plain numbers
abbrev pub saved_slot : BoardSlot → SavedSlot
saved_slot slot = record {
  base = slot.memory.base;
  len = length slot.memory.bytes;
  sectors = sectors_in slot;
  read_only = slot.read_only;
  identity = slot.identity;
  block = saved_window slot.block;
  console = saved_window slot.console;
  cols = slot.cols;
  rows = slot.rows;
  on_hold = is_held slot.host;
  devices = record { items = saved_devices slot.devices };
}

-- the bytes of a slot's snapshot
abbrev pub snapshot_of : BoardSlot → List ℕ
snapshot_of slot = snapshot (saved_slot slot) slot.pending (waiting_of slot.devices)

-- The block device's window as it was saved, over this memory. Of another ConfigGeneration than 0 there is none
-- either: a disk's configuration never changes (2.5).
abbrev pub block_restored : Memory → SavedWindow → Option WindowState
block_restored m saved = if saved.config_generation == 0 then window_restored Block m saved else None

-- the console's
abbrev pub console_restored : Memory → SavedWindow → Option WindowState
console_restored m saved = window_restored Console m saved

-- over every memory of this range what is saved of the window gives it back
abbrev pub RestoresIt : (Memory → SavedWindow → Option WindowState) → Memory → WindowState → Type 0
RestoresIt restored old w = (m : Memory) → SameRange old m → restored m (saved_window w) ≡ Some w

-- a further device offers what devices of its type do
abbrev pub IsOffering : DeviceState → Type 0
IsOffering d = d.window.negotiation.offered ≡ features_of d.model

-- the slot's devices offer what devices of their kind do
pub record OffersFeatures (slot : BoardSlot) : Type 0 where
  pub block : slot.block.negotiation.offered ≡ block_features slot.read_only
  pub console : slot.console.negotiation.offered ≡ console_features
  pub devices : All IsOffering slot.devices

-- what waits in these devices is taken again by all others of their types
abbrev pub IsTakenAgain : List DeviceState → Type 0
IsTakenAgain devices =
    (others : List DeviceState) → AreOfTypes devices others
    → refilled_devices (waiting_of devices) others ≡ Some (with_waiting_of_each devices others)

-- The bytes are the snapshot of a slot that stands so on a board: they are spelled so, its windows are those
-- of its devices, and they are restored over each memory of its memory's range, with what waits in its further devices.
pub record IsSnapshotOf (bytes : List ℕ) (slot : BoardSlot) : Type 0 where
  pub spelled : IsSnapshot bytes (saved_slot slot) slot.pending (waiting_of slot.devices)
  pub offers : OffersFeatures slot
  pub block : RestoresIt block_restored slot.memory slot.block
  pub console : RestoresIt console_restored slot.memory slot.console
  pub devices : (m : Memory) → SameRange slot.memory m → RestoresEach m slot.devices
  pub waiting : IsTakenAgain slot.devices

-- A buffer that held these bytes holds the slot's snapshot at its front, which has so many. The others stay.
pub record IsSavedTo (slot : BoardSlot) (old new : List ℕ) (len : ℕ) : Type 0 where
  pub snapshot : IsSnapshotOf (snapshot_of slot) slot
  pub len_is : len ≡ length (snapshot_of slot)
  pub room : len ≤ length old
  pub text : new ≡ snapshot_of slot ++ drop len old

-- ---- what takes it up

-- The slot is of the description that was saved, but for its further devices: its memory begins and ends at the same
-- addresses, its disk has as many sectors, the same mode and the same identity, and its block device and its console
-- offer the same features. One that was on hold has its disk from the host again, since no other is ever released.
pub record SuitsBesideDevices (saved : SavedSlot) (slot : BoardSlot) : Type 0 where
  pub base : saved.base ≡ slot.memory.base
  pub len : saved.len ≡ length slot.memory.bytes
  pub sectors : saved.sectors ≡ sectors_in slot
  pub read_only : saved.read_only ≡ slot.read_only
  pub identity : saved.identity ≡ slot.identity
  pub block : saved.block.negotiation.offered ≡ slot.block.negotiation.offered
  pub console : saved.console.negotiation.offered ≡ slot.console.negotiation.offered
  pub on_hold : saved.on_hold ≡ true → IsSome slot.host

-- The slot is of the description that was saved: it also has as many further devices, each of the same type, address,
-- MTU, sectors, identity and features.
pub record Suits (saved : SavedSlot) (slot : BoardSlot) : Type 0 where
  pub beside : SuitsBesideDevices saved slot
  pub devices : SuitDevices saved.devices.items slot.devices

-- the further devices with their windows as they were saved, and with what waited in them
abbrev pub devices_taken_up : Memory → List SavedDevice → Option (List ℕ) → List DeviceState
    → Option (List DeviceState)
devices_taken_up m saved waiting devices =
    option_and_then (refilled_devices waiting) (devices_restored m saved devices)

-- The slot has taken up what was saved: all windows, the pending input, the size, whether it is on hold, and what waited
-- in the further devices. The memory stays, and the disk with its mode and identity, and whether an event of the slot has
-- met a refusal.
pub record TakesUp (old : BoardSlot) (saved : SavedSlot) (pending : List ℕ) (waiting : Option (List ℕ)) (new : BoardSlot)
    : Type 0 where
  pub suits : Suits saved old
  pub block : block_restored old.memory saved.block ≡ Some new.block
  pub console : console_restored old.memory saved.console ≡ Some new.console
  pub devices : devices_taken_up old.memory saved.devices.items waiting old.devices ≡ Some new.devices
  pub is :
      new
      ≡ record old {
        block = new.block;
        console = new.console;
        pending = pending;
        cols = saved.cols;
        rows = saved.rows;
        host = option_map (held_disk saved.on_hold) old.host;
        devices = new.devices;
      }

-- The slot has taken up the snapshot that these bytes are.
pub record IsRestored (old : BoardSlot) (bytes : List ℕ) (new : BoardSlot) : Type 0 where
  pub saved : SavedSlot
  pub pending : List ℕ
  pub waiting : Option (List ℕ)
  pub read : IsSnapshot bytes saved pending waiting
  pub takes_up : TakesUp old saved pending waiting new

-- The one cause for which a slot doesn't take up what was saved: it is of another description; else its further devices
-- are others; else its block window can't stand so; else its console window can't; else a further device's can't; else
-- what waits in a further device can't be so.
abbrev pub Prevents : BoardSlot → SavedSlot → Option (List ℕ) → RestoreFault → Type 0
Prevents slot saved waiting (Snapshot fault) = ⊥
Prevents slot saved waiting OtherSlot = ¬ SuitsBesideDevices saved slot
Prevents slot saved waiting BadDevice = SuitsBesideDevices saved slot × (¬ SuitDevices saved.devices.items slot.devices)
Prevents slot saved waiting BadBlock = Suits saved slot × (block_restored slot.memory saved.block ≡ None)
Prevents slot saved waiting BadConsole =
    Suits saved slot × (IsSome (block_restored slot.memory saved.block)
    × (console_restored slot.memory saved.console ≡ None))
Prevents slot saved waiting BadDeviceWindow =
    Suits saved slot × (IsSome (block_restored slot.memory saved.block)
    × (IsSome (console_restored slot.memory saved.console)
    × (devices_restored slot.memory saved.devices.items slot.devices ≡ None)))
Prevents slot saved waiting BadWaiting =
    Suits saved slot × (IsSome (block_restored slot.memory saved.block)
    × (IsSome (console_restored slot.memory saved.console)
    × (IsSome (devices_restored slot.memory saved.devices.items slot.devices)
    × (devices_taken_up slot.memory saved.devices.items waiting slot.devices ≡ None))))

-- The bytes are a snapshot, and this is why the slot doesn't take up what was saved.
pub record IsPrevented (slot : BoardSlot) (bytes : List ℕ) (why : RestoreFault) : Type 0 where
  pub saved : SavedSlot
  pub pending : List ℕ
  pub waiting : Option (List ℕ)
  pub read : IsSnapshot bytes saved pending waiting
  pub prevents : Prevents slot saved waiting why

-- the one cause for which a slot doesn't take up these bytes: they are no snapshot, and this is their first
-- fault, or what was saved prevents it
abbrev pub IsCauseOf : BoardSlot → List ℕ → RestoreFault → Type 0
IsCauseOf slot bytes (Snapshot fault) = IsFirstFault bytes fault
IsCauseOf slot bytes why = IsPrevented slot bytes why

-- ---- the round trip

-- Both devices have one description: one type, one address and one MTU, as many sectors, one identity, and one set of
-- features.
pub record IsLikeDevice (d other : DeviceState) : Type 0 where
  pub kind : kind_of other.model ≡ kind_of d.model
  pub mac : mac_of other.model ≡ mac_of d.model
  pub mtu : mtu_of other.model ≡ mtu_of d.model
  pub sectors : sectors_of other.model ≡ sectors_of d.model
  pub identity : identity_of other.model ≡ identity_of d.model
  pub features : features_of other.model ≡ features_of d.model

-- Both slots have one description: memories of one range, disks of one size, mode and identity, and as many further
-- devices, each like the other. Of one on hold the other has its disk from the host.
pub record IsLike (slot other : BoardSlot) : Type 0 where
  pub memory : SameRange slot.memory other.memory
  pub sectors : sectors_in other ≡ sectors_in slot
  pub read_only : other.read_only ≡ slot.read_only
  pub identity : other.identity ≡ slot.identity
  pub devices : AllZip IsLikeDevice slot.devices other.devices
  pub on_hold : is_held slot.host ≡ true → IsSome other.host

-- the second devices, each with the window of the first one in its place
abbrev pub with_windows_of : List DeviceState → List DeviceState → List DeviceState
with_windows_of [] es = es
with_windows_of (d ∷ ds) [] = []
with_windows_of (d ∷ ds) (e ∷ es) = record e { window = d.window } ∷ with_windows_of ds es

-- the second devices as the first ones were: each has the window of the one in its place, and what waited in it
abbrev pub as_devices : List DeviceState → List DeviceState → List DeviceState
as_devices ds es = with_waiting_of_each ds (with_windows_of ds es)

-- the slot is as that one was, but for the memory's bytes, who has its disk, where it lies and what is in flight of it, who has
-- its further disks and what is in flight of them, and whether an event of it has met a refusal: those are its own
abbrev pub IsAs : BoardSlot → BoardSlot → BoardSlot → Type 0
IsAs slot old new =
    new
    ≡ record slot {
      memory = old.memory;
      extent = old.extent;
      spare = old.spare;
      host = option_map (held_disk (is_held slot.host)) old.host;
      devices = as_devices slot.devices old.devices;
      disturbed = old.disturbed;
    }
