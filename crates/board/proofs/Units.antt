-- A disk that the host serves with its window: what is said of the one is said of the other.
use Rattle.std.proofs.Common.{◌≡◌, ℕ, Option, Some, None, get_or, refl, sym, ap, ◌∙◌}
use Rattle.std.specs.List.{slice_get}
use Rattle.std.specs.Option.{option_and_then, option_map}
use Rattle.std.proofs.lemmas.Option.{same_Some}
use Rattle.mmio_window.specs.Window.{WindowState}
use Rattle.block_device.specs.Flights.{InFlight}
use Rattle.hosted_disk.specs.Disk.{HostedDisk}
use Rattle.device_list.specs.Device.{DeviceState}
use Rattle.device_list.specs.Model.{disk_of}
use Rattle.board.specs.Backing.{tags_in}
use Rattle.board.specs.Slot.{SlotState}
use Rattle.board.specs.Units.{DiskUnit, Further, Own, SlotDisk, disk_for, in_flight_of, unit_at, unit_of}

-- a disk behind this window
abbrev pub behind_window : WindowState → HostedDisk → DiskUnit
behind_window window disk = record { window = window; disk = disk }

-- ---- the disk of a unit that is there

disk_behind : (window : WindowState) (found : Option HostedDisk) (unit : DiskUnit)
    → option_map (behind_window window) found ≡ Some unit → found ≡ Some unit.disk
disk_behind window None unit is = absurd (cc is)
disk_behind window (Some disk) unit is =
    ap (λ (u : DiskUnit). Some u.disk) (same_Some (behind_window window disk) unit is)

disk_found : (found : Option DeviceState) (unit : DiskUnit) → option_and_then unit_of found ≡ Some unit
    → option_and_then (λ (d : DeviceState). disk_of d.model) found ≡ Some unit.disk
disk_found None unit is = absurd (cc is)
disk_found (Some d) unit is = disk_behind d.window (disk_of d.model) unit is

pub disk_there : (disk : SlotDisk) (state : SlotState) (unit : DiskUnit) → unit_at disk state ≡ Some unit
    → disk_for disk state ≡ Some unit.disk
disk_there Own state unit is = disk_behind state.block state.host unit is
disk_there (Further n) state unit is = disk_found (slice_get state.devices n) unit is

-- what is in flight of it is what the disk has
pub unit_tags : (disk : SlotDisk) (state : SlotState) (unit : DiskUnit) → unit_at disk state ≡ Some unit
    → unit.disk.tags ≡ in_flight_of disk state
unit_tags disk state unit is = sym (ap tags_in (disk_there disk state unit is))

-- ---- the unit of a disk that is there

pub record IsFound (disk : SlotDisk) (state : SlotState) : Type 0 where
  pub unit : DiskUnit
  pub there : unit_at disk state ≡ Some unit

unit_there : (disk : SlotDisk) (state : SlotState) (served : HostedDisk) → disk_for disk state ≡ Some served
    → IsFound disk state
unit_there Own state served is = record {
  unit = behind_window state.block served;
  there = ap (option_map (behind_window state.block)) is;
}
unit_there (Further n) state served is = by_device (slice_get state.devices n) refl is
  where
    by_device : (found : Option DeviceState) → slice_get state.devices n ≡ found
        → option_and_then (λ (d : DeviceState). disk_of d.model) found ≡ Some served → IsFound (Further n) state
    by_device None was is = absurd (cc is)
    by_device (Some d) was is = record {
      unit = behind_window d.window served;
      there = ap (option_and_then unit_of) was ∙ ap (option_map (behind_window d.window)) is;
    }

-- where something is in flight of it, it is there
pub found : (disk : SlotDisk) (state : SlotState) (tag : ℕ) (here : InFlight)
    → get_or (in_flight_of disk state) tag None ≡ Some here → IsFound disk state
found disk state tag here taken = by_host (disk_for disk state) refl taken
  where
    by_host : (host : Option HostedDisk) → disk_for disk state ≡ host → get_or (tags_in host) tag None ≡ Some here
        → IsFound disk state
    by_host None is taken = absurd (cc taken)
    by_host (Some served) is taken = unit_there disk state served is
