-- What a config describes, and what is judged of it before its guest is.
use Rattle.std.specs.Prelude.{ℕ, ◌==◌, ◌&&◌, ◌||◌, nat_le, not, if◌then◌else◌, Bool, false, List, [], ◌∷◌, Option, Some, None, is_none, map}
use Rattle.std.specs.Option.{option_map_or}
use Rattle.guest_bytes.specs.declared.word_loan.WordLoan.{WordLoan}
use Rattle.c_values.specs.declared.slot.Device.{Device}
use Rattle.c_values.specs.declared.slot.Slot.{Slot}
use Rattle.c_values.specs.Limits.{budget_by}
use Rattle.c_values.specs.Slot.{depth_of, regions_of, slot_size}
use Rattle.racing_hosted_disk.specs.declared.look.LookLimits.{LookLimits}
use Rattle.racing_guest.specs.declared.spec.GuestSpec.{GuestSpec}
use Rattle.device_list.specs.declared.spec.DeviceSpec.{DeviceSpec}
use Rattle.device_list.specs.Device.{fresh_device}
use Rattle.racing_session.specs.declared.spec.RacingSpec.{RacingSpec}
use Rattle.racing_session.specs.Devices.{with_devices}
use Rattle.racing_session.specs.Session.{RacingSession, new_session}
use Rattle.racing_ffi.specs.declared.config.GuestConfig.{GuestConfig}

-- the guest's devices
abbrev pub guest_of : Slot → GuestSpec
guest_of slot = record {
  sectors = slot.count;
  read_only = slot.read_only;
  identity = slot.identity;
  depth = depth_of slot.depth;
  cols = slot.cols;
  rows = slot.rows;
}

-- how much one service may do
abbrev pub limits_of : GuestConfig → LookLimits
limits_of config = record {
  budget = budget_by config.chains config.bytes;
  rounds = 16;
  looks = 65;
}

-- what a session is made of
abbrev pub spec_by : Slot → LookLimits → RacingSpec
spec_by slot limits = record {
  regions = regions_of slot.regions;
  guest = guest_of slot;
  outlet = slot.outlet;
  limits = limits;
}

abbrev pub spec_of : GuestConfig → RacingSpec
spec_of config = spec_by config.slot.now (limits_of config)

-- the words of each loan
abbrev pub lent_words : List WordLoan → List (List (Unit {0}))
lent_words loans = map (λ loan. loan.items) loans

-- how many bytes a config has that this version describes
abbrev pub config_size : ℕ
config_size = 48

-- ---- further devices

-- One by its type (VIRTIO 1.2, 5): 1 is a network card, 3 a console, and 4 an entropy device. A guest that runs on has none of
-- another type, and no card whose MTU is below 68.
abbrev pub device_of : Device → Option DeviceSpec
device_of device =
    if device.kind == 4 then Some DeviceSpec.Entropy
    else if device.kind == 3 then Some (DeviceSpec.Console device.cols device.rows)
    else if device.kind == 1 && nat_le 68 device.mtu then Some (DeviceSpec.Network device.mac device.mtu)
    else None

-- those that are described: they stand before the first of no kind
abbrev pub devices_of : List Device → List DeviceSpec
devices_of [] = []
devices_of (device ∷ others) = option_map_or (λ spec. spec ∷ devices_of others) (device_of device) []

-- whether one before the first of no kind is none that such a guest may have
abbrev pub have_bad_device : List Device → Bool
have_bad_device [] = false
have_bad_device (device ∷ others) =
    if device.kind == 0 then false else (is_none (device_of device) || have_bad_device others)

-- the session that is described: its guest, with its further devices
abbrev pub made_session : GuestConfig → RacingSession
made_session config = with_devices (map fresh_device (devices_of config.slot.now.devices)) (new_session (spec_of config))

-- ---- What is judged before the guest is: 0 where it is good. No guest that runs on has a disk of an image, or a further disk.

abbrev pub judged_slot : Slot → ℕ
judged_slot slot =
    if not (slot.size == slot_size) then 17
    else if not slot.hosted then 33
    else if have_bad_device slot.devices then 32
    else 0

abbrev pub judged : GuestConfig → ℕ
judged config = if not (config.size == config_size) then 17 else judged_slot config.slot.now
