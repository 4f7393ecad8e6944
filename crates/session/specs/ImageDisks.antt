-- Which sectors a guest's further disks over the image may have.
use Rattle.std.specs.Prelude.{◌≡◌, ℕ, ◌+◌, ◌==◌, ◌||◌, nat_lt, Bool, false, List, [], ◌∷◌, ◌++◌, All, map, Option, Some}
use Rattle.std.specs.List.{list_any}
use Rattle.block_device.specs.declared.extent.Extent.{Extent}
use Rattle.device_list.specs.declared.spec.DeviceSpec.{DeviceSpec}
use Rattle.device_list.specs.declared.spec.DeviceSpec.TheVariants as spec
use Rattle.device_list.specs.Device.{fresh_device}
use Rattle.device_list.specs.List.{do_overlap, has_bad_extent}
use Rattle.board.specs.Slot.{spare_by}
use Rattle.session.specs.declared.guest.GuestSpec.{GuestSpec}
use Rattle.session.specs.Session.{devices_of}

-- Whether one of these devices, plugged in one after another behind the earlier ones, is a disk over the image of sectors that
-- it can't have of so many spare ones.
abbrev pub has_bad_behind : ℕ → List DeviceSpec → List DeviceSpec → Bool
has_bad_behind spare earlier [] = false
has_bad_behind spare earlier (spec ∷ specs) =
    has_bad_extent (map fresh_device earlier) spare spec || has_bad_behind spare (earlier ++ spec ∷ []) specs

-- how many spare sectors a guest's slot has
abbrev pub spare_of : GuestSpec → ℕ
spare_of guest = spare_by guest.slot.backing guest.slot.spare

-- whether a guest is to have such a disk
abbrev pub has_bad_image_disk : GuestSpec → Bool
has_bad_image_disk guest = has_bad_behind (spare_of guest) [] (devices_of guest)

-- no guest is
abbrev pub AreImageDisks : List GuestSpec → Type 0
AreImageDisks guests = All (λ guest. has_bad_image_disk guest ≡ false) guests

-- ---- by the places of a guest's devices

-- whether a device is a disk over the image that has some of these sectors
abbrev pub has_some : Extent → Option DeviceSpec → Bool
has_some extent (Some (spec.Image other read_only identity)) = do_overlap extent other
has_some extent device = false

-- whether a device is such a disk behind those of these places, of so many spare sectors
abbrev pub is_bad_behind : DeviceSpec → ℕ → List (Option DeviceSpec) → Bool
is_bad_behind (spec.Image extent read_only identity) spare earlier =
    extent.count == 0 || (nat_lt spare (extent.start + extent.count) || list_any (has_some extent) earlier)
is_bad_behind device spare earlier = false
