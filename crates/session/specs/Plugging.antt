-- The guests' further devices are plugged into their slots.
use Rattle.std.specs.Prelude.{◌≡◌, ℕ, List, [], ◌∷◌, ◌++◌, length, map, slice_set, Some}
use Rattle.std.specs.List.{AllByRecursion, slice_get}
use Rattle.device_list.specs.declared.spec.DeviceSpec.{DeviceSpec}
use Rattle.device_list.specs.Device.{fresh_device}
use Rattle.board.specs.Slot.{BoardSlot}
use Rattle.session.specs.declared.guest.GuestSpec.{GuestSpec}
use Rattle.session.specs.ImageDisks.{spare_of}
use Rattle.session.specs.Session.{with_fresh}

-- there is a slot for each guest, with as many spare sectors, and none has a further device
pub record AreBare (guests : List GuestSpec) (slots : List BoardSlot) : Type 0 where
  pub many : length slots ≡ length guests
  pub spares : map (λ slot. slot.spare) slots ≡ map spare_of guests
  pub none : AllByRecursion (λ slot. slot.devices ≡ []) slots

-- a slot has one device more, as after a reset, behind those that it had
abbrev pub GetsDevice : ℕ → DeviceSpec → List BoardSlot → List BoardSlot → Type 0
GetsDevice slot spec old new =
    (found : BoardSlot) → slice_get old slot ≡ Some found
    → new ≡ slice_set old slot (record found { devices = found.devices ++ fresh_device spec ∷ [] })

-- a slot has these, as after a reset, and no other
abbrev pub GetsDevices : ℕ → List DeviceSpec → List BoardSlot → List BoardSlot → Type 0
GetsDevices slot specs old new =
    (found : BoardSlot) → slice_get old slot ≡ Some found → new ≡ slice_set old slot (with_fresh specs found)
