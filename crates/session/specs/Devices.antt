-- A slot's further devices, as a session's calls see them.
use Rattle.std.specs.Prelude.{◌≡◌, ◌↔◌, ◌≤◌, ℕ, Option, None, List, length, unwrap_or, IsErrOf, IsSomeAnd, Result}
use Rattle.std.specs.List.{slice_get}
use Rattle.std.specs.Option.{option_and_then, option_map, option_map_or}
use Rattle.mmio_window.specs.Interrupts.{interrupt_bits}
use Rattle.block_device.specs.Tags.{taken_bits}
use Rattle.device_list.specs.Device.{DeviceState}
use Rattle.device_list.specs.List.{disk_at, is_starved_at, sent_by}
use Rattle.board.specs.declared.event.DeviceEvent.{DeviceEvent}
use Rattle.board.specs.Devices.{reply_at}
use Rattle.board.specs.Slot.{BoardSlot, state_of}
use Rattle.session.specs.declared.refusal.Refusal.{Refusal}
use Rattle.session.specs.declared.refusal.Refusal.TheVariants.{BadDevice, BadSlot, Busy}
use Rattle.session.specs.declared.told.DeviceWaits.{DeviceWaits}
use Rattle.session.specs.Session.{IsIdle, SessionState}

-- what the driver of a slot's device of this number sent and its host takes now
abbrev pub sent_at : ℕ → ℕ → List BoardSlot → Option (List ℕ)
sent_at slot device slots = option_and_then (λ found. sent_by device found.devices) (slice_get slots slot)

-- how many bytes that is: none where nothing waits
abbrev pub sent_count : Option (List ℕ) → ℕ
sent_count sent = option_map_or (λ bytes. length bytes) sent 0

-- what waits for device n of a slot, which is in this state: its interrupt word, whether its driver waits for
-- the host, how many bytes the host takes now, and which tags are in flight
abbrev pub device_waits : ℕ → BoardSlot → DeviceState → DeviceWaits
device_waits n found device = record {
  irq = interrupt_bits device.window.interrupts;
  starved = is_starved_at found.memory device;
  sent = option_map (λ bytes. length bytes) (sent_by n found.devices);
  tags = unwrap_or (option_map (λ disk. taken_bits disk.tags) (disk_at n found.devices)) 0;
}

-- if there are such a slot and such a device
abbrev pub device_waits_at : ℕ → ℕ → List BoardSlot → Option DeviceWaits
device_waits_at slot n slots =
    option_and_then (λ found. option_map (device_waits n found) (slice_get found.devices n))
    (slice_get slots slot)

-- The slot is there, and none of its devices takes this: it has none of this number, or that takes no such
-- thing.
abbrev pub TakesNothing : {A : Type 0} → ℕ → ℕ → DeviceEvent A → SessionState → Type 0
TakesNothing slot n what session =
    IsSomeAnd (slice_get session.slots slot) (λ found. reply_at n what (state_of session.image found) ≡ None)

-- When each refusal comes of this that is done to device n of a slot: there is no such slot, the call is busy, or the slot, in
-- which no service is paused, takes no such thing.
pub record RefusesAtDevice {A T : Type 0} (slot n : ℕ) (what : DeviceEvent A) (IsBusy : Type 0) (old : SessionState)
    (result : Result T Refusal) : Type 0 where
  pub bad_slot : IsErrOf result BadSlot ↔ (length old.slots ≤ slot)
  pub busy : IsErrOf result Busy ↔ IsBusy
  pub bad_device : IsErrOf result BadDevice ↔ (IsIdle slot old × TakesNothing slot n what old)
