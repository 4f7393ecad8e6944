-- A guest's further devices while it runs on: which of their queues are due, and what a service of them comes to, whatever the
-- guest writes meanwhile.
use Rattle.std.specs.Prelude.{◌≡◌, ℕ, zero, suc, ◌||◌, Bool, true, false, List, [], Option, Some, None, get_or, replicate, slice_set}
use Rattle.std.specs.List.{list_any, slice_get}
use Rattle.std.specs.Option.{option_map_or}
use Rattle.chain.specs.declared.budget.Progress.{Progress}
use Rattle.chain.specs.declared.budget.Progress.TheVariants.{Done, More}
use Rattle.mmio_window.specs.declared.stage.Stage.TheVariants.{First}
use Rattle.shared_memory.specs.Sightings.{Sightings, memory}
use Rattle.racing_service.specs.declared.service.Limits.{Limits}
use Rattle.served_memory.specs.World.{racing}
use Rattle.device_list.specs.declared.spec.DeviceSpec.{DeviceSpec}
use Rattle.device_list.specs.declared.spec.DeviceSpec.TheVariants as spec
use Rattle.device_list.specs.Device.{DeviceState, device_written}
use Rattle.device_list.specs.List.{DevicesServeIn, IsRefusedFor, changed_at, notified_at}
use Rattle.racing_session.specs.declared.further.DeviceDue.{DeviceDue}
use Rattle.racing_session.specs.declared.further.DeviceRefusal.{DeviceRefusal}
use Rattle.racing_session.specs.declared.further.DeviceRefusal.TheVariants.{IsDisk, Refused}

-- the devices, and of each, by its number, which queues are due
pub record Further : Type 0 where
  pub devices : List DeviceState
  pub due : List DeviceDue

abbrev pub not_due : DeviceDue
not_due = record { queue_0 = false; queue_1 = false }

-- no device, and nothing is due
abbrev pub no_devices : Further
no_devices = record { devices = []; due = replicate 6 not_due }

abbrev pub is_device_due : DeviceDue → Bool
is_device_due due = due.queue_0 || due.queue_1

-- whether any queue of any device is due
abbrev pub is_further_due : Further → Bool
is_further_due further = list_any is_device_due further.due

-- which are due of a device behind a service of this queue that came so far
abbrev pub device_due_by : ℕ → Progress → DeviceDue → DeviceDue
device_due_by queue Done due = due
device_due_by zero More due = record due { queue_0 = true }
device_due_by (suc queue) More due = record due { queue_1 = true }

-- and of all, where it was device n's
abbrev pub further_due_by : ℕ → ℕ → Progress → List DeviceDue → List DeviceDue
further_due_by n queue progress due =
    option_map_or (λ d. slice_set due n (device_due_by queue progress d)) (slice_get due n) due

-- ---- adding one

-- a guest that runs on has no disk beside its own
abbrev pub is_disk : DeviceSpec → Bool
is_disk (spec.Block sectors read_only identity depth) = true
is_disk (spec.Image extent read_only identity) = true
is_disk spec = false

-- why a device isn't added: it is a disk, or the list refuses it, of which no sectors of an image are spare
abbrev pub IsNotAdded : List DeviceState → DeviceSpec → DeviceRefusal → Type 0
IsNotAdded devices spec IsDisk = is_disk spec ≡ true
IsNotAdded devices spec (Refused why) = (is_disk spec ≡ false) × IsRefusedFor devices 0 spec why

-- ---- services

-- A queue of device n is served over memory that the guest may write meanwhile. What is left of it is due then.
pub record ServesQueue (limits : Limits) (n queue : ℕ) (old new : Sightings) (before after : Further) : Type 0 where
  pub progress : Progress
  pub serves : DevicesServeIn (racing true) First limits progress n queue old new before.devices after.devices
  pub due_is : after.due ≡ further_due_by n queue progress before.due

-- the queue that is to be served, if one is
abbrev pub ServesNotified : Option ℕ → Limits → ℕ → Sightings → Sightings → Further → Further → Type 0
ServesNotified (Some queue) limits n old new before after = ServesQueue limits n queue old new before after
ServesNotified None limits n old new before after = (new ≡ old) × (after ≡ before)

-- A guest's write: the registers of device n's window are written, and the queue that this notifies is served.
abbrev pub WritesDevice : Limits → ℕ → ℕ → ℕ → ℕ → Option DeviceState → Sightings → Sightings → Further → Further → Type 0
WritesDevice limits n offset width value None old new before after = ⊥
WritesDevice limits n offset width value (Some d) old new before after =
    ServesNotified (notified_at offset width value d) limits n old new
    (record before { devices = changed_at (device_written offset width value (memory old)) n before.devices }) after

-- ---- what is due

-- where the devices stand between two services, and the memory as it was seen
pub record Station : Type 0 where
  pub further : Further
  pub seen : Sightings

-- a queue is served once more, if it was due
abbrev pub ServesIfDue : Bool → Limits → ℕ → ℕ → Station → Station → Type 0
ServesIfDue true limits n queue before after = ServesQueue limits n queue before.seen after.seen before.further after.further
ServesIfDue false limits n queue before after = after ≡ before

-- the queues of device n that were due, one after the other
pub record ServesDevice (limits : Limits) (n : ℕ) (due : DeviceDue) (before after : Station) : Type 0 where
  pub between : Station
  pub first : ServesIfDue due.queue_0 limits n 0 before between
  pub second : ServesIfDue due.queue_1 limits n 1 between after

-- one thing comes behind another
pub record Behind (First Last : Station → Type 0) : Type 0 where
  pub between : Station
  pub first : First between
  pub last : Last between

-- the first devices, so many, one after another
abbrev pub ServesFirst : Limits → List DeviceDue → ℕ → Station → Station → Type 0
ServesFirst limits due zero before after = after ≡ before
ServesFirst limits due (suc n) before after =
    Behind (ServesFirst limits due n before) (λ between. ServesDevice limits n (get_or due n not_due) between after)

-- Each queue that is due is served once. What these services leave is due then, and nothing else.
abbrev pub ServesDue : Limits → Sightings → Sightings → Further → Further → Type 0
ServesDue limits old new before after = ServesFirst limits before.due 6
    (record { further = record before { due = replicate 6 not_due }; seen = old })
    (record { further = after; seen = new })
