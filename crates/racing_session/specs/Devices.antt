-- What a call does to a further device of a guest that runs on, whatever the guest writes meanwhile.
use Rattle.std.specs.Prelude.{◌≡◌, ℕ, false, List, Option, Some, None, if◌then◌else◌, is_some, length}
use Rattle.std.specs.List.{slice_get}
use Rattle.std.specs.Option.{option_map}
use Rattle.mmio_window.specs.Interrupts.{interrupt_bits}
use Rattle.shared_memory.specs.Sightings.{Sightings}
use Rattle.racing_guest.specs.Guest.{service_limits}
use Rattle.device_list.specs.Device.{DeviceState, with_model}
use Rattle.device_list.specs.List.{changed_at, sent_by}
use Rattle.device_list.specs.Model.{without_sent}
use Rattle.racing_session.specs.declared.progress.Progress.{Progress}
use Rattle.racing_session.specs.declared.told.DeviceWaits.{DeviceWaits}
use Rattle.racing_session.specs.Further.{ServesNotified, WritesDevice}
use Rattle.racing_session.specs.Session.{RacingSession, came_to, unseen, with_marks_of}

-- the session with its further devices changed so: what is due of them stays
abbrev pub with_devices : List DeviceState → RacingSession → RacingSession
with_devices devices session = record session { further = record session.further { devices = devices } }

-- The devices are changed so, and then device n serves this queue of its, if one is to be served. What it leaves is due.
pub record ServesBehind (stood : List ℕ) (n : ℕ) (changed : List DeviceState) (queue : Option ℕ) (old new : RacingSession)
    (progress : Progress) : Type 0 where
  pub seen : Sightings
  pub serves : ServesNotified queue (service_limits old.limits) n (unseen old stood) seen
      (with_devices changed old).further new.further
  pub rest : new ≡ with_marks_of seen (record old { further = new.further })
  pub progress_is : progress ≡ came_to false new

-- A guest's write of device n's window.
pub record IsWrittenTo (stood : List ℕ) (n offset width value : ℕ) (old new : RacingSession) (progress : Progress) : Type 0 where
  pub seen : Sightings
  pub writes : WritesDevice (service_limits old.limits) n offset width value (slice_get old.further.devices n)
      (unseen old stood) seen old.further new.further
  pub rest : new ≡ with_marks_of seen (record old { further = new.further })
  pub progress_is : progress ≡ came_to false new

-- The host takes what the driver of device n sent. Where nothing more waits there is room, so its transmit queue is served.
abbrev pub freed_at : ℕ → List DeviceState → Option ℕ
freed_at n left = if is_some (sent_by n left) then None else Some 1

abbrev pub without_sent_at : ℕ → List DeviceState → List DeviceState
without_sent_at n devices = changed_at (with_model without_sent) n devices

abbrev pub DropsSent : List ℕ → ℕ → RacingSession → RacingSession → Progress → Type 0
DropsSent stood n old new progress =
    ServesBehind stood n (without_sent_at n old.further.devices) (freed_at n (without_sent_at n old.further.devices)) old new progress

-- what waits for a device's driver and its host
abbrev pub device_waits_at : ℕ → RacingSession → Option DeviceWaits
device_waits_at n session = option_map (λ d. record {
  irq = interrupt_bits d.window.interrupts;
  sent = option_map (λ bytes. length bytes) (sent_by n session.further.devices);
}) (slice_get session.further.devices n)
