-- Services of the further devices, and what is due of them, one after another.
use Rattle.std.proofs.Common.{◌≡◌, ◌∙◌, ℕ, suc, true, ◌<◌, ◌≤◌, List, Option, Some, get_or, length, ap, subst, sym}
use Rattle.std.specs.Prelude.{slice_set}
use Rattle.std.specs.Option.{option_map_or}
use Rattle.std.proofs.lemmas.Option.{get_or_from_slice_get, slice_get-get_or, slice_get_past}
use Rattle.guest_memory.specs.Memory.{Memory}
use Rattle.chain.specs.declared.budget.Progress.{Progress}
use Rattle.mmio_window.specs.declared.stage.Stage.TheVariants.{First}
use Rattle.shared_memory.specs.Sightings.{Sightings}
use Rattle.racing_service.specs.declared.service.Limits.{Limits}
use Rattle.served_memory.specs.World.{racing}
use Rattle.device_list.specs.Device.{DeviceState}
use Rattle.device_list.specs.List.{AreSoundDevices, DevicesServeIn}
use Rattle.racing_session.specs.declared.further.DeviceDue.{DeviceDue}
use Rattle.racing_session.specs.Further.{Further, ServesDevice, ServesFirst, ServesQueue, Station, device_due_by, further_due_by, not_due}

abbrev further_of : List DeviceState → List DeviceDue → Further
further_of devices due = record { devices = devices; due = due }

pub inside_sound : (m : Memory) (devices : List DeviceState) (due : List DeviceDue) (further : Further)
    → further_of devices due ≡ further → AreSoundDevices m further.devices → AreSoundDevices m devices
inside_sound m devices due further is sound =
    subst (λ (f : Further). AreSoundDevices m f.devices) (sym is) sound

pub served_queue : (limits : Limits) (n queue : ℕ) (old new : Sightings) (devices devices' : List DeviceState)
    (due due' : List DeviceDue) (before : Further) (progress : Progress) → further_of devices due ≡ before
    → DevicesServeIn (racing true) First limits progress n queue old new devices devices'
    → due' ≡ further_due_by n queue progress due → ServesQueue limits n queue old new before (further_of devices' due')
served_queue limits n queue old new devices devices' due due' before progress is serves due_is =
    subst (λ (f : Further). ServesQueue limits n queue old new f (further_of devices' due')) is
    (record { progress = progress; serves = serves; due_is = due_is })

-- ---- what is due

pub owed_there : (n place queue : ℕ) (progress : Progress) (due : List DeviceDue) (d made : DeviceDue) → place ≡ n
    → place < length due → made ≡ device_due_by queue progress (get_or due place d)
    → slice_set due place made ≡ further_due_by n queue progress due
owed_there n place queue progress due d made is few made_is =
    ap (λ (x : DeviceDue). slice_set due place x) made_is
    ∙ ap (λ (o : Option DeviceDue). option_map_or (λ x. slice_set due place (device_due_by queue progress x)) o due)
    (sym (slice_get-get_or due place d few))
    ∙ ap (λ (k : ℕ). further_due_by k queue progress due) is

pub owed_past : (n queue : ℕ) (progress : Progress) (due : List DeviceDue) → length due ≤ n
    → due ≡ further_due_by n queue progress due
owed_past n queue progress due past =
    ap (λ (o : Option DeviceDue). option_map_or (λ x. slice_set due n (device_due_by queue progress x)) o due)
    (sym (slice_get_past due n past))

-- the next device behind the first ones
pub served_next : (limits : Limits) (due : List DeviceDue) (n : ℕ) (d : DeviceDue) (start before after : Station)
    → n < length due → d ≡ get_or due n d → ServesFirst limits due n start before → ServesDevice limits n d before after
    → ServesFirst limits due (suc n) start after
served_next limits due n d start before after few is first last =
    let found : get_or due n not_due ≡ d =
    get_or_from_slice_get due n d not_due (slice_get-get_or due n d few ∙ ap Some (sym is)) in
    record {
      between = before;
      first = first;
      last = subst (λ (x : DeviceDue). ServesDevice limits n x before after) (sym found) last;
    }
