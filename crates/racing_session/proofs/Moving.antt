-- What a session's guest is over other memory.
use Rattle.std.proofs.Common.{◌≡◌, ◌∙◌, ℕ, Bool, true, false, List, [], ◌∷◌, ap, refl, subst, sym}
use Rattle.std.specs.Prelude.{◌&&◌, ◌||◌}
use Rattle.guest_memory.specs.declared.spec.RegionSpec.{RegionSpec}
use Rattle.guest_memory.specs.Faults.{zeroed_regions}
use Rattle.guest_memory.specs.Memory.{Memory, SameRange}
use Rattle.racing_window.specs.Memory.{window_fits}
use Rattle.racing_window.proofs.Fitting as window
use Rattle.shared_memory.specs.Sightings.{memory}
use Rattle.shared_memory.proofs.Sightings.{same_self}
use Rattle.block_device.specs.Tags.{is_any}
use Rattle.output_queue.specs.Waiting.{Waiting}
use Rattle.racing_hosted_disk.specs.declared.look.LookLimits.{LookLimits}
use Rattle.racing_memory.specs.Past.{Seen, filled, sightings_of}
use Rattle.racing_memory.proofs.Seeing.{newest_range}
use Rattle.racing_guest.specs.Guest.{IsSoundGuest, RacingGuest}
use Rattle.racing_guest.specs.Memory.{guest_fits}
use Rattle.racing_guest.proofs.Fitting.{fits_alike}
use Rattle.racing_session.specs.declared.due.Due.{Due}
use Rattle.racing_session.specs.Further.{Further}
use Rattle.device_list.specs.Device.{DeviceState}
use Rattle.device_list.specs.List.{AreSoundDevices, are_at_work, devices_fit}
use Rattle.racing_session.specs.Memory.{is_busy, with_regions}
use Rattle.racing_session.specs.Session.{RacingSession, is_due_in}
use Rattle.racing_session.proofs.Calling.{devices_seen, session_of, sound_seen}

module _ (regions : List RegionSpec) (pages : List Bool) (stood : List ℕ) (m : Seen) (guest : RacingGuest)
    (fresh : m ≡ record { regions = regions; stood = record { bytes = stood; pages = pages }; past = [] }) where
  -- it fits the regions whatever stands there
  pub fits_each : (fits : Bool) → fits ≡ guest_fits (memory (sightings_of m)) guest → fits ≡ guest_fits (zeroed_regions regions) guest
  fits_each fits is =
      subst (λ (seen : Seen). fits ≡ guest_fits (memory (sightings_of seen)) guest) fresh is
      ∙ fits_alike (zeroed_regions regions) (filled regions (record { bytes = stood; pages = pages })) guest (newest_range regions (record { bytes = stood; pages = pages }) [])

  -- and is sound for them
  pub sound_each : IsSoundGuest (memory (sightings_of m)) guest → IsSoundGuest (zeroed_regions regions) guest
  sound_each sound = sound_seen regions pages stood m m guest fresh (same_self (memory (sightings_of m))) sound

-- the further devices fit each memory of a range or none
devices_fit_alike : (m n : Memory) (devices : List DeviceState) → SameRange m n → devices_fit n devices ≡ devices_fit m devices
devices_fit_alike m n [] same = refl
devices_fit_alike m n (d ∷ ds) same =
    ap (λ (fits : Bool). fits && devices_fit n ds) (window.fits_alike m n d.window same)
    ∙ ap (λ (fits : Bool). window_fits m d.window && fits) (devices_fit_alike m n ds same)

module _ (regions : List RegionSpec) (pages : List Bool) (stood : List ℕ) (m : Seen) (devices : List DeviceState)
    (fresh : m ≡ record { regions = regions; stood = record { bytes = stood; pages = pages }; past = [] }) where
  pub devices_fit_each : (fits : Bool) → fits ≡ devices_fit (memory (sightings_of m)) devices
      → fits ≡ devices_fit (zeroed_regions regions) devices
  devices_fit_each fits is =
      subst (λ (seen : Seen). fits ≡ devices_fit (memory (sightings_of seen)) devices) fresh is
      ∙ devices_fit_alike (zeroed_regions regions) (filled regions (record { bytes = stood; pages = pages })) devices (newest_range regions (record { bytes = stood; pages = pages }) [])

  pub devices_sound_each : (looked : List DeviceState) → looked ≡ devices
      → (are_at_work looked ≡ false → (n : Memory) → AreSoundDevices n looked → AreSoundDevices (memory (sightings_of m)) looked)
      → are_at_work devices ≡ false → (n : Memory) → AreSoundDevices n devices → AreSoundDevices (zeroed_regions regions) devices
  devices_sound_each looked same stays idle n sound =
      devices_seen regions pages stood m m devices fresh (same_self (memory (sightings_of m)))
      (subst (λ (ds : List DeviceState). are_at_work ds ≡ false → (k : Memory) → AreSoundDevices k ds
      → AreSoundDevices (memory (sightings_of m)) ds) same stays idle n sound)

-- of a session that isn't busy nothing is in flight
neither : (a b : Bool) → (a || b) ≡ false → (a ≡ false) × (b ≡ false)
neither true b is = absurd (cc is)
neither false b is = (refl, is)

module _ (guest : RacingGuest) (regions : List RegionSpec) (pages : List Bool) (output : Waiting) (due : Due) (limits : LookLimits)
    (further : Further) (session : RacingSession) (is : session_of guest regions pages output due limits further ≡ session)
    (busy : Bool) (busy_is : busy ≡ is_busy session) (free : busy ≡ false) where
  no_disk_works : (is_any guest.block.disk.tags || are_at_work further.devices) ≡ false
  no_disk_works =
      (neither (is_due_in (session_of guest regions pages output due limits further))
      (is_any guest.block.disk.tags || are_at_work further.devices)
      (ap (λ (s : RacingSession). is_busy s) is ∙ sym busy_is ∙ free)).1

  pub none_flies : is_any guest.block.disk.tags ≡ false
  none_flies = (neither (is_any guest.block.disk.tags) (are_at_work further.devices) no_disk_works).0

  pub none_works : are_at_work further.devices ≡ false
  none_works = (neither (is_any guest.block.disk.tags) (are_at_work further.devices) no_disk_works).1

-- so it is over them
pub moved_so : {guest : RacingGuest} {regions regions' given : List RegionSpec} {pages pages' : List Bool} {output : Waiting}
    {due : Due} {limits : LookLimits} {further : Further} {session : RacingSession}
    → session_of guest regions pages output due limits further ≡ session → regions' ≡ given → pages' ≡ []
    → session_of guest regions' pages' output due limits further ≡ with_regions given session
moved_so {given = given} view r p = rw (r, p) (ap (λ (s : RacingSession). with_regions given s) view)
