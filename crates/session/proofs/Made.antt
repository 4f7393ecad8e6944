-- A guest of a new session is as it is in one of its own.
use Rattle.std.proofs.Common.{◌≡◌, false, ℕ, zero, suc, ◌+◌, ◌*◌, ◌/◌, ◌<◌, ◌≤◌, List, [], ◌∷◌, Option, Some, None, length, replicate, map, take, drop, refl, sym, ap, subst, ◌∙◌, arith}
use Rattle.std.specs.Prelude.{◌-◌, ◌^◌, min, unwrap_or}
use Rattle.std.specs.List.{slice_get}
use Rattle.std.proofs.lemmas.List.{length-take, length-drop, length-replicate, get_or-replicate}
use Rattle.std.proofs.lemmas.Option.{get_or_from_slice_get, slice_get_within, same_Some}
use Rattle.circular_buffer.proofs.Places.{slice_get-some}
use Rattle.chain.specs.declared.budget.Budget.{Budget}
use Rattle.device_list.specs.declared.spec.DeviceSpec.{DeviceSpec}
use Rattle.board.specs.declared.pause.Pause.{Pause}
use Rattle.sector_cache.specs.Sector.{extent_of}
use Rattle.sector_cache.proofs.Sectors.{extent_of-extent_of}
use Rattle.block_device.specs.declared.extent.Extent.{Extent}
use Rattle.block_device.specs.Extent.{IsWithin}
use Rattle.board.specs.declared.spec.Backing.{Backing}
use Rattle.board.specs.declared.spec.Backing.TheVariants.{Image, Host}
use Rattle.board.specs.declared.spec.SlotSpec.{SlotSpec}
use Rattle.hosted_disk.specs.Disk.{HostedDisk}
use Rattle.board.specs.Fault.{IsAccepted, IsGoodSlot, place_by, room_by}
use Rattle.board.specs.Pausing.{HasLimit}
use Rattle.board.specs.Slot.{BoardSlot, SlotState, extent_by, host_by, opened, spare_by, state_of}
use Rattle.output_queue.specs.Waiting.{Waiting, none_waiting}
use Rattle.session.specs.declared.guest.GuestSpec.{GuestSpec}
use Rattle.session.specs.Alone.{SeeAlike, at_front, new_session_alone, own_askings, part_of_image}
use Rattle.session.specs.Course.{SessionStep, IsCourse, NeverPauses}
use Rattle.session.specs.ImageDisks.{AreImageDisks, has_bad_image_disk}
use Rattle.session.specs.Paced.{SeePacedAlike}
use Rattle.session.specs.Refusing.{AreDevices, AreOutlets, has_bad_device}
use Rattle.session.specs.Session.{SessionState, devices_of, new_session, slots_of, with_fresh, world_of}
use Rattle.session.proofs.Alone.{see_alike}
use Rattle.session.proofs.Paced.{see_paced_alike}
use Rattle.session.proofs.PacedCourses.{never_pauses}

-- a guest's part of an image is all of the image that is its own, by who has its disk
abbrev bytes_by : Backing → Extent → ℕ → List ℕ → List ℕ
bytes_by backing extent spare image =
    extent_of image (extent_by backing extent).start ((extent_by backing extent).count + spare_by backing spare)

-- the bytes of its disk
own_by : (backing : Backing) (extent : Extent) (spare : ℕ) (image : List ℕ)
    → extent_of (bytes_by backing extent spare image) (extent_by backing (record extent { start = 0 })).start
    (extent_by backing (record extent { start = 0 })).count
    ≡ extent_of image (extent_by backing extent).start (extent_by backing extent).count
own_by Image extent spare image =
    extent_of-extent_of image extent.start (extent.count + spare) 0 extent.count (omega arith)
    ∙ ap (λ first. extent_of image first extent.count) (omega arith)
own_by (Host depth) extent spare image = extent_of-extent_of image 0 0 0 0 (omega arith)

-- and those of its spare sectors
spare_by_alone : (backing : Backing) (extent : Extent) (spare : ℕ) (image : List ℕ)
    → extent_of (bytes_by backing extent spare image) ((extent_by backing (record extent { start = 0 })).start
    + (extent_by backing (record extent { start = 0 })).count) (spare_by backing spare)
    ≡ extent_of image ((extent_by backing extent).start + (extent_by backing extent).count) (spare_by backing spare)
spare_by_alone Image extent spare image =
    extent_of-extent_of image extent.start (extent.count + spare) (0 + extent.count) spare (omega arith)
    ∙ ap (λ first. extent_of image first spare) (omega arith)
spare_by_alone (Host depth) extent spare image = extent_of-extent_of image 0 0 0 0 (omega arith)

host_of_count : (backing : Backing) (spec : SlotSpec)
    → host_by backing (record spec { extent = record spec.extent { start = 0 } }) ≡ host_by backing spec
host_of_count Image spec = refl
host_of_count (Host depth) spec = refl

-- a guest's slot of a new session
abbrev made : GuestSpec → BoardSlot
made guest = with_fresh (devices_of guest) (opened guest.slot)

seen_as : (spec : SlotSpec) (devices : List DeviceSpec) (image own own' more more' : List ℕ) (host host' : Option HostedDisk)
    → own ≡ own' → more ≡ more' → host ≡ host'
    → ◌≡◌ {A = SlotState}
    (record (state_of image (with_fresh devices (opened spec))) { extent = own; spare_bytes = more; host = host })
    (record (state_of image (with_fresh devices (opened spec))) { extent = own'; spare_bytes = more'; host = host' })
seen_as spec devices image own own' more more' host host' p q r = rw (p, q, r) refl

-- the guest's state is what it is alone
same_state : (guest : GuestSpec) (image : List ℕ)
    → state_of (part_of_image guest image) (made (at_front guest)) ≡ state_of image (made guest)
same_state guest image =
    seen_as guest.slot (devices_of guest) image _ _ _ _ _ _
    (own_by guest.slot.backing guest.slot.extent guest.slot.spare image)
    (spare_by_alone guest.slot.backing guest.slot.extent guest.slot.spare image)
    (host_of_count guest.slot.backing guest.slot)

there_in : (guests : List GuestSpec) (g : ℕ) (guest : GuestSpec) (image : List ℕ) (budget : Budget)
    → slice_get guests g ≡ Some guest → slice_get (world_of (new_session guests image budget)).slots g
    ≡ Some (state_of image (made guest))
there_in [] g guest image budget here = absurd (cc)
there_in (one ∷ guests) zero guest image budget here =
    ap (λ (s : GuestSpec). Some (state_of image (made s))) (same_Some one guest here)
there_in (one ∷ guests) (suc g) guest image budget here = there_in guests g guest image budget here

waits_at : (guests : List GuestSpec) (g : ℕ) (guest : GuestSpec) → slice_get guests g ≡ Some guest
    → slice_get (map (λ (s : GuestSpec). none_waiting s.outlet) guests) g ≡ Some (none_waiting guest.outlet)
waits_at [] g guest here = absurd (cc)
waits_at (one ∷ guests) zero guest here =
    ap (λ (s : GuestSpec). Some (none_waiting s.outlet)) (same_Some one guest here)
waits_at (one ∷ guests) (suc g) guest here = waits_at guests g guest here

-- nothing of it is paused
idle_in : (n g : ℕ) → g < n → slice_get (replicate {A = Option Pause} n None) g ≡ Some None
idle_in n g few =
    let paused = replicate {A = Option Pause} n None in
    let found = slice_get-some paused g (rw (length-replicate {A = Option Pause} n None) few) in
    found.1 ∙ ap (λ (p : Option Pause). Some p) (sym (get_or_from_slice_get paused g found.0 None found.1)
    ∙ get_or-replicate n g None None few)

-- so it sees what it would see alone
pub made_alone : {A : Type 0} (g : ℕ) (guests : List GuestSpec) (guest : GuestSpec) (image : List ℕ)
    (budget budget' : Budget) (steps more : List (SessionStep A)) (new last : SessionState)
    → slice_get guests g ≡ Some guest →
    IsCourse (new_session guests image budget) steps new
    → IsCourse (new_session_alone guest image budget') more last → NeverPauses g steps
    → NeverPauses 0 more → own_askings 0 more ≡ own_askings g steps → SeeAlike g steps new 0 more last
made_alone g guests guest image budget budget' steps more new last here x y never never' askings =
    let waits = waits_at guests g guest here in
    see_alike g 0 (new_session guests image budget) new (new_session_alone guest image budget') last steps
    more (state_of image (made guest)) x y never never'
    (idle_in (length guests) g (slice_get_within guests g guest here)) (idle_in 1 0 (omega arith))
    (there_in guests g guest image budget here) (ap (λ (s : SlotState). Some s) (same_state guest image))
    (sym (ap (λ (o : Option Waiting). (unwrap_or o (none_waiting 0)).bytes) waits))
    (sym (ap (λ (o : Option Waiting). (unwrap_or o (none_waiting 0)).limit) waits)) askings

-- however its services pause
pub made_paced_alone : {A : Type 0} (g : ℕ) (guests : List GuestSpec) (guest : GuestSpec) (image : List ℕ)
    (budget : Budget) (steps more : List (SessionStep A)) (new last : SessionState) → slice_get guests g ≡ Some guest
    → IsCourse (new_session guests image budget) steps new
    → IsCourse (new_session_alone guest image budget) more last
    → own_askings 0 more ≡ own_askings g steps → SeePacedAlike g steps new 0 more last
made_paced_alone g guests guest image budget steps more new last here x y askings =
    let waits = waits_at guests g guest here in
    see_paced_alike g 0 (new_session guests image budget) new (new_session_alone guest image budget) last steps more
    (state_of image (made guest)) None x y (there_in guests g guest image budget here)
    (ap (λ (s : SlotState). Some s) (same_state guest image))
    (idle_in (length guests) g (slice_get_within guests g guest here)) (idle_in 1 0 (omega arith))
    (sym (ap (λ (o : Option Waiting). (unwrap_or o (none_waiting 0)).bytes) waits))
    (sym (ap (λ (o : Option Waiting). (unwrap_or o (none_waiting 0)).limit) waits)) refl askings

-- and without a budget none of its services pauses
pub made_alone_unlimited : {A : Type 0} (g : ℕ) (guests : List GuestSpec) (guest : GuestSpec) (image : List ℕ)
    (budget budget' : Budget) (steps more : List (SessionStep A)) (new last : SessionState)
    → slice_get guests g ≡ Some guest →
    IsCourse (new_session guests image budget) steps new
    → IsCourse (new_session_alone guest image budget') more last → (HasLimit budget → ⊥)
    → (HasLimit budget' → ⊥) → own_askings 0 more ≡ own_askings g steps → SeeAlike g steps new 0 more last
made_alone_unlimited g guests guest image budget budget' steps more new last here x y unlimited
    unlimited' askings =
    made_alone g guests guest image budget budget' steps more new last here x y
    (never_pauses g (new_session guests image budget) new steps x unlimited
    (idle_in (length guests) g (slice_get_within guests g guest here)))
    (never_pauses 0 (new_session_alone guest image budget') last more y unlimited'
    (idle_in 1 0 (omega arith))) askings

-- ---- and there is such a session

part_len : (count start len : ℕ) (n m : ℕ) → start + count ≤ len / 512 → m ≡ len - 512 * start
    → n ≡ min (512 * count) m → n ≡ 512 * count
part_len count start len n m fits rest is = omega (arith, fits, rest, is)

part_sectors : (n count : ℕ) → n ≡ 512 * count → 0 + count ≤ n / 512
part_sectors n count is = omega (arith, is)

-- the part of an image has the extent's sectors
has_sectors : (extent : Extent) (image : List ℕ)
    → extent.start + extent.count ≤ length image / 512
    → 0 + extent.count ≤ length (extent_of image extent.start extent.count) / 512
has_sectors extent image fits =
    let part = extent_of image extent.start extent.count in
    part_sectors (length part) extent.count
    (part_len extent.count extent.start (length image) (length part)
    (length (drop (512 * extent.start) image)) fits
    (length-drop (512 * extent.start) image) (length-take (512 * extent.count) (drop (512 * extent.start)
    image)))

-- a disk of the host's lies where it did
fits_by : (backing : Backing) (extent : Extent) (spare : ℕ) (image : List ℕ)
    → IsWithin (room_by backing (length image / 512)) (place_by backing extent spare)
    → IsWithin (room_by backing (length (bytes_by backing extent spare image) / 512))
    (place_by backing (record extent { start = 0 }) spare)
fits_by Image extent spare image fits =
    has_sectors (record { start = extent.start; count = extent.count + spare }) image fits
fits_by (Host depth) extent spare image fits = fits

-- a guest alone has its devices too
device_at : (guests : List GuestSpec) (g : ℕ) (guest : GuestSpec) → slice_get guests g ≡ Some guest
    → AreDevices guests → has_bad_device guest ≡ false
device_at guests g guest here all =
    subst (λ (s : GuestSpec). has_bad_device s ≡ false) (get_or_from_slice_get guests g guest guest here)
    (all g guest (slice_get_within guests g guest here))

only_device : (guest : GuestSpec) → has_bad_device guest ≡ false → AreDevices (at_front guest ∷ [])
only_device guest good zero d few = good
only_device guest good (suc k) d few = absurd (omega (arith, few))

pub devices_alone : (g : ℕ) (guests : List GuestSpec) (guest : GuestSpec) → slice_get guests g ≡ Some guest
    → AreDevices guests → AreDevices (at_front guest ∷ [])
devices_alone g guests guest here all = only_device guest (device_at guests g guest here all)

-- and its disks over the image
disk_at : (guests : List GuestSpec) (g : ℕ) (guest : GuestSpec) → slice_get guests g ≡ Some guest
    → AreImageDisks guests → has_bad_image_disk guest ≡ false
disk_at guests g guest here all =
    subst (λ (s : GuestSpec). has_bad_image_disk s ≡ false) (get_or_from_slice_get guests g guest guest here)
    (all g guest (slice_get_within guests g guest here))

only_disk : (guest : GuestSpec) → has_bad_image_disk guest ≡ false → AreImageDisks (at_front guest ∷ [])
only_disk guest good zero d few = good
only_disk guest good (suc k) d few = absurd (omega (arith, few))

pub image_disks_alone : (g : ℕ) (guests : List GuestSpec) (guest : GuestSpec) → slice_get guests g ≡ Some guest
    → AreImageDisks guests → AreImageDisks (at_front guest ∷ [])
image_disks_alone g guests guest here all = only_disk guest (disk_at guests g guest here all)

outlet_at : (guests : List GuestSpec) (g : ℕ) (guest : GuestSpec) → slice_get guests g ≡ Some guest
    → AreOutlets guests → guest.outlet ≤ 2 ^ 24
outlet_at guests g guest here all =
    subst (λ (s : GuestSpec). s.outlet ≤ 2 ^ 24) (get_or_from_slice_get guests g guest guest here)
    (all g guest (slice_get_within guests g guest here))

only_outlet : (guest : GuestSpec) → guest.outlet ≤ 2 ^ 24 → AreOutlets (at_front guest ∷ [])
only_outlet guest fits zero d few = fits
only_outlet guest fits (suc k) d few = absurd (omega (arith, few))

slot_at : (guests : List GuestSpec) (g : ℕ) (guest : GuestSpec) → slice_get guests g ≡ Some guest
    → slice_get (slots_of guests) g ≡ Some guest.slot
slot_at [] g guest here = absurd (cc)
slot_at (one ∷ guests) zero guest here = ap (λ (s : GuestSpec). Some s.slot) (same_Some one guest here)
slot_at (one ∷ guests) (suc g) guest here = slot_at guests g guest here

good_alone : (guest : GuestSpec) (image : List ℕ) (earlier : List SlotSpec)
    → IsGoodSlot (length image / 512) earlier guest.slot
    → IsGoodSlot (length (part_of_image guest image) / 512) [] (at_front guest).slot
good_alone guest image earlier good =
    record {
      memory = good.memory;
      depth = good.depth;
      within = fits_by guest.slot.backing guest.slot.extent guest.slot.spare image good.within;
      apart = λ k d fits. absurd (omega (arith, fits));
    }

only_one : (sectors : ℕ) (spec : SlotSpec) → IsGoodSlot sectors [] spec → (i : ℕ) (other : SlotSpec) → i < 1
    → slice_get (spec ∷ []) i ≡ Some other → IsGoodSlot sectors (take i (spec ∷ [])) other
only_one sectors spec good zero other few here =
    subst (λ (s : SlotSpec). IsGoodSlot sectors [] s) (same_Some spec other here) good
only_one sectors spec good (suc i) other few here = absurd (omega (arith, few))

pub accepted_alone : (g cache : ℕ) (guests : List GuestSpec) (guest : GuestSpec) (image : List ℕ)
    → slice_get guests g ≡ Some guest → AreOutlets guests
    → IsAccepted (length image / 512) (slots_of guests) cache →
    AreOutlets (at_front guest ∷ [])
    × IsAccepted (length (part_of_image guest image) / 512) (slots_of (at_front guest ∷ [])) cache
accepted_alone g cache guests guest image here outlets accepted =
    let found = slot_at guests g guest here in
    let good = accepted.slots_good.each g guest.slot
    (slice_get_within (slots_of guests) g guest.slot found) found in (
      only_outlet guest (outlet_at guests g guest here outlets),
      record {
        slots_good = record {
          some = omega arith;
          few = omega arith;
          each = only_one (length (part_of_image guest image) / 512) (at_front guest).slot
              (good_alone guest image (take g (slots_of guests)) good);
        };
        capacity = accepted.capacity;
      },
    )
