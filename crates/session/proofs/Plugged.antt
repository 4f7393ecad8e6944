-- The guests' further devices are plugged into their slots, one after another.
use Rattle.std.proofs.Common.{◌≡◌, ℕ, zero, suc, ◌+◌, ◌<◌, Bool, true, false, List, [], ◌∷◌, ◌++◌, length, map, take, drop, Option, Some, None, refl, sym, ◌∙◌, ap, subst, arith}
use Rattle.std.specs.Prelude.{◌||◌, slice_set, nat_le, IsSomeAnd}
use Rattle.std.specs.List.{AllByRecursion, list_any, slice_get}
use Rattle.std.specs.Option.{option_map}
use Rattle.std.proofs.lemmas.Bool.Decides.{nat_tests}
use Rattle.std.proofs.lemmas.List.{append_assoc, length-append, length-map, map-append, nil_from_length, set-set}
use Rattle.std.proofs.lemmas.Option.{get_or_from_slice_get, same_Some, slice_get-map, slice_get_within}
use Rattle.device_list.specs.declared.spec.DeviceSpec.{DeviceSpec}
use Rattle.device_list.specs.Device.{DeviceState, fresh_device}
use Rattle.device_list.specs.List.{has_bad_extent, refusal_of}
use Rattle.device_list.specs.Model.{has_bad_disk, has_bad_mtu}
use Rattle.board.specs.Lent.{made_over, opened_over}
use Rattle.board.specs.Slot.{BoardSlot, opened}
use Rattle.board.proofs.Lists.{get_set, set_same}
use Rattle.session.specs.declared.guest.GuestSpec.{GuestSpec}
use Rattle.session.specs.ImageDisks.{AreImageDisks, has_bad_behind, has_bad_image_disk, spare_of}
use Rattle.session.specs.Plugging.{AreBare, GetsDevice, GetsDevices}
use Rattle.session.specs.Refusing.{is_bad_device}
use Rattle.session.specs.Session.{before_none, devices_of, plugged, slots_of, with_fresh}

-- ---- the slots of a new board have no further device

none_opened : (guests : List GuestSpec)
    → AllByRecursion (λ (slot : BoardSlot). slot.devices ≡ []) (map opened (slots_of guests))
none_opened [] = tt
none_opened (guest ∷ guests) = (refl, none_opened guests)

many_opened : (guests : List GuestSpec) → length (map opened (slots_of guests)) ≡ length guests
many_opened guests = length-map (slots_of guests) opened ∙ length-map guests (λ guest. guest.slot)

spares_opened : (guests : List GuestSpec)
    → map (λ (slot : BoardSlot). slot.spare) (map opened (slots_of guests)) ≡ map spare_of guests
spares_opened [] = refl
spares_opened (guest ∷ guests) = ap (λ rest. spare_of guest ∷ rest) (spares_opened guests)

pub bare_opened : (guests : List GuestSpec) → AreBare guests (map opened (slots_of guests))
bare_opened guests =
    record { many = many_opened guests; spares = spares_opened guests; none = none_opened guests }

none_over : (guests : List GuestSpec) (bytes : List (List ℕ))
    → AllByRecursion (λ (slot : BoardSlot). slot.devices ≡ []) (made_over opened_over (slots_of guests) bytes)
none_over [] bytes = tt
none_over (guest ∷ guests) bytes = (refl, none_over guests (drop (length guest.slot.regions) bytes))

many_over : (guests : List GuestSpec) (bytes : List (List ℕ))
    → length (made_over opened_over (slots_of guests) bytes) ≡ length guests
many_over [] bytes = refl
many_over (guest ∷ guests) bytes = ap suc (many_over guests (drop (length guest.slot.regions) bytes))

spares_over : (guests : List GuestSpec) (bytes : List (List ℕ))
    → map (λ (slot : BoardSlot). slot.spare) (made_over opened_over (slots_of guests) bytes) ≡ map spare_of guests
spares_over [] bytes = refl
spares_over (guest ∷ guests) bytes =
    ap (λ rest. spare_of guest ∷ rest) (spares_over guests (drop (length guest.slot.regions) bytes))

pub bare_over : (guests : List GuestSpec) (bytes : List (List ℕ))
    → AreBare guests (made_over opened_over (slots_of guests) bytes)
bare_over guests bytes =
    record { many = many_over guests bytes; spares = spares_over guests bytes; none = none_over guests bytes }

none_at : (slots : List BoardSlot) (i : ℕ) (found : BoardSlot)
    → AllByRecursion (λ (slot : BoardSlot). slot.devices ≡ []) slots → slice_get slots i ≡ Some found
    → found.devices ≡ []
none_at [] i found none here = absurd (cc (here))
none_at (slot ∷ slots) zero found none here =
    ap (λ (s : BoardSlot). s.devices) (sym (same_Some slot found here)) ∙ none.0
none_at (slot ∷ slots) (suc i) found none here = none_at slots i found none.1 here

-- ---- the first guests' slots have their devices

pub length-plugged : (guests : List GuestSpec) (slots : List BoardSlot) → length (plugged guests slots) ≡ length slots
length-plugged [] slots = refl
length-plugged (guest ∷ guests) [] = refl
length-plugged (guest ∷ guests) (slot ∷ slots) = ap suc (length-plugged guests slots)

-- the slot of the next guest is as it was
next_kept : (guests : List GuestSpec) (slots : List BoardSlot) (i : ℕ)
    → slice_get (plugged (take i guests) slots) i ≡ slice_get slots i
next_kept [] slots zero = refl
next_kept [] slots (suc i) = refl
next_kept (guest ∷ guests) slots zero = refl
next_kept (guest ∷ guests) [] (suc i) = refl
next_kept (guest ∷ guests) (slot ∷ slots) (suc i) = next_kept guests slots i

past_none : {X : Type 0} (xs : List X) (k : ℕ) → k < length xs → slice_get xs k ≡ None → ⊥
past_none [] k fits none = absurd (omega (arith, fits))
past_none (x ∷ xs) zero fits none = absurd (cc (none))
past_none (x ∷ xs) (suc k) fits none = past_none xs k (omega (arith, fits)) none

pub next_bare : (guests : List GuestSpec) (slots now : List BoardSlot) (i : ℕ) → AreBare guests slots → i < length guests
    → now ≡ plugged (take i guests) slots → IsSomeAnd (slice_get now i) (λ found. length found.devices ≡ 0)
next_bare guests slots now i bare few is =
    rw (is, next_kept guests slots i) (there (slice_get slots i) refl)
  where
    there : (o : Option BoardSlot) → slice_get slots i ≡ o → IsSomeAnd o (λ found. length found.devices ≡ 0)
    there None here = absurd (past_none slots i (omega (arith, few, bare.many)) here)
    there (Some found) here = ap length (none_at slots i found bare.none here)

-- of the next guest there are as many spare sectors as it is to have, of which its disks over the image may be
spare_at : (slots : List BoardSlot) (guests : List GuestSpec) (i : ℕ) (slot : BoardSlot) (guest : GuestSpec)
    → map (λ (s : BoardSlot). s.spare) slots ≡ map spare_of guests → slice_get slots i ≡ Some slot
    → slice_get guests i ≡ Some guest → slot.spare ≡ spare_of guest
spare_at slots guests i slot guest same here there =
    same_Some slot.spare (spare_of guest)
    (sym (slice_get-map (λ (s : BoardSlot). s.spare) slots i
    ∙ ap (λ (o : Option BoardSlot). option_map (λ (s : BoardSlot). s.spare) o) here)
    ∙ ap (λ (spares : List ℕ). slice_get spares i) same
    ∙ slice_get-map spare_of guests i ∙ ap (λ (o : Option GuestSpec). option_map spare_of o) there)

pub next_disks : (guests : List GuestSpec) (slots now : List BoardSlot) (i : ℕ) (guest : GuestSpec)
    → AreBare guests slots → AreImageDisks guests → i < length guests → slice_get guests i ≡ Some guest
    → now ≡ plugged (take i guests) slots
    → IsSomeAnd (slice_get now i) (λ found. has_bad_behind found.spare [] (devices_of guest) ≡ false)
next_disks guests slots now i guest bare good few there is =
    rw (is, next_kept guests slots i) (by_slot (slice_get slots i) refl)
  where
    own : has_bad_image_disk guest ≡ false
    own = subst (λ (s : GuestSpec). has_bad_image_disk s ≡ false) (get_or_from_slice_get guests i guest guest there)
        (good i guest few)

    by_slot : (o : Option BoardSlot) → slice_get slots i ≡ o
        → IsSomeAnd o (λ found. has_bad_behind found.spare [] (devices_of guest) ≡ false)
    by_slot None here = absurd (past_none slots i (omega (arith, few, bare.many)) here)
    by_slot (Some found) here =
        subst (λ (spare : ℕ). has_bad_behind spare [] (devices_of guest) ≡ false)
        (sym (spare_at slots guests i found guest bare.spares here there)) own

one_more : (guests : List GuestSpec) (slots : List BoardSlot) (i : ℕ) (guest : GuestSpec) (found : BoardSlot)
    → slice_get guests i ≡ Some guest → slice_get slots i ≡ Some found
    → plugged (take (suc i) guests) slots
    ≡ slice_set (plugged (take i guests) slots) i (with_fresh (devices_of guest) found)
one_more [] slots i guest found here there = absurd (cc (here))
one_more (g ∷ guests) [] i guest found here there = absurd (cc (there))
one_more (g ∷ guests) (slot ∷ slots) zero guest found here there =
    let same : g ≡ guest = same_Some g guest here in
    let same' : slot ≡ found = same_Some slot found there in
    rw (same, same') refl
one_more (g ∷ guests) (slot ∷ slots) (suc i) guest found here there =
    ap (λ rest. with_fresh (devices_of g) slot ∷ rest) (one_more guests slots i guest found here there)

-- a guest more
pub next_plugged : (guests : List GuestSpec) (slots now last : List BoardSlot) (i : ℕ) (guest : GuestSpec)
    → AreBare guests slots → slice_get guests i ≡ Some guest → now ≡ plugged (take i guests) slots
    → GetsDevices i (devices_of guest) now last → last ≡ plugged (take (i + 1) guests) slots
next_plugged guests slots now last i guest bare here is gets =
    by_slot (slice_get slots i) refl ∙ ap (λ n. plugged (take n guests) slots) next
  where
    next : suc i ≡ i + 1
    next = omega arith

    by_slot : (o : Option BoardSlot) → slice_get slots i ≡ o → last ≡ plugged (take (suc i) guests) slots
    by_slot None there =
        absurd (past_none slots i (omega (arith, slice_get_within guests i guest here, bare.many)) there)
    by_slot (Some found) there =
        let now_there : slice_get now i ≡ Some found =
        ap (λ some. slice_get some i) is ∙ next_kept guests slots i ∙ there in
        gets found now_there
        ∙ ap (λ some. slice_set some i (with_fresh (devices_of guest) found)) is
        ∙ sym (one_more guests slots i guest found here there)

-- ---- the next place

both_false : (a b : Bool) → (a || b) ≡ false → (a ≡ false) × (b ≡ false)
both_false true b is = absurd (cc (is))
both_false false b is = (refl, is)

-- a device of it isn't bad, and those behind it aren't, where none is
pub good_place : (places rest : List (Option DeviceSpec)) (spec : DeviceSpec) → places ≡ Some spec ∷ rest
    → list_any is_bad_device (before_none places) ≡ false
    → (is_bad_device spec ≡ false) × (list_any is_bad_device (before_none rest) ≡ false)
good_place places rest spec next good =
    both_false (is_bad_device spec) (list_any is_bad_device (before_none rest))
    (sym (ap (λ some. list_any is_bad_device (before_none some)) next) ∙ good)

-- nor is it a disk over the image of sectors that it can't have, behind those that were plugged in
pub good_disk : (places rest : List (Option DeviceSpec)) (spec : DeviceSpec) (spare : ℕ) (done : List DeviceSpec)
    → places ≡ Some spec ∷ rest → has_bad_behind spare done (before_none places) ≡ false
    → (has_bad_extent (map fresh_device done) spare spec ≡ false)
    × (has_bad_behind spare (done ++ spec ∷ []) (before_none rest) ≡ false)
good_disk places rest spec spare done next good =
    both_false (has_bad_extent (map fresh_device done) spare spec)
    (has_bad_behind spare (done ++ spec ∷ []) (before_none rest))
    (sym (ap (λ some. has_bad_behind spare done (before_none some)) next) ∙ good)

-- ---- the devices of one slot

-- A slot has the devices of the first places, all of which have one.
pub record IsPlugging (places : List (Option DeviceSpec)) (slot k : ℕ) (old new : List BoardSlot) : Type 0 where
  pub before : BoardSlot
  pub there : slice_get old slot ≡ Some before
  pub done : List DeviceSpec
  pub count : length done ≡ k
  pub split : done ++ before_none (drop k places) ≡ before_none places
  pub disks : has_bad_behind before.spare done (before_none (drop k places)) ≡ false
  pub is : new ≡ slice_set old slot (with_fresh done before)

pub begun : (places : List (Option DeviceSpec)) (slot : ℕ) (old : List BoardSlot)
    → IsSomeAnd (slice_get old slot) (λ found. length found.devices ≡ 0)
    → IsSomeAnd (slice_get old slot) (λ found. has_bad_behind found.spare [] (before_none places) ≡ false)
    → IsPlugging places slot 0 old old
begun places slot old bare disks = by_slot (slice_get old slot) refl bare disks
  where
    by_slot : (o : Option BoardSlot) → slice_get old slot ≡ o
        → IsSomeAnd o (λ found. length found.devices ≡ 0)
        → IsSomeAnd o (λ found. has_bad_behind found.spare [] (before_none places) ≡ false)
        → IsPlugging places slot 0 old old
    by_slot None here none disks = absurd none
    by_slot (Some before) here none disks =
        let same : with_fresh [] before ≡ before =
        ap (λ (ds : List DeviceState). record before { devices = ds })
        (sym (nil_from_length before.devices none)) in
        record {
          before = before;
          there = here;
          done = [];
          count = refl;
          split = refl;
          disks = disks;
          is = sym (set_same old slot before (with_fresh [] before) here same);
        }

module _ (places : List (Option DeviceSpec)) (slot k : ℕ) (old new : List BoardSlot)
    (h : IsPlugging places slot k old new) where
  here : slice_get new slot ≡ Some (with_fresh h.done h.before)
  here = ap (λ some. slice_get some slot) h.is ∙ get_set old slot h.before (with_fresh h.done h.before) h.there

  -- the slot takes another
  pub takes : (spec : DeviceSpec) → k < 6 → is_bad_device spec ≡ false
      → drop k places ≡ Some spec ∷ drop (k + 1) places
      → IsSomeAnd (slice_get new slot) (λ found. refusal_of found.devices found.spare spec ≡ None)
  takes spec few good next =
      let many : length (map fresh_device h.done) ≡ k = length-map h.done fresh_device ∙ h.count in
      let test : nat_le 6 (length (map fresh_device h.done)) ≡ false = grind (arith, nat_tests, many) in
      let both = both_false (has_bad_mtu spec) (has_bad_disk spec) good in
      let disk = good_disk (drop k places) (drop (k + 1) places) spec h.before.spare h.done next h.disks in
      rw here (rw (test, both.0, both.1, disk.0) refl)

  pub one_plugged : (spec : DeviceSpec) (last : List BoardSlot)
      → drop k places ≡ Some spec ∷ drop (k + 1) places → GetsDevice slot spec new last
      → IsPlugging places slot (k + 1) old last
  one_plugged spec last next gets = record {
    before = h.before;
    there = h.there;
    done = h.done ++ spec ∷ [];
    count = length-append h.done (spec ∷ []) ∙ omega (arith, h.count);
    split = append_assoc h.done (spec ∷ []) (before_none (drop (k + 1) places))
        ∙ sym (ap (λ some. h.done ++ before_none some) next) ∙ h.split;
    disks = (good_disk (drop k places) (drop (k + 1) places) spec h.before.spare h.done next h.disks).1;
    is = gets (with_fresh h.done h.before) here
        ∙ ap (λ some. slice_set some slot (record h.before { devices = map fresh_device h.done ++ fresh_device spec ∷ [] }))
        h.is
        ∙ set-set old slot (with_fresh h.done h.before)
        (record h.before { devices = map fresh_device h.done ++ fresh_device spec ∷ [] })
        ∙ ap (λ (ds : List DeviceState). slice_set old slot (record h.before { devices = ds }))
        (sym (map-append fresh_device h.done (spec ∷ [])));
  }
