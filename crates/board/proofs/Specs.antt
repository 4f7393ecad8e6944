-- Descriptions of boards: what is known after some slots were found good, and what a refusal says.
use Rattle.std.proofs.Common.{◌≡◌, ◌⊎◌, inl, inr, ℕ, ◌+◌, ◌<◌, ◌≤◌, List, [], ◌∷◌, ◌++◌, false, length, map, take, Some, get_or, refl, sym, ◌∙◌, ap, subst, arith, length-take-le}
use Rattle.std.specs.Prelude.{All, AllPairs}
use Rattle.std.specs.List.{slice_get}
use Rattle.std.proofs.lemmas.Bool.{cases_lt}
use Rattle.std.proofs.lemmas.List.{get_or-take, get_or-map, length-map, map_more}
use Rattle.std.proofs.lemmas.List.Elements.{All-map}
use Rattle.std.proofs.lemmas.Option.{slice_get-get_or}
use Rattle.guest_memory.specs.Faults.{AreGood as AreGoodRegions}
use Rattle.board.specs.declared.spec.SlotSpec.{SlotSpec}
use Rattle.block_device.specs.declared.extent.Extent.{Extent}
use Rattle.block_device.specs.Extent.{IsWithin}
use Rattle.board.specs.Extent.{IsApart, AreSound}
use Rattle.board.specs.Fault.{IsGoodSlot, GoodBelow, AreGood, HasDepthBy, HasRoom, HasRoomBy, most_sectors, place_by, room_by, share}
use Rattle.board.specs.declared.spec.Backing.{Backing}
use Rattle.board.specs.declared.spec.Backing.TheVariants.{Image, Host}
use Rattle.board.specs.Slot.{extent_by, opened, spare_by}
use Rattle.board.specs.World.{extents_of}

-- what a good slot has of the image lies in it
share_within : (sectors : ℕ) (backing : Backing) (extent : Extent) (spare : ℕ)
    → IsWithin (room_by backing sectors) (place_by backing extent spare)
    → IsWithin sectors (record {
      start = (extent_by backing extent).start;
      count = (extent_by backing extent).count + spare_by backing spare;
    })
share_within sectors Image extent spare within = within
share_within sectors (Host depth) extent spare within = omega arith

room_of : (sectors : ℕ) (backing : Backing) (extent : Extent) (spare : ℕ) → HasDepthBy backing
    → IsWithin (room_by backing sectors) (place_by backing extent spare) → HasRoomBy backing extent
room_of sectors Image extent spare depth within = tt
room_of sectors (Host depth) extent spare has within =
    let few : extent.count ≤ most_sectors = omega (arith, within) in
    (omega (arith, few), has.1)

-- the slots before a place all lie in the image
pub within_below : (sectors : ℕ) (slots : List SlotSpec) (n : ℕ) → n ≤ length slots
    → GoodBelow sectors slots n → All (λ spec. IsWithin sectors (share spec)) (take n slots)
within_below sectors slots n most good k d below =
    let shorter : length (take n slots) ≡ n = length-take-le n slots most in
    let near : k < n = omega arith in
    let one = get_or slots k d in
    subst (λ (spec : SlotSpec). IsWithin sectors (share spec)) (sym (get_or-take n slots k d near))
    (share_within sectors one.backing one.extent one.spare
    (good k one near (slice_get-get_or slots k d (omega arith))).within)

more_at : (sectors : ℕ) (slots : List SlotSpec) (n : ℕ) (last : SlotSpec) → GoodBelow sectors slots n
    → IsGoodSlot sectors (take n slots) last → slice_get slots n ≡ Some last → (i : ℕ) (spec : SlotSpec)
    → i < n + 1 → slice_get slots i ≡ Some spec → (i < n) ⊎ (n ≤ i) → IsGoodSlot sectors (take i slots) spec
more_at sectors slots n last good one here i spec below there (inl before) = good i spec before there
more_at sectors slots n last good one here i spec below there (inr behind) =
    let same : n ≡ i = omega arith in
    let spec_is : last ≡ spec = cc (ap (λ k. slice_get slots k) same) in
    subst (λ (s : SlotSpec). IsGoodSlot sectors (take i slots) s) spec_is
    (subst (λ k. IsGoodSlot sectors (take k slots) last) same one)

-- one good slot more
pub good_more : (sectors : ℕ) (slots : List SlotSpec) (n : ℕ) (d : SlotSpec) → n < length slots
    → GoodBelow sectors slots n → IsGoodSlot sectors (take n slots) (get_or slots n d)
    → GoodBelow sectors slots (n + 1)
good_more sectors slots n d below good one i spec near there =
    more_at sectors slots n (get_or slots n d) good one (slice_get-get_or slots n d below) i spec near
    there (cases_lt i n)

-- where all slots were found good, they are
pub good_all : (sectors : ℕ) (slots : List SlotSpec) (n : ℕ) → length slots ≤ n → GoodBelow sectors slots n
    → GoodBelow sectors slots (length slots)
good_all sectors slots n all good i spec below there = good i spec (omega arith) there

-- every memory that is asked for may be had
pub memories : (sectors : ℕ) (slots : List SlotSpec) → AreGood sectors slots
    → All (λ spec. AreGoodRegions spec.regions) slots
memories sectors slots good k d below =
    (good.each k (get_or slots k d) below (slice_get-get_or slots k d below)).memory

-- and every disk that the host is to serve
pub rooms : (sectors : ℕ) (slots : List SlotSpec) → AreGood sectors slots → All HasRoom slots
rooms sectors slots good k d below =
    let one = get_or slots k d in
    let is = good.each k one below (slice_get-get_or slots k d below) in
    room_of sectors one.backing one.extent one.spare is.depth is.within

pub extents_of-opened : (slots : List SlotSpec)
    → extents_of (map opened slots) ≡ map share slots
extents_of-opened [] = refl
extents_of-opened (spec ∷ slots) = ap (λ (es : List Extent). share spec ∷ es) (extents_of-opened slots)

apart_at : (sectors : ℕ) (slots : List SlotSpec) → AreGood sectors slots → (i j : ℕ) (d : SlotSpec) → i < j
    → j < length slots → IsApart (share (get_or slots i d)) (share (get_or slots j d))
apart_at sectors slots good i j d before below =
    let one : IsGoodSlot sectors (take j slots) (get_or slots j d) =
    good.each j (get_or slots j d) below (slice_get-get_or slots j d below) in
    let shorter : length (take j slots) ≡ j = length-take-le j slots (omega arith) in
    subst (λ (s : SlotSpec). IsApart (share s) (share (get_or slots j d))) (get_or-take j slots i d before)
    (one.apart i d (omega arith))

apart_all : (sectors : ℕ) (slots : List SlotSpec) → AreGood sectors slots
    → AllPairs IsApart (map share slots)
apart_all sectors slots good i j d before below =
    let some : SlotSpec = record {
      regions = [];
      extent = d;
      spare = 0;
      backing = Image;
      read_only = false;
      cols = 0;
      rows = 0;
      identity = [];
    } in
    let extent : SlotSpec → Extent = λ spec. share spec in
    let fits : j < length slots = omega (arith, length-map slots extent) in
    rw (get_or-map extent slots i some d (omega arith), get_or-map extent slots j some d fits)
    (apart_at sectors slots good i j some before fits)

-- slots that were found good stand side by side on the image
pub sound : (sectors : ℕ) (slots : List SlotSpec) → AreGood sectors slots
    → AreSound sectors (extents_of (map opened slots))
sound sectors slots good =
    subst (AreSound sectors) (sym (extents_of-opened slots)) (record {
      within = All-map (IsWithin sectors) share slots
          (λ k d below. let one = get_or slots k d in
          share_within sectors one.backing one.extent one.spare
          (good.each k one below (slice_get-get_or slots k d below)).within);
      apart = apart_all sectors slots good;
    })

-- one slot more was opened
pub opened_more : {X : Type 0}
    → (made : SlotSpec → X) (specs : List SlotSpec) (i : ℕ) (spec : SlotSpec) (slots new : List X) (slot : X)
    → i < length specs → spec ≡ get_or specs i spec
    → slots ≡ map made (take i specs) → slot ≡ made spec → new ≡ slots ++ slot ∷ []
    → new ≡ map made (take (i + 1) specs)
opened_more {X} made specs i spec slots new slot below is before slot_is pushed =
    pushed
    ∙ ap (λ (xs : List X). xs ++ slot ∷ []) before
    ∙ ap (λ (x : X). map made (take i specs) ++ x ∷ []) (slot_is ∙ ap made is)
    ∙ sym (map_more made specs i spec below)
