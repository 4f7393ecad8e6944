-- What a stop within an event leaves of the disks of other guests.
use Rattle.std.proofs.Common.{◌≡◌, ◌⊎◌, inl, inr, ℕ, ◌+◌, ◌*◌, ◌<◌, ◌≤◌, List, ◌++◌, length, take, drop, Some, refl, sym, ◌∙◌, ap, subst, arith}
use Rattle.std.specs.List.{slice_get}
use Rattle.std.proofs.lemmas.Bool.{cases_lt}
use Rattle.std.proofs.lemmas.Bool.Decides.{nat_tests}
use Rattle.std.proofs.lemmas.List.{take-append-drop}
use Rattle.std.proofs.lemmas.Option.{slice_get_past}
use Rattle.sector_cache.specs.Sector.{extent_of}
use Rattle.sector_cache.specs.Stop.{BeginsAt, DiffersWithin, Only}
use Rattle.sector_cache.proofs.Stops as stops
use Rattle.block_device.specs.declared.extent.Extent.{Extent}
use Rattle.block_device.specs.Extent.{TouchesExtent}
use Rattle.board.specs.Durable.{TouchesSlot}
use Rattle.board.specs.Extent.{IsApart}
use Rattle.board.specs.Slot.{BoardSlot, state_of, whole_extent}
use Rattle.board.specs.World.{BoardState}
use Rattle.board.proofs.Seats.{state_same}

-- two extents that are apart stand one behind the other, where each has a sector
in_order : (one other : Extent) → IsApart one other → 0 < one.count → 0 < other.count
    → (other.start + other.count ≤ one.start) ⊎ (one.start + one.count ≤ other.start)
in_order one other apart some more =
    elim (cases_lt other.start one.start) [
      | inl below ↦
          elim (cases_lt one.start (other.start + other.count)) [
            | inl within ↦ let never = apart one.start in absurd (grind (arith, nat_tests, never))
            | inr past ↦ inl past
          ]
      | inr from ↦
          elim (cases_lt other.start (one.start + one.count)) [
            | inl within ↦ let never = apart other.start in absurd (grind (arith, nat_tests, never))
            | inr past ↦ inr past
          ]
    ]

-- nothing differs within no sector
same_bytes : (place end : ℕ) (old new : List ℕ) → end ≡ place → DiffersWithin place end old new → new ≡ old
same_bytes place end old new none d =
    sym (take-append-drop place new)
    ∙ ap (λ front. front ++ drop place new) d.before
    ∙ ap (λ rest. take place old ++ rest) (subst (λ k. drop k new ≡ drop k old) none d.behind)
    ∙ take-append-drop place old

no_sector : (bytes left : List ℕ) (start count : ℕ) → count ≡ 0
    → extent_of left start count ≡ extent_of bytes start count
no_sector bytes left start count none = rw none refl

-- what differs within an extent alone is the same in one that is apart
apart_same : (one other : Extent) (bytes left : List ℕ) → IsApart one other
    → DiffersWithin (512 * one.start) (512 * (one.start + one.count)) bytes left
    → extent_of left other.start other.count ≡ extent_of bytes other.start other.count
apart_same one other bytes left apart d =
    elim (cases_lt 0 one.count) [
      | inr none ↦
          ap (λ xs. extent_of xs other.start other.count)
          (same_bytes (512 * one.start) (512 * (one.start + one.count)) bytes left (omega (arith, none)) d)
      | inl some ↦
          elim (cases_lt 0 other.count) [
            | inr none ↦ no_sector bytes left other.start other.count (omega (arith, none))
            | inl more ↦
                stops.extent_apart (512 * one.start) (512 * (one.start + one.count)) other.start
                other.count bytes left d
                (elim (in_order one other apart some more)
                [ inl before ↦ inl (omega (arith, before)) | inr behind ↦ inr (omega (arith, behind)) ])
          ]
    ]

module _ {I : Type 0} (moment : I → ℕ) (may_leave : I → List ℕ → Type 0)
    (left_since : I → ℕ → List ℕ → Type 0) where
  pub untouched : (extent : Extent) (image : I) → TouchesExtent moment may_leave left_since extent image image
  untouched extent image = stops.touches_none (512 * extent.start) (512 * (extent.start + extent.count))

  -- an event of no slot
  pub touches_missing : (slots : List BoardSlot) (g : ℕ) (image : I) → length slots ≤ g
      → TouchesSlot moment may_leave left_since g (record { slots = slots; image = image })
      (record { slots = slots; image = image })
  touches_missing slots g image past = rw (slice_get_past slots g past) (stops.touches_none 0 0)

  -- an event of a slot
  pub touches_slot : (slots slots' : List BoardSlot) (g : ℕ) (slot : BoardSlot) (old new : I)
      → slice_get slots g ≡ Some slot → TouchesExtent moment may_leave left_since (whole_extent slot) old new
      → TouchesSlot moment may_leave left_since g (record { slots = slots; image = old })
      (record { slots = slots'; image = new })
  touches_slot slots slots' g slot old new here touches = rw here touches

  touched_extent : (old new : BoardState I) (g : ℕ) (slot : BoardSlot) → slice_get old.slots g ≡ Some slot
      → TouchesSlot moment may_leave left_since g old new
      → TouchesExtent moment may_leave left_since (whole_extent slot) old.image new.image
  touched_extent old new g slot here touches = rw here at touches

  -- an extent that is apart from the slot's is left as before
  pub apart_left : (old new : BoardState I) (g since : ℕ) (own other : BoardSlot) (bytes left : List ℕ)
      → TouchesSlot moment may_leave left_since g old new → slice_get old.slots g ≡ Some own
      → IsApart (whole_extent own) (whole_extent other)
      → Only bytes (may_leave old.image) → BeginsAt (may_leave old.image) (left_since old.image) since
      → left_since new.image since left
      → state_of left other ≡ state_of bytes other
  apart_left old new g since own other bytes left touches here apart only begins past =
      let mine = whole_extent own in
      state_same other left bytes (apart_same mine (whole_extent other) bytes left apart
      (stops.known_beside (512 * mine.start) (512 * (mine.start + mine.count)) since bytes
      left (touched_extent old new g own here touches) begins only past))
