-- One slot's event, seen as a step of the whole board. Here the extents' being apart is used: what a
-- slot's event does to the image stays within that slot's own.
use Rattle.std.proofs.Common.{◌≡◌, ◌≢◌, ◌⊎◌, inl, inr, ℕ, zero, suc, ◌+◌, ◌<◌, ◌≤◌, Bool, true, false, ◌||◌, List, [], ◌∷◌, length, map, Option, Some, None, get_or, refl, sym, ◌∙◌, ap, subst, append-nil, arith}
use Rattle.std.proofs.Math.Bool.{or-true, or-false}
use Rattle.std.specs.Prelude.{nat_lt, slice_set, MatchOption, All, AllPairs}
use Rattle.std.specs.List.{slice_get, list_any}
use Rattle.std.specs.Option.{option_map}
use Rattle.std.proofs.Math.Seq.{map-set_same}
use Rattle.std.proofs.Math.ListN.{length-set}
use Rattle.std.proofs.lemmas.Bool.{cases_eq, cases_order}
use Rattle.std.proofs.lemmas.Bool.Decides.{nat_tests}
use Rattle.std.proofs.lemmas.List.{map-set, get_or-map, length-map, get_or-set_same, get_or-set_other, same_lists}
use Rattle.std.proofs.lemmas.Option.{get_or_from_slice_get, slice_get-map, slice_get_within}
use Rattle.sector_cache.specs.Disk.{Disk, KeepsClean}
use Rattle.sector_cache.specs.Sector.{extent_of}
use Rattle.board.specs.declared.event.Event.{Event}
use Rattle.board.specs.declared.reply.Reply.{Reply}
use Rattle.board.specs.declared.reply.Reply.TheVariants.{BadSlot}
use Rattle.board.specs.declared.reply.Record.{Record}
use Rattle.block_device.specs.declared.extent.Extent.{Extent}
use Rattle.block_device.specs.Extent.{IsWithin}
use Rattle.board.specs.Extent.{AreSound, has_sector, IsApart, outside_of}
use Rattle.board.specs.Machine.{block_irq, console_irq}
use Rattle.board.specs.declared.pause.Turn.{Turn}
use Rattle.board.specs.Image.{Health, bytes_of, health_of}
use Rattle.board.specs.Pausing.{ServesTurn, TakesTurn, met_in}
use Rattle.board.specs.Slot.{SlotState, BoardSlot, KeepsPlace, StaysInSlot, interrupt_words, state_of, whole_extent}
use Rattle.board.specs.World.{BoardState, World, SlotStep, MissingStep, StaysInExtents, Step, Serves, Handles, disturbed_of, extents_of, met_refusal, noted, seen}
pub use Rattle.board.proofs.Lists.{others_kept, set_same}
use Rattle.board.proofs.Outside.{outside_kept, outside_more, extent_apart}
use Rattle.board.proofs.Parts.{part_of_run}

-- a slot that keeps its place has the same sectors
pub same_whole : (slot new : BoardSlot) → KeepsPlace slot new → whole_extent new ≡ whole_extent slot
same_whole slot new same = rw (same.0, same.1) refl

-- where a slot keeps its extent, all do
pub extents_of-set : (slots : List BoardSlot) (h : ℕ) (slot new : BoardSlot) → slice_get slots h ≡ Some slot
    → KeepsPlace slot new → extents_of (slice_set slots h new) ≡ extents_of slots
extents_of-set slots h slot new here same =
    map-set_same whole_extent slots h new slot (same_whole slot new same
    ∙ ap whole_extent (sym (get_or_from_slice_get slots h slot slot here)))

-- and the board stays sound
pub sound_set : (sectors : ℕ) (slots : List BoardSlot) (h : ℕ) (slot new : BoardSlot)
    → KeepsPlace slot new → slice_get slots h ≡ Some slot → AreSound sectors (extents_of slots)
    → AreSound sectors (extents_of (slice_set slots h new))
sound_set sectors slots h slot new same here sound = rw (extents_of-set slots h slot new here same) sound

-- each slot's extent lies in the image
pub slot_within : (sectors : ℕ) (slots : List BoardSlot) (h : ℕ) (slot : BoardSlot)
    → All (IsWithin sectors) (extents_of slots) → slice_get slots h ≡ Some slot
    → IsWithin sectors (whole_extent slot)
slot_within sectors slots h slot within here =
    let fits : h < length slots = slice_get_within slots h slot here in
    rw (get_or-map whole_extent slots h slot (whole_extent slot) fits, get_or_from_slice_get slots h slot slot here) at
    (within h (whole_extent slot) (omega (arith, length-map slots whole_extent)))

-- and the part of it that its own disk has
pub own_within : (sectors : ℕ) (slot : BoardSlot) → IsWithin sectors (whole_extent slot) → IsWithin sectors slot.extent
own_within sectors slot within = omega (arith, within)

-- apart is apart from either side
apart_sym : (one other : Extent) → IsApart one other → IsApart other one
apart_sym one other apart sector = let never = apart sector in grind (arith, never)

apart_ats : (slots : List BoardSlot) (h k : ℕ) (d : BoardSlot) → h < length slots → k < length slots
    → IsApart (get_or (map whole_extent slots) h (whole_extent d)) (get_or (map whole_extent slots) k (whole_extent d))
    → IsApart (whole_extent (get_or slots h d)) (whole_extent (get_or slots k d))
apart_ats slots h k d fits fits' apart =
    subst (λ (e : Extent). IsApart e (whole_extent (get_or slots k d)))
    (get_or-map whole_extent slots h d (whole_extent d) fits)
    (subst (λ (e : Extent). IsApart (get_or (map whole_extent slots) h (whole_extent d)) e)
    (get_or-map whole_extent slots k d (whole_extent d) fits') apart)

-- two slots of a board are apart
slots_apart : (slots : List BoardSlot) → AllPairs IsApart (extents_of slots) → (h k : ℕ) (d : BoardSlot)
    → h < length slots → k < length slots → (h ≡ k) ⊎ ((h < k) ⊎ (k < h)) → h ≢ k
    → IsApart (whole_extent (get_or slots h d)) (whole_extent (get_or slots k d))
slots_apart slots apart h k d fits fits' (inl same) differ = absurd (differ same)
slots_apart slots apart h k d fits fits' (inr (inl before)) differ =
    apart_ats slots h k d fits fits' (apart h k (whole_extent d) before (omega (arith, length-map slots whole_extent)))
slots_apart slots apart h k d fits fits' (inr (inr behind)) differ =
    apart_sym (whole_extent (get_or slots k d)) (whole_extent (get_or slots h d))
    (apart_ats slots k h d fits' fits (apart k h (whole_extent d) behind (omega (arith, length-map slots whole_extent))))

-- what a guest can see stays where the bytes of its sectors do
pub state_same : (slot : BoardSlot) (xs ys : List ℕ)
    → extent_of xs (whole_extent slot).start (whole_extent slot).count
    ≡ extent_of ys (whole_extent slot).start (whole_extent slot).count → state_of xs slot ≡ state_of ys slot
state_same slot xs ys same =
    let start = slot.extent.start in
    let count = slot.extent.count in
    let all = count + slot.spare in
    let part : (first few : ℕ) → first + few ≤ all → extent_of xs (start + first) few ≡ extent_of ys (start + first) few =
    λ first few inside. sym (part_of_run xs start all first few inside) ∙ ap (λ bs. extent_of bs first few) same
    ∙ part_of_run ys start all first few inside in
    let first : start ≡ start + 0 = omega arith in
    let own : extent_of xs start count ≡ extent_of ys start count =
    subst (λ k. extent_of xs k count ≡ extent_of ys k count) (sym first) (part 0 count (omega arith)) in
    let spare : extent_of xs (start + count) slot.spare ≡ extent_of ys (start + count) slot.spare =
    part count slot.spare (omega arith) in
    ap (λ (bytes : List ℕ). record (state_of xs slot) { extent = bytes }) own
    ∙ ap (λ (bytes : List ℕ). record (state_of xs slot) { extent = extent_of ys start count; spare_bytes = bytes }) spare

-- one slot changed, and the image within that slot's extent alone: the states of all others stay
states_set : (slots : List BoardSlot) (h : ℕ) (slot new : BoardSlot) (xs ys : List ℕ)
    → AllPairs IsApart (extents_of slots) → slice_get slots h ≡ Some slot
    → outside_of (whole_extent slot ∷ []) xs ≡ outside_of (whole_extent slot ∷ []) ys
    → map (state_of ys) (slice_set slots h new) ≡ slice_set (map (state_of xs) slots) h (state_of ys new)
states_set slots h slot new xs ys apart here same = map-set (state_of ys) slots h new
    ∙ same_lists _ _ long each
  where
    fits : h < length slots
    fits = slice_get_within slots h slot here

    long : length (slice_set (map (state_of ys) slots) h (state_of ys new))
        ≡ length (slice_set (map (state_of xs) slots) h (state_of ys new))
    long = simp (length-set, length-map) refl

    other : (k : ℕ) → k < length slots → (k ≡ h → ⊥)
        → state_of ys (get_or slots k slot) ≡ state_of xs (get_or slots k slot)
    other k fits' differ =
        let slot_is : get_or slots h slot ≡ slot = get_or_from_slice_get slots h slot slot here in
        let side : IsApart (whole_extent slot) (whole_extent (get_or slots k slot)) =
        rw slot_is at (slots_apart slots apart h k slot fits fits' (cases_order h k)
        (λ e. differ (sym e))) in
        state_same (get_or slots k slot) ys xs
        (sym (extent_apart (whole_extent slot) (whole_extent (get_or slots k slot)) side xs ys same))

    each_at : (k : ℕ) (d : SlotState) → k < length slots → (k ≡ h) ⊎ (k ≡ h → ⊥)
        → get_or (slice_set (map (state_of ys) slots) h (state_of ys new)) k d
        ≡ get_or (slice_set (map (state_of xs) slots) h (state_of ys new)) k d
    each_at k d fits' (inl is) =
        let one : h < length (map (state_of ys) slots) = omega (arith, length-map slots (state_of ys)) in
        let two : h < length (map (state_of xs) slots) = omega (arith, length-map slots (state_of xs)) in
        rw is (get_or-set_same (map (state_of ys) slots) h (state_of ys new) d one
        ∙ sym (get_or-set_same (map (state_of xs) slots) h (state_of ys new) d two))
    each_at k d fits' (inr differ) =
        get_or-set_other (map (state_of ys) slots) h k (state_of ys new) d differ
        ∙ (get_or-map (state_of ys) slots k slot d fits'
        ∙ (other k fits' differ
        ∙ (sym (get_or-map (state_of xs) slots k slot d fits')
        ∙ sym (get_or-set_other (map (state_of xs) slots) h k (state_of ys new) d differ))))

    each : (k : ℕ) (d : SlotState) → k < length (slice_set (map (state_of ys) slots) h (state_of ys new))
        → get_or (slice_set (map (state_of ys) slots) h (state_of ys new)) k d
        ≡ get_or (slice_set (map (state_of xs) slots) h (state_of ys new)) k d
    each k d within = each_at k d (simp (length-set, length-map) at within) (cases_eq k h)

-- a sector of a slot's extent is in one of the extents
in_some : (slots : List BoardSlot) (h : ℕ) (slot : BoardSlot) → slice_get slots h ≡ Some slot → (sector : ℕ)
    → has_sector (whole_extent slot) sector ≡ true → list_any (λ e. has_sector e sector) (extents_of slots) ≡ true
in_some [] h slot here sector is = absurd (cc)
in_some (s ∷ slots) zero slot here sector is = let same : s ≡ slot = cc in rw (same, is) refl
in_some (s ∷ slots) (suc h) slot here sector is = let rest = in_some slots h slot here sector is in
    grind (arith, nat_tests, rest)

-- a step of a slot that is there, from what its own guest may be given
pub step_there : {A : Type 0} (old new : World) (event : Event A) (written : Record A) (state : SlotState)
    → slice_get old.slots event.slot ≡ Some state → SlotStep old event.slot state event.what written new
    → Step old event written new
step_there old new event written state here step =
    subst (λ (o : Option SlotState). MatchOption o (MissingStep old event.slot written new)
    (λ s. SlotStep old event.slot s event.what written new)) (sym here) step

-- a step of a slot that is missing
pub step_missing : {A : Type 0} (old : World) (event : Event A) → slice_get old.slots event.slot ≡ None
    → (written : Record A) → MissingStep old event.slot written old → Step old event written old
step_missing old event missing written step =
    subst (λ (o : Option SlotState). MatchOption o (MissingStep old event.slot written old)
    (λ s. SlotStep old event.slot s event.what written old)) (sym missing) step

-- a step is of a slot that is missing, or of this one
pub by_slot : {A P : Type 0} (old : World) (event : Event A) (written : Record A) (new : World)
    → (MissingStep old event.slot written new → P)
    → ((state : SlotState) → slice_get old.slots event.slot ≡ Some state
    → SlotStep old event.slot state event.what written new → P) → Step old event written new → P
by_slot {A} {P} old event written new missing own step = either (slice_get old.slots event.slot) refl step
  where
    either : (found : Option SlotState) → slice_get old.slots event.slot ≡ found
        → MatchOption found (MissingStep old event.slot written new)
        (λ state. SlotStep old event.slot state event.what written new) → P
    either None here taken = missing taken
    either (Some state) here taken = own state here taken

-- a slot notes a refusal: so does the board
pub noted_set : (slots : List BoardSlot) (h : ℕ) (slot new : BoardSlot) (met : Bool)
    → slice_get slots h ≡ Some slot → new.disturbed ≡ (slot.disturbed || met)
    → disturbed_of (slice_set slots h new) ≡ noted h met (disturbed_of slots)
noted_set slots h slot new true here is =
    map-set (λ (s : BoardSlot). s.disturbed) slots h new
    ∙ ap (λ b. slice_set (disturbed_of slots) h b) (is ∙ or-true slot.disturbed)
noted_set slots h slot new false here is =
    map-set_same (λ (s : BoardSlot). s.disturbed) slots h new slot ((is ∙ or-false slot.disturbed)
    ∙ ap (λ (s : BoardSlot). s.disturbed) (sym (get_or_from_slice_get slots h slot slot here)))

-- where the failures stay nothing is noted
pub noted_none : (h failures : ℕ) (flags : List Bool) → flags ≡ noted h (nat_lt failures failures) flags
noted_none h failures flags = let stays : nat_lt failures failures ≡ false =
    grind (arith, nat_tests) in rw stays refl

-- what stays in one slot stays in the extents of all
pub stays_in_extents : {I : Type 0} (disk : I → Disk) (slots : List BoardSlot) (old new : I) (h : ℕ)
    (slot after : BoardSlot)
    → slice_get slots h ≡ Some slot → StaysInSlot slot after (disk old) (disk new)
    → StaysInExtents disk (record { slots = slots; image = old })
    (record { slots = slice_set slots h after; image = new })
stays_in_extents disk slots old new h slot after here stays =
    let extents = extents_of-set slots h slot after here stays.place in
    record {
      tells = λ tells. (outside_kept (whole_extent slot) (disk old).contents (disk new).contents tells
          stays.image.outside.contents).tells;
      outside = λ tells.
          ap (λ es. outside_of es (bytes_of (disk new))) extents
          ∙ sym (outside_more (extents_of slots) (whole_extent slot) (λ sector. in_some slots h slot here sector) 0
          (bytes_of (disk old)) (bytes_of (disk new))
          (outside_kept (whole_extent slot) (disk old).contents (disk new).contents tells
          stays.image.outside.contents).outside);
      extents = extents;
      sectors = stays.image.outside.sectors;
      rises = stays.image.rises;
      clean = stays.image.clean;
    }

clean_still : (a b c : Disk) → a.failures ≤ b.failures → b.failures ≤ c.failures → KeepsClean a b
    → KeepsClean b c → KeepsClean a c
clean_still a b c up more p q = λ same clean.
    let first : b.failures ≡ a.failures = omega (arith, up, more, same) in
    q (same ∙ sym first) (p first clean)

-- and what stays in two steps stays in both
pub stays_still : {I : Type 0} (disk : I → Disk) (a b c : BoardState I) → StaysInExtents disk a b
    → StaysInExtents disk b c → StaysInExtents disk a c
stays_still disk a b c p q = record {
  tells = λ tells. q.tells (p.tells tells);
  outside = λ tells. q.outside (p.tells tells) ∙ p.outside tells;
  extents = q.extents ∙ p.extents;
  sectors = q.sectors ∙ p.sectors;
  rises = omega (arith, p.rises, q.rises);
  clean = clean_still (disk a.image) (disk b.image) (disk c.image) p.rises q.rises p.clean q.clean;
}

pub stays_same : {I : Type 0} (disk : I → Disk) (board : BoardState I) → StaysInExtents disk board board
stays_same disk board = record {
  tells = λ tells. tells;
  outside = λ tells. refl;
  extents = refl;
  sectors = refl;
  rises = omega arith;
  clean = λ same clean. clean;
}

-- A slot of the board took a turn, and left the image's bytes outside its own extent as they were: so the
-- board took it.
pub takes : {A : Type 0} (Comes : SlotState → Health → Health → SlotState → List ℕ → Turn A → Type 0)
    (slots : List BoardSlot) (old new : Disk) (h : ℕ) (slot after : BoardSlot) (turn : Turn A)
    (block console : ℕ) (out_before out_after : List ℕ) →
    AllPairs IsApart (extents_of slots) → slice_get slots h ≡ Some slot → KeepsPlace slot after →
    after.disturbed ≡ (slot.disturbed || met_in turn old.failures new.failures) →
    outside_of (whole_extent slot ∷ []) (bytes_of old) ≡ outside_of (whole_extent slot ∷ []) (bytes_of new) →
    ServesTurn Comes (state_of (bytes_of old) slot) (health_of old) (health_of new)
    (state_of (bytes_of new) after) turn out_before out_after →
    (block, console) ≡ interrupt_words after →
    TakesTurn Comes (seen slots old) h turn block console out_before out_after
    (seen (slice_set slots h after) new)
takes Comes slots old new h slot after turn block console out_before out_after apart here extent notes stays
    serves words = record {
      output = serves.output;
      taken = record {
        state = state_of (bytes_of old) slot;
        there = slice_get-map (state_of (bytes_of old)) slots h
            ∙ ap (λ (o : Option BoardSlot). option_map (state_of (bytes_of old)) o) here;
        after = state_of (bytes_of new) after;
        comes = serves.comes;
        block_is = ap (λ (w : ℕ × ℕ). w.0) words;
        console_is = ap (λ (w : ℕ × ℕ). w.1) words;
        slots = states_set slots h slot after (bytes_of old) (bytes_of new) apart here stays;
        disturbed = noted_set slots h slot after (met_in turn old.failures new.failures) here notes;
        outside =
            ap (λ es. outside_of es (bytes_of new)) (extents_of-set slots h slot after here extent)
            ∙ sym (outside_more (extents_of slots) (whole_extent slot) (λ sector. in_some slots h slot here sector) 0
            (bytes_of old) (bytes_of new) stays);
      };
      appended = serves.appended;
    }

-- A slot of the board served its guest, and left the image's bytes outside its own extent as they were:
-- the board handled the event.
pub handles : {A : Type 0} (slots : List BoardSlot) (old new : Disk) (event : Event A)
    (slot after : BoardSlot) (reply : Reply A) (block console : ℕ) (out_before out_after : List ℕ) →
    AllPairs IsApart (extents_of slots) → slice_get slots event.slot ≡ Some slot
    → KeepsPlace slot after →
    after.disturbed ≡ (slot.disturbed || met_refusal reply old.failures new.failures) →
    outside_of (whole_extent slot ∷ []) (bytes_of old) ≡ outside_of (whole_extent slot ∷ []) (bytes_of new) →
    Serves (state_of (bytes_of old) slot) event.what (health_of old) (health_of new)
    (state_of (bytes_of new) after) reply out_before out_after →
    block ≡ block_irq (state_of (bytes_of new) after)
    → console ≡ console_irq (state_of (bytes_of new) after) →
    Handles (seen slots old) event reply block console out_before out_after
    (seen (slice_set slots event.slot after) new)
handles slots old new event slot after reply block console out_before out_after apart here extent notes stays
    serves block_is console_is = record {
      output = serves.output;
      step =
          step_there (seen slots old) (seen (slice_set slots event.slot after) new) event _
          (state_of (bytes_of old) slot)
          (slice_get-map (state_of (bytes_of old)) slots event.slot
          ∙ ap (λ (o : Option BoardSlot). option_map (state_of (bytes_of old)) o) here)
          (record {
            outcome = record { state = state_of (bytes_of new) after; reply = reply; output = serves.output };
            given = serves.given;
            recorded = rw (block_is, console_is) refl;
            slots = states_set slots event.slot slot after (bytes_of old) (bytes_of new) apart here stays;
            disturbed = noted_set slots event.slot slot after
                (met_refusal reply old.failures new.failures) here notes;
            outside =
                ap (λ es. outside_of es (bytes_of new))
                (extents_of-set slots event.slot slot after here extent)
                ∙ sym (outside_more (extents_of slots) (whole_extent slot)
                (λ sector. in_some slots event.slot slot here sector) 0 (bytes_of old) (bytes_of new) stays);
          });
      appended = serves.appended;
    }

-- an event of a slot that the board lacks
pub handles_missing : {A : Type 0} (slots : List BoardSlot) (disk : Disk) (event : Event A) (out : List ℕ)
    → slice_get slots event.slot ≡ None
    → Handles (seen slots disk) event BadSlot 0 0 out out (seen slots disk)
handles_missing slots disk event out missing = record {
  output = [];
  step =
      step_missing (seen slots disk) event
      (slice_get-map (state_of (bytes_of disk)) slots event.slot
      ∙ ap (λ (o : Option BoardSlot). option_map (state_of (bytes_of disk)) o) missing)
      _ (record { recorded = refl; same = refl });
  appended = sym (append-nil out);
}
