-- An event that changes nothing of a session.
use Rattle.std.proofs.Common.{◌≡◌, ◌≢◌, ℕ, ◌<◌, ◌≤◌, true, false, ◌↔◌, List, length, map, Option, Some, None, refl, sym, append-nil, arith}
use Rattle.std.specs.Prelude.{nat_lt, if◌then◌else◌, slice_set}
use Rattle.std.specs.List.{slice_get}
use Rattle.std.proofs.lemmas.List.{set-get_or, length-map}
use Rattle.std.proofs.lemmas.Option.{get_or_from_slice_get, slice_get-map, slice_get_within, slice_get_past, slice_get_cases}
use Rattle.std.proofs.lemmas.Bool.Decides.{nat_tests}
use Rattle.board.specs.declared.event.Event.{Event}
use Rattle.board.specs.declared.event.EventKind.{EventKind}
use Rattle.board.specs.declared.reply.Reply.{Reply}
use Rattle.board.specs.declared.reply.Reply.TheVariants.{BadSlot, BadRange, NoMemory}
use Rattle.board.specs.Machine.{record_of}
use Rattle.board.specs.Outcome.{replies}
use Rattle.board.specs.Slot.{SlotState, BoardSlot, state_of}
use Rattle.board.specs.World.{Answers, MayGive, bad_slot, lacks_memory}
use Rattle.board.specs.Within.{TakesWithin}
use Rattle.session.specs.Session.{IsStep, SessionState, limit_of, output_of, world_of}

pub shown_at : (slots : List BoardSlot) (bytes : List ℕ) (h : ℕ) (slot : BoardSlot)
    → slice_get slots h ≡ Some slot → slice_get (map (state_of bytes) slots) h ≡ Some (state_of bytes slot)
shown_at slots bytes h slot here = rw (slice_get-map (state_of bytes) slots h, here) refl

none_shown : (slots : List BoardSlot) (bytes : List ℕ) (h : ℕ) → length slots ≤ h
    → slice_get (map (state_of bytes) slots) h ≡ None
none_shown slots bytes h past = slice_get_past (map (state_of bytes) slots) h (rw length-map past)

put_back : (states : List SlotState) (h : ℕ) (state : SlotState) → slice_get states h ≡ Some state
    → states ≡ slice_set states h state
put_back states h state here =
    sym (rw (← get_or_from_slice_get states h state state here) (set-get_or states h state))

-- an event of no slot
missing_answers : {A : Type 0} (s : SessionState) (event : Event A) (output : List ℕ)
    → length s.slots ≤ event.slot → Answers {A = A} (world_of s) event BadSlot output output (world_of s)
missing_answers s event output past = record {
  written = bad_slot event.slot;
  step = rw (none_shown s.slots s.image event.slot past) (record { recorded = refl; same = refl });
  replied = refl;
  appended = sym (append-nil output);
}

-- an event after which the session is as before
as_before : {A : Type 0} (s : SessionState) (event : Event A) (reply : Reply A) → reply ≢ NoMemory
    → ((reply ≡ BadSlot) ↔ (length s.slots ≤ event.slot)) →
    Answers (world_of s) event reply (output_of event.slot s) (output_of event.slot s) (world_of s) →
    ((found after : SlotState) → slice_get (world_of s).slots event.slot ≡ Some found
    → slice_get (world_of s).slots event.slot ≡ Some after →
    TakesWithin (limit_of event.slot s) found event.what after (output_of event.slot s)
    (output_of event.slot s) reply) →
    IsStep s event reply s
as_before s event reply found there answers within = record {
  answers = answers;
  others = λ other differ. refl;
  outputs = λ other differ. refl;
  extents = refl;
  size = refl;
  limits = λ slot. refl;
  paused = refl;
  budget = refl;
  within = within;
  refused = λ is. absurd (found is);
  bad_slot = there;
  bad_slot_keeps = λ is. refl;
  bad_range_keeps = λ is. refl;
  no_memory = λ is. absurd (found is);
}

pub missing : {A : Type 0} (s : SessionState) (event : Event A) → length s.slots ≤ event.slot
    → IsStep s event BadSlot s
missing {A} s event past =
    as_before s event BadSlot (λ is. absurd (cc)) (λ is. past, λ is. refl) (missing_answers s event _ past)
    (λ found after here there. let none = none_shown s.slots s.image event.slot past in absurd (cc))

unchanged_answers : {A : Type 0} (s : SessionState) (event : Event A) (reply : Reply A) (output : List ℕ)
    (slot : BoardSlot) →
    slice_get s.slots event.slot ≡ Some slot → lacks_memory reply ≡ false →
    MayGive (state_of s.image slot) event.what (world_of s).health (world_of s).health
    (replies (state_of s.image slot) reply) →
    Answers (world_of s) event reply output output (world_of s)
unchanged_answers s event reply output slot here lacks given = record {
  written = record_of event.slot (replies (state_of s.image slot) reply);
  step = rw (shown_at s.slots s.image event.slot slot here) (record {
    outcome = replies (state_of s.image slot) reply;
    given = given;
    recorded = refl;
    slots = put_back _ event.slot (state_of s.image slot) (shown_at s.slots s.image event.slot slot here);
    disturbed = rw lacks refl;
    outside = refl;
  });
  replied = refl;
  appended = sym (append-nil output);
}

-- an event that puts nothing out
abbrev pub QuietEvent : {A : Type 0} → EventKind A → Type 0
QuietEvent {A} what = (limit : ℕ) (found after : SlotState) (waiting left : List ℕ) (reply : Reply A)
    → TakesWithin limit found what after waiting left reply

-- an event of a slot
pub unchanged : {A : Type 0} (s : SessionState) (event : Event A) (reply : Reply A) (slot : BoardSlot) →
    slice_get s.slots event.slot ≡ Some slot → lacks_memory reply ≡ false → reply ≢ BadSlot
    → reply ≢ NoMemory →
    MayGive (state_of s.image slot) event.what (world_of s).health (world_of s).health
    (replies (state_of s.image slot) reply) →
    QuietEvent event.what →
    IsStep s event reply s
unchanged {A} s event reply slot here lacks there found given quiet =
    as_before s event reply found (
      λ is. absurd (there is),
      λ past. let fits = slice_get_within s.slots event.slot slot here in absurd (omega arith),
    )
    (unchanged_answers s event reply _ slot here lacks given)
    (λ found after here there. quiet _ found after _ _ reply)

pub refused_at : {A : Type 0} (s : SessionState) (event : Event A) (o : Option BoardSlot)
    → slice_get s.slots event.slot ≡ o →
    ((found : BoardSlot) → o ≡ Some found
    → MayGive (state_of s.image found) event.what (world_of s).health (world_of s).health
    (replies (state_of s.image found) BadRange)) →
    QuietEvent event.what →
    IsStep s event (if nat_lt event.slot (length s.slots) then BadRange else BadSlot) s
refused_at s event None here given quiet =
    let past : length s.slots ≤ event.slot = grind (arith, slice_get_cases s.slots event.slot) in
    let test : nat_lt event.slot (length s.slots) ≡ false = grind (arith, nat_tests) in
    rw test (missing s event past)
refused_at s event (Some found) here given quiet =
    let fits : event.slot < length s.slots = slice_get_within s.slots event.slot found here in
    let test : nat_lt event.slot (length s.slots) ≡ true = grind (arith, nat_tests) in
    rw test (unchanged s event BadRange found here refl (λ is. absurd (cc)) (λ is. absurd (cc))
    (given found refl) quiet)
