-- What a board answers to an event, and its record.
use Rattle.std.proofs.Common.{◌≡◌, ◌≢◌, ℕ, ◌<◌, Bool, true, false, List, [], ◌∷◌, ◌++◌, Option, None, Some, length, map, refl, sym, ap, subst, ◌∙◌, append-nil, arith, inl, inr, ◌↔◌, IsTrue}
use Rattle.std.proofs.Math.Seq.{map-set}
use Rattle.std.proofs.lemmas.Bool.{false_from_ne_true, false≢true}
use Rattle.std.proofs.lemmas.Option.{slice_get_cases, slice_get-map}
use Rattle.std.specs.List.{slice_get}
use Rattle.std.specs.Option.{option_map}
use Rattle.std.specs.Prelude.{IsSomeAnd, MatchOption, slice_set}
use Rattle.guest_memory.specs.Memory.{Inside, Memory, is_inside, stored}
use Rattle.guest_memory.proofs.Ranges.{is_inside-tells}
use Rattle.board.specs.declared.event.SlotWindow.{SlotWindow}
use Rattle.sector_cache.specs.Disk.{Disk}
use Rattle.block_device.specs.Flights.{InFlight}
use Rattle.block_device.specs.Tags.{is_any, taken_bits}
use Rattle.board.specs.declared.event.Event.{Event}
use Rattle.board.specs.declared.event.EventKind.{EventKind}
use Rattle.board.specs.declared.event.EventKind.TheVariants.{Device, MemRead, MemWrite, Read}
use Rattle.board.specs.declared.event.DeviceEvent.{DeviceEvent}
use Rattle.board.specs.declared.event.DeviceEvent.TheVariants.{Receive, Supply}
use Rattle.board.specs.declared.reply.Reply.{Reply}
use Rattle.board.specs.declared.reply.Reply.TheVariants.{BadRange, BadSlot, Bytes, Done, NoMemory, Value}
use Rattle.board.specs.declared.reply.Record.{Record}
use Rattle.hosted_disk.specs.Disk.{HostedDisk}
use Rattle.board.specs.Backing.{tags_in}
use Rattle.board.specs.Hosting.{has_part, must_wait, notifies_block, tag_in, told_in}
use Rattle.board.specs.Image.{Tells, bytes_of, health_of}
use Rattle.board.specs.Line.{Move}
use Rattle.board.specs.Machine.{GivesOverImage, block_irq, console_irq, record_of, register}
use Rattle.board.specs.Outcome.{replies}
use Rattle.board.specs.Slot.{BoardSlot, SlotState, state_of}
use Rattle.board.specs.World.{Answers, BoardState, Handles, MissingStep, SlotStep, World, disturbed_of, extents_of, lacks_memory, seen, world_of}
use Rattle.board.proofs.OnHost.{passes_by}
use Rattle.board.proofs.Runs.{answered}
use Rattle.board.proofs.Alone.{get_set}
use Rattle.board.proofs.Seats.{extents_of-set, handles_missing, noted_none, set_same, step_there}
use Rattle.trace.specs.Asked.{Begun, asked_field, asked_line, none_mark}
use Rattle.trace.specs.Records.{entry_of, read_line, record_fields, record_line}
use Rattle.replay.specs.Asking.{further_from}
use Rattle.replay.specs.Running.{AnswersEvent, AnswersParsed, IsPart, RunsParsed, further_tags, tags_of, words_of}
use Rattle.replay.specs.Telling.{LineTelling, SendsRun, Told, begun_at, begun_between, begun_from, completed_in, device_in, further_begun, staying, tags_at, tags_of_state, told_line, told_of, told_text}
use Rattle.hexadecimal.specs.Fields.{IsBytesField}
use Rattle.trace.specs.declared.read.parsed_event.ParsedEvent.{ParsedEvent}
use Rattle.trace.specs.ParsedEvent.{IsFineParsed, IsFineWhat, IsPlain, what_parsed}
use Rattle.trace.specs.Printable.{IsPrintableKind, KindInRange}
use Rattle.trace.specs.Text.{what_fields}
use Rattle.trace.specs.Sends.{Sends}
use Rattle.trace.specs.Text.{ended, joined, line}
use Rattle.trace.proofs.Passing.{sends_more, sends_same}
use Rattle.trace.proofs.RecordLines.{asked_is}
use Rattle.replay.proofs.Begun.{nothing_begins}

-- ---- what is refused

-- an event that left the image and all extents, and put nothing out
pub changed : {A I : Type 0} (disk : I → Disk) (old new : BoardState I) (event : Event A) (reply : Reply A)
    → (Tells (disk old.image) → Answers (world_of disk old) event reply [] [] (world_of disk new))
    → new.image ≡ old.image → extents_of new.slots ≡ extents_of old.slots
    → AnswersEvent disk old event reply [] new
changed disk old new event reply answers image extents = record {
  answers = answers;
  keeps = record { tells = λ tells. rw image tells; extents = extents };
}

-- an event of a slot that the board lacks
pub slot_missing : {A I : Type 0} (disk : I → Disk) (old new : BoardState I) (event : Event A) → new ≡ old
    → slice_get old.slots event.slot ≡ None → AnswersEvent disk old event BadSlot [] new
slot_missing disk old new event same missing =
    subst (λ b. AnswersEvent disk old event BadSlot [] b) (sym same)
    (changed disk old old event BadSlot
    (λ tells. answered (handles_missing old.slots (disk old.image) event [] missing)) refl refl)

pub past_slots : {I : Type 0} (board : BoardState I) (slot : ℕ) → (slot < length board.slots → ⊥)
    → slice_get board.slots slot ≡ None
past_slots board slot past =
    elim (slice_get_cases board.slots slot).1 [ inl there ↦ absurd (past there.1) | inr none ↦ none.1 ]

-- An event that is no completion, never waits, and notifies nobody: what comes of it over an image comes of it
-- whoever has the disk.
no_part : {A : Type 0} (host : Option HostedDisk) (what : EventKind A) (state : SlotState)
    → told_in what ≡ None → must_wait what ≡ false → notifies_block what state ≡ false
    → has_part host what state ≡ false
no_part None what state own free still = refl
no_part (Some disk) what state own free still = by_flight (is_any (tags_in state.host)) refl
  where
    by_flight : (busy : Bool) → is_any (tags_in state.host) ≡ busy → has_part (Some disk) what state ≡ false
    by_flight true is = rw (own, free, still, is) refl
    by_flight false is = rw (own, free, still, is) refl

-- such an event that changed nothing
quiet : {A I : Type 0} (disk : I → Disk) (board : BoardState I) (event : Event A) (reply : Reply A)
    (found : BoardSlot) → slice_get board.slots event.slot ≡ Some found → lacks_memory reply ≡ false
    → told_in event.what ≡ None → must_wait event.what ≡ false
    → notifies_block event.what (state_of (bytes_of (disk board.image)) found) ≡ false → reply ≢ NoMemory
    → (Tells (disk board.image) → GivesOverImage (state_of (bytes_of (disk board.image)) found) event.what
    (health_of (disk board.image)) (health_of (disk board.image))
    (replies (state_of (bytes_of (disk board.image)) found) reply))
    → AnswersEvent disk board event reply [] board
quiet {A} disk board event reply found here lacks own free still known given =
    let bytes = bytes_of (disk board.image) in
    let state = state_of bytes found in
    let world = world_of disk board in
    changed disk board board event reply (λ tells. record {
      written = record_of event.slot (replies state reply);
      step =
          step_there world world event _ state
          (slice_get-map (state_of bytes) board.slots event.slot
          ∙ ap (λ (o : Option BoardSlot). option_map (state_of bytes) o) here)
          (record {
            outcome = replies state reply;
            given =
                passes_by state.host state event.what (health_of (disk board.image)) (replies state reply)
                (no_part state.host event.what state own free still)
                (inl (record { alike = given tells; answered = known; failures = refl }));
            recorded = refl;
            slots = sym (sym (map-set (state_of bytes) board.slots event.slot found)
                ∙ ap (λ ss. map (state_of bytes) ss) (set_same board.slots event.slot found found here refl));
            disturbed = rw lacks (noted_none event.slot (disk board.image).failures (disturbed_of board.slots));
            outside = refl;
          });
      replied = refl;
      appended = refl;
    }) refl refl

pub range_refused : (A : Type 0) {I : Type 0} (disk : I → Disk) (old new : BoardState I) (slot addr : ℕ)
    (bytes : List ℕ) → new ≡ old → slot < length old.slots
    → IsTrue false ↔ IsSomeAnd (slice_get old.slots slot) (λ found. Inside found.memory addr (length bytes))
    → AnswersEvent {A = A} disk old (record { slot = slot; what = MemWrite addr bytes }) BadRange [] new
range_refused A disk old new slot addr bytes same there inside =
    elim (slice_get_cases old.slots slot).1 [
      | inl found ↦
          let here = found.2 in
          let out = rw here at inside in
          let test : is_inside found.0.memory addr (length bytes) ≡ false =
          false_from_ne_true _ (λ yes.
          false≢true (out.1 ((is_inside-tells found.0.memory addr (length bytes)).0 yes))) in
          subst (λ b. AnswersEvent {A = A} disk old (record { slot = slot; what = MemWrite addr bytes })
          BadRange [] b) (sym same)
          (quiet disk old (record { slot = slot; what = MemWrite addr bytes }) BadRange found.0 here
          refl refl refl refl (λ no'. absurd cc) (λ tells. record { alike = rw test refl; image = refl }))
      | inr none ↦ let past = none.0 in absurd (omega arith)
    ]

-- ---- what is done

-- memory that was read where it lies
pub part_read : (A : Type 0) {I : Type 0} (disk : I → Disk) (board : BoardState I) (slot addr len : ℕ)
    (part : List ℕ) → IsPart board slot addr len part
    → AnswersEvent {A = A} disk board (record { slot = slot; what = MemRead addr len }) (Bytes part) [] board
part_read A disk board slot addr len part it =
    let test : is_inside it.found.memory addr len ≡ true =
    (is_inside-tells it.found.memory addr len).1 it.inside in
    let is = it.is in
    quiet disk board (record { slot = slot; what = MemRead addr len }) (Bytes part) it.found it.here
    refl refl refl refl (λ no'. absurd cc) (λ tells. record { alike = rw (test, is) refl; image = refl })

register_in : (A : Type 0) {I : Type 0} (disk : I → Disk) (board : BoardState I) (slot : ℕ)
    (window : SlotWindow) (offset width value : ℕ) (o : Option BoardSlot) → slice_get board.slots slot ≡ o
    → (Tells (disk board.image) → IsSomeAnd (option_map (state_of (bytes_of (disk board.image))) o)
    (λ state. value ≡ register state window offset width))
    → AnswersEvent {A = A} disk board
    (record { slot = slot; what = Read window offset width }) (Value value) []
    board
register_in A disk board slot window offset width value None here is =
    changed disk board board _ (Value value) (λ tells. absurd (is tells)) refl refl
register_in A disk board slot window offset width value (Some found) here is =
    quiet disk board (record { slot = slot; what = Read window offset width }) (Value value) found here
    refl refl refl refl (λ no'. absurd cc) (λ tells. record {
      alike = ap (λ v. replies (state_of (bytes_of (disk board.image)) found) (Value v)) (is tells);
      image = refl;
    })

-- a register that was read
pub register_read : (A : Type 0) {I : Type 0} (disk : I → Disk) (board : BoardState I) (slot : ℕ)
    (window : SlotWindow) (offset width value : ℕ)
    → (Tells (disk board.image) → IsSomeAnd (slice_get (world_of disk board).slots slot)
    (λ state. value ≡ register state window offset width))
    → AnswersEvent {A = A} disk board
    (record { slot = slot; what = Read window offset width }) (Value value) []
    board
register_read A disk board slot window offset width value is =
    register_in A disk board slot window offset width value (slice_get board.slots slot) refl
    (rw (← slice_get-map (state_of (bytes_of (disk board.image))) board.slots slot) is)

-- bytes that were put leave all extents
extents_put : (slots new : List BoardSlot) (h : ℕ) (memory : BoardSlot → Memory) (o : Option BoardSlot)
    → slice_get slots h ≡ o → IsSomeAnd o
    (λ found. new ≡ slice_set slots h (record found { memory = memory found }))
    → extents_of new ≡ extents_of slots
extents_put slots new h memory None here is = absurd is
extents_put slots new h memory (Some found) here is = ap extents_of is
    ∙ extents_of-set slots h found (record found { memory = memory found }) here (refl, refl)

pub bytes_written : (A : Type 0) {I : Type 0} (disk : I → Disk) (old new : BoardState I) (slot addr : ℕ)
    (bytes : List ℕ) → new.image ≡ old.image
    → (Tells (disk old.image)
    → Answers {A = A} (world_of disk old) (record { slot = slot; what = MemWrite addr bytes }) Done [] []
    (world_of disk new))
    → IsSomeAnd (slice_get old.slots slot) (λ found. new.slots
    ≡ slice_set old.slots slot (record found { memory = stored found.memory addr bytes }))
    → AnswersEvent {A = A} disk old (record { slot = slot; what = MemWrite addr bytes }) Done [] new
bytes_written A disk old new slot addr bytes image answers is =
    changed disk old new (record { slot = slot; what = MemWrite addr bytes }) Done answers image
    (extents_put old.slots new.slots slot (λ found. stored found.memory addr bytes)
    (slice_get old.slots slot) refl is)

-- ---- what is done to a further device

module _ {A I : Type 0} (disk : I → Disk) (parsed : ParsedEvent A) (old new : BoardState I) (n : ℕ) (reply : Reply A)
    (out : List ℕ) (fine : IsFineParsed parsed) where
  -- what was done is the event that was said, with the bytes that are spelled
  done_as : (given done : DeviceEvent A) → parsed.event.what ≡ Device n given
      → what_fields parsed.event.slot (Device n done) ≡ what_parsed parsed.event.slot (Device n given) parsed.bytes.now
      → KindInRange (Device n done) → IsPrintableKind (Device n done)
      → completed_in (Device n given) ≡ completed_in (Device n done)
      → AnswersEvent disk old (record { slot = parsed.event.slot; what = Device n done }) reply out new
      → AnswersParsed disk parsed old reply out new
  done_as given done is fields range printable completed answered' = record {
    event = record { slot = parsed.event.slot; what = Device n done };
    slot = refl;
    fields = rw is fields;
    fine = record { fits = record { slot = fine.slot; what = range }; printable = printable };
    tag = rw is refl;
    device = rw is refl;
    completed = rw is (sym completed);
    answered = answered';
  }

  module _ (none bs : List ℕ) (says : IsBytesField parsed.bytes.now bs) where
    -- those that the host supplied
    pub supplied : parsed.event.what ≡ Device n (Supply none)
        → AnswersEvent disk old (record { slot = parsed.event.slot; what = Device n (Supply bs) }) reply out new
        → AnswersParsed disk parsed old reply out new
    supplied is answered' = let what = rw is at fine.what in let spelled = says.spelled in
        done_as (Supply none) (Supply bs) is (rw spelled refl)
        (record { number = what.number; range = record { each = says.fits } }) tt refl answered'

    -- and those of a frame
    pub received : parsed.event.what ≡ Device n (Receive none)
        → AnswersEvent disk old (record { slot = parsed.event.slot; what = Device n (Receive bs) }) reply out new
        → AnswersParsed disk parsed old reply out new
    received is answered' = let what = rw is at fine.what in let spelled = says.spelled in
        done_as (Receive none) (Receive bs) is (rw spelled refl)
        (record { number = what.number; range = record { each = says.fits } }) tt refl answered'

-- what else is done to a further device has no bytes
without_bytes : {A : Type 0} (slot n : ℕ) (what : DeviceEvent A) (field : List ℕ)
    → ((bs : List ℕ) → what ≡ Supply bs → ⊥) → ((bs : List ℕ) → what ≡ Receive bs → ⊥)
    → IsFineWhat (Device n what) field
    → (what_fields slot (Device n what) ≡ what_parsed slot (Device n what) field) × IsPlain (Device n what) field
without_bytes slot n (Supply bs) field no_supply no_frame fine = absurd (no_supply bs refl)
without_bytes slot n (Receive bs) field no_supply no_frame fine = absurd (no_frame bs refl)
without_bytes slot n _ field no_supply no_frame fine = (refl, fine)

-- so that is the event that was said
pub said_alone : {A I : Type 0} (disk : I → Disk) (parsed : ParsedEvent A) (old new : BoardState I) (n : ℕ)
    (what : DeviceEvent A) (reply : Reply A) (out : List ℕ) → IsFineParsed parsed
    → parsed.event.what ≡ Device n what → ((bs : List ℕ) → what ≡ Supply bs → ⊥)
    → ((bs : List ℕ) → what ≡ Receive bs → ⊥) → AnswersEvent disk old parsed.event reply out new
    → AnswersParsed disk parsed old reply out new
said_alone disk parsed old new n what reply out fine is no_supply no_frame answered' =
    let both = without_bytes parsed.event.slot n what parsed.bytes.now no_supply no_frame (rw is at fine.what) in
    done_as disk parsed old new n reply out fine what what is both.0 both.1.range both.1.printable refl
    (subst (λ what'. AnswersEvent disk old (record { slot = parsed.event.slot; what = what' }) reply out new) is answered')

-- ---- the record

-- the interrupt words of a slot that is seen in a state, and of one that isn't there
state_words : (bytes : List ℕ) (o : Option BoardSlot) (state : SlotState)
    → option_map (state_of bytes) o ≡ Some state → words_of o ≡ (block_irq state, console_irq state)
state_words bytes None state is = absurd cc
state_words bytes (Some slot) state is = let same : state_of bytes slot ≡ state = cc is in
    ap (λ (s : SlotState). (block_irq s, console_irq s)) same

no_words : (bytes : List ℕ) (o : Option BoardSlot) → option_map (state_of bytes) o ≡ None
    → words_of o ≡ (0, 0)
no_words bytes None is = refl
no_words bytes (Some slot) is = absurd cc

-- the record of an event has the words that its slot has afterwards
told_at : {A : Type 0} (old : World) (event : Event A) (written : Record A) (slots : List BoardSlot)
    (disk : Disk) (o : Option SlotState) → slice_get old.slots event.slot ≡ o
    → MatchOption o (MissingStep old event.slot written (seen slots disk))
    (λ s. SlotStep old event.slot s event.what written (seen slots disk))
    → written ≡ entry_of event.slot written.reply written.output (words_of (slice_get slots event.slot))
told_at old event written slots disk None missing step =
    let none : slice_get (map (state_of (bytes_of disk)) slots) event.slot ≡ None =
    ap (λ (w : World). slice_get w.slots event.slot) step.same ∙ missing in
    let words = no_words (bytes_of disk) (slice_get slots event.slot)
    (sym (slice_get-map (state_of (bytes_of disk)) slots event.slot) ∙ none) in
    let is = step.recorded in
    rw (words, is) refl
told_at old event written slots disk (Some s) here step =
    let there : slice_get (map (state_of (bytes_of disk)) slots) event.slot ≡ Some step.outcome.state =
    ap (λ ss. slice_get ss event.slot) step.slots
    ∙ get_set old.slots event.slot s step.outcome.state here in
    let words = state_words (bytes_of disk) (slice_get slots event.slot) step.outcome.state
    (sym (slice_get-map (state_of (bytes_of disk)) slots event.slot) ∙ there) in
    let is = step.recorded in
    rw (words, is) refl

entry_told : {A I : Type 0} (disk : I → Disk) (old new : BoardState I) (event : Event A) (reply : Reply A)
    (out : List ℕ) (a : Answers (world_of disk old) event reply [] out (world_of disk new))
    → a.written ≡ entry_of event.slot reply out (words_of (slice_get new.slots event.slot))
entry_told disk old new event reply out a =
    let whole = told_at (world_of disk old) event a.written new.slots (disk new.image)
    (slice_get (world_of disk old).slots event.slot) refl a.step in
    whole ∙ ap (λ r. entry_of event.slot r a.written.output (words_of (slice_get new.slots event.slot)))
    a.replied ∙ ap (λ (o : List ℕ). entry_of event.slot reply o
    (words_of (slice_get new.slots event.slot))) (sym a.appended)

-- and so are those that are told with the reply
pub words_told : {A I : Type 0} (disk : I → Disk) (old new : BoardState I) (event : Event A) (reply : Reply A)
    (block console : ℕ) (before out : List ℕ)
    → Handles (world_of disk old) event reply block console before out (world_of disk new)
    → (block, console) ≡ words_of (slice_get new.slots event.slot)
words_told {A} disk old new event reply block console before out h =
    ap (λ (r : Record A). (r.block_irq, r.console_irq))
    (told_at (world_of disk old) event (entry_of event.slot reply h.output (block, console)) new.slots
    (disk new.image) (slice_get (world_of disk old).slots event.slot) refl h.step)

-- where nothing was put out before an event, what is put out is its own
pub answered_alone : {A : Type 0} {old new : World} {event : Event A} {reply : Reply A} {block console : ℕ}
    {before out : List ℕ} → before ≡ [] → Handles old event reply block console before out new
    → Answers old event reply [] out new
answered_alone {A} {old} {new} {event} {reply} {out = out} none h =
    subst (λ (xs : List ℕ). Answers old event reply xs out new) none (answered h)

-- ---- what began

-- what is in flight is seen
seen_at : (whose : Option ℕ) (bytes : List ℕ) (o : Option BoardSlot)
    → tags_of_state whose (option_map (state_of bytes) o) ≡ tags_of whose o
seen_at whose bytes None = refl
seen_at None bytes (Some slot) = refl
seen_at (Some n) bytes (Some slot) = refl

tags_seen : (whose : Option ℕ) (slots : List BoardSlot) (disk : Disk) (h : ℕ)
    → tags_at whose (seen slots disk).slots h ≡ tags_of whose (slice_get slots h)
tags_seen whose slots disk h =
    ap (tags_of_state whose) (slice_get-map (state_of (bytes_of disk)) slots h)
    ∙ seen_at whose (bytes_of disk) (slice_get slots h)

-- those of the further disk that is named
abbrev further_on : Option ℕ → Option ℕ → Option BoardSlot → Option BoardSlot → List Begun
further_on whose completed old new =
    further_from whose (staying completed (further_tags whose old)) new

further_seen : (whose completed : Option ℕ) (h : ℕ) (old new : List BoardSlot) (disk disk' : Disk)
    → further_begun whose completed h (seen old disk).slots (seen new disk').slots
    ≡ further_on whose completed (slice_get old h) (slice_get new h)
further_seen None completed h old new disk disk' = refl
further_seen (Some n) completed h old new disk disk' =
    rw (tags_seen (Some n) old disk h, tags_seen (Some n) new disk' h) refl

-- the operations that began with an event of a board
abbrev begun_on : {A I : Type 0} → Event A → BoardState I → BoardState I → List Begun
begun_on event old new =
    begun_between None (tag_in event.what) (tags_of None (slice_get old.slots event.slot))
    (tags_of None (slice_get new.slots event.slot))
    ++ further_on (device_in event.what) (completed_in event.what) (slice_get old.slots event.slot)
    (slice_get new.slots event.slot)

-- ---- one event

one_line : {A : Type 0} (hosted : Bool) (told : Told A)
    → ended (told_line hosted told) ≡ told_text hosted (told ∷ [])
unfolding joined
one_line hosted told = sym (append-nil (ended (told_line hosted told)))

-- an event was answered, and the text of what it came to sent
event_run : {A I : Type 0} (hosted : Bool) (disk : I → Disk) (old new : BoardState I) (event : Event A)
    (reply : Reply A) (out : List ℕ) (words : ℕ × ℕ) (a b s t : Option (List ℕ))
    → AnswersEvent disk old event reply out new
    → (Tells (disk old.image) → words ≡ words_of (slice_get new.slots event.slot))
    → Sends a b s (ended (told_line hosted (told_of event.slot reply out words (begun_on event old new)))) t
    → SendsRun hosted disk old new (event ∷ []) a b s t
event_run {A} {I} hosted disk old new event reply out words a b s t it is sent =
    let told : Told A = told_of event.slot reply out words (begun_on event old new) in
    record {
      told = told ∷ [];
      run = line;
      tells = it.keeps.tells;
      extents = it.keeps.extents;
      sent = sends_same a b s t _ _ (one_line hosted told) sent;
    }
  where
    line : Tells (disk old.image) → LineTelling (world_of disk old) (world_of disk new) (event ∷ [])
        (told_of event.slot reply out words (begun_on event old new) ∷ [])
    line tells =
        let answers = it.answers tells in
        let move : Move A = record { event = event; written = answers.written; after = world_of disk new } in
        let same : entry_of event.slot reply out words ≡ answers.written =
        ap (λ ws. entry_of event.slot reply out ws) (is tells)
        ∙ sym (entry_told disk old new event reply out answers) in
        let began : begun_on event old new
        ≡ begun_at event.slot event.what (world_of disk old).slots (world_of disk new).slots =
        rw (
          tags_seen None old.slots (disk old.image) event.slot,
          tags_seen None new.slots (disk new.image) event.slot,
          further_seen (device_in event.what) (completed_in event.what) event.slot old.slots new.slots
              (disk old.image) (disk new.image),
        ) refl in
        record {
          moves = move ∷ [];
          line = (answers.step, refl);
          events_are = refl;
          told_are = rw (same, began) refl;
        }

-- its record and what began go out one after the other
asking_sent : {A : Type 0} (entry : Record A) (asked : List Begun)
    (a b c s t u : Option (List ℕ)) → Sends a b s (line (record_fields entry) ++ 32 ∷ []) t
    → Sends b c t (asked_field asked ++ 10 ∷ []) u → Sends a c s (ended (asked_line entry asked)) u
asking_sent entry asked a b c s t u front last =
    sends_same a c s u _ _ (asked_is entry asked) (sends_more a b c s t u _ _ front last)

-- the event that was said was answered; in a trace that isn't hosted nothing is told of what began
pub parsed_run : {A I : Type 0} (disk : I → Disk) (parsed : ParsedEvent A) (old new : BoardState I)
    (reply : Reply A) (out : List ℕ) (words : ℕ × ℕ) (a b s t : Option (List ℕ))
    → AnswersParsed disk parsed old reply out new
    → (Tells (disk old.image) → words ≡ words_of (slice_get new.slots parsed.event.slot))
    → Sends a b s (ended (record_line (entry_of parsed.event.slot reply out words))) t
    → RunsParsed parsed (λ event. SendsRun false disk old new (event ∷ []) a b s t)
parsed_run disk parsed old new reply out words a b s t it is sent = record {
  event = it.event;
  fields = it.fields;
  fine = it.fine;
  run = event_run false disk old new it.event reply out words a b s t it.answered (rw it.slot is)
      (rw it.slot sent);
}

-- in a hosted one its record and what began go out one after the other
pub parsed_asking : {A I : Type 0} (disk : I → Disk) (parsed : ParsedEvent A) (old new : BoardState I)
    (reply : Reply A) (out : List ℕ) (words : ℕ × ℕ) (stayed stayed_further : ℕ)
    (a b c s t u : Option (List ℕ)) → AnswersParsed disk parsed old reply out new
    → (Tells (disk old.image) → words ≡ words_of (slice_get new.slots parsed.event.slot))
    → stayed ≡ taken_bits (staying (tag_in parsed.event.what) (tags_of None (slice_get old.slots parsed.event.slot)))
    → stayed_further ≡ taken_bits (staying (completed_in parsed.event.what)
    (further_tags (device_in parsed.event.what) (slice_get old.slots parsed.event.slot)))
    → Sends a b s (line (record_fields (entry_of parsed.event.slot reply out words)) ++ 32 ∷ []) t
    → ((before further : List (Option InFlight)) → stayed ≡ taken_bits before
    → stayed_further ≡ taken_bits further → Sends b c t
    (asked_field (begun_from None 0 before (tags_of None (slice_get new.slots parsed.event.slot))
    ++ further_from (device_in parsed.event.what) further (slice_get new.slots parsed.event.slot)) ++ 10 ∷ []) u)
    → RunsParsed parsed (λ event. SendsRun true disk old new (event ∷ []) a c s u)
parsed_asking disk parsed old new reply out words stayed stayed_further a b c s t u it is test further front last =
    let event = it.event in
    let began = begun_between None (tag_in parsed.event.what) (tags_of None (slice_get old.slots parsed.event.slot))
    (tags_of None (slice_get new.slots parsed.event.slot))
    ++ further_on (device_in parsed.event.what) (completed_in parsed.event.what)
    (slice_get old.slots parsed.event.slot) (slice_get new.slots parsed.event.slot) in
    let same : began ≡ begun_on event old new = rw (it.slot, it.tag, it.device, it.completed) refl in
    let whole = asking_sent (entry_of parsed.event.slot reply out words) began a b c s t u front
    (last _ _ test further) in
    record {
      event = event;
      fields = it.fields;
      fine = it.fine;
      run = event_run true disk old new event reply out words a c s u it.answered (rw it.slot is)
          (subst (λ (n : ℕ). Sends a c s (ended (asked_line (entry_of n reply out words)
          (begun_on event old new))) u) (sym it.slot)
          (subst (λ (o : List Begun). Sends a c s
          (ended (asked_line (entry_of parsed.event.slot reply out words) o)) u) same whole));
    }

-- a read of memory, with which nothing begins
pub read_run : {A I : Type 0} (hosted : Bool) (disk : I → Disk) (parsed : ParsedEvent A) (board : BoardState I)
    (addr len : ℕ) (part : List ℕ) (words : ℕ × ℕ) (a b s t : Option (List ℕ)) → IsFineParsed parsed
    → parsed.event.what ≡ MemRead addr len → IsPart board parsed.event.slot addr len part
    → words ≡ words_of (slice_get board.slots parsed.event.slot)
    → Sends a b s (ended (told_line {A = A} hosted (told_of parsed.event.slot (Bytes part) [] words []))) t
    → RunsParsed parsed (λ event. SendsRun hosted disk board board (event ∷ []) a b s t)
read_run {A} hosted disk parsed board addr len part words a b s t fine is it same sent =
    let event : Event A = record { slot = parsed.event.slot; what = MemRead addr len } in
    let plain = rw is at fine.what in
    let none : begun_on event board board ≡ [] =
    rw (nothing_begins None (tags_of None (slice_get board.slots parsed.event.slot))) refl in
    record {
      event = event;
      fields = rw is refl;
      fine = record { fits = record { slot = fine.slot; what = plain.range }; printable = tt };
      run = event_run hosted disk board board event (Bytes part) [] words a b s t
          (part_read A disk board parsed.event.slot addr len part it) (λ tells. same) (rw none sent);
    }

-- its line is put as a line of bytes
pub part_sent : (A : Type 0) (slot : ℕ) (part : List ℕ) (words : ℕ × ℕ) (a b s t : Option (List ℕ))
    → Sends a b s (ended (read_line slot part words)) t
    → Sends a b s (ended (told_line {A = A} false (told_of slot (Bytes part) [] words []))) t
unfolding read_line record_line
part_sent A slot part words a b s t sent = sent

pub part_asking : (A : Type 0) (slot : ℕ) (part : List ℕ) (words : ℕ × ℕ) (a b c s t u : Option (List ℕ))
    → Sends a b s (read_line slot part words ++ 32 ∷ []) t → Sends b c t (none_mark true ++ 10 ∷ []) u
    → Sends a c s (ended (told_line {A = A} true (told_of slot (Bytes part) [] words []))) u
unfolding read_line
part_asking A slot part words a b c s t u front last =
    let entry : Record A = entry_of slot (Bytes part) [] words in
    asking_sent entry [] a b c s t u front last
