-- What a host puts into a guest's memory between two calls, as the step of that write.
use Rattle.std.proofs.Common.{◌≡◌, inl, ℕ, ◌+◌, Bool, true, false, ◌||◌, List, [], ◌++◌, length, take, Option, Some, None, refl, sym, ◌∙◌, ap, subst, append-nil, arith}
use Rattle.std.specs.Prelude.{◌-◌, IsSomeAnd, slice_set}
use Rattle.std.specs.List.{slice_get}
use Rattle.std.proofs.lemmas.Bool.Decides.{nat_tests}
use Rattle.std.proofs.lemmas.List.{map-set, take_all, drop_all}
use Rattle.std.proofs.lemmas.Option.{slice_get-map, slice_get_within}
use Rattle.guest_memory.specs.Memory.{Inside, Memory, is_inside, stored, put_at}
use Rattle.guest_memory.proofs.Ranges.{is_inside-tells, stored_bytes, whole_inside}
use Rattle.sector_cache.specs.Disk.{Disk}
use Rattle.board.specs.declared.event.EventKind.TheVariants.{MemWrite}
use Rattle.board.specs.declared.reply.Reply.TheVariants.{Done}
use Rattle.board.specs.Extent.{outside_of}
use Rattle.board.specs.Image.{bytes_of, health_of}
use Rattle.board.specs.Lending.{put_back}
use Rattle.board.specs.Slot.{BoardSlot, state_of}
use Rattle.board.specs.World.{Answers, met_refusal, seen}
use Rattle.board.proofs.Seats.{extents_of-set, noted_set, step_there}
use Rattle.session.specs.declared.response.Response.TheVariants.{Answered}
use Rattle.session.specs.Pacing.{Handle}
use Rattle.session.specs.Pausing.{IsCall}
use Rattle.session.specs.Session.{IsStep, SessionState, disk_of, with_memory, with_slot_bytes}
use Rattle.session.proofs.Calls.{idle_step_call}
use Rattle.session.proofs.Parts.{asks_nothing, given}
use Rattle.session.proofs.Ranges.{was_written}

-- nothing is noted of it
unmet : (A : Type 0) (noted : Bool) (failures : ℕ)
    → noted ≡ (noted || met_refusal {A = A} Done failures failures)
unmet A true failures = refl
unmet A false failures = grind (arith, nat_tests)

-- bytes stand in a slot's memory, in which their range lies: the event of their write is answered
answers : (A : Type 0) (slots : List BoardSlot) (disk : Disk) (h : ℕ) (found : BoardSlot)
    (addr : ℕ) (bytes : List ℕ) →
    slice_get slots h ≡ Some found → Inside found.memory addr (length bytes) →
    Answers {A = A} (seen slots disk) (record { slot = h; what = MemWrite addr bytes }) Done [] []
    (seen (slice_set slots h (record found { memory = stored found.memory addr bytes })) disk)
answers A slots disk h found addr bytes here inside =
    let new : BoardSlot = record found { memory = stored found.memory addr bytes } in
    let test : is_inside found.memory addr (length bytes) ≡ true =
    (is_inside-tells found.memory addr (length bytes)).1 inside in
    record {
      written = _;
      step =
          step_there (seen slots disk) (seen (slice_set slots h new) disk) _ _
          (state_of (bytes_of disk) found)
          (slice_get-map (state_of (bytes_of disk)) slots h ∙ rw here refl)
          (record {
            outcome = record { state = state_of (bytes_of disk) new; reply = Done; output = [] };
            given = given (state_of (bytes_of disk) found) (MemWrite addr bytes) (health_of disk)
                (record { state = state_of (bytes_of disk) new; reply = Done; output = [] }) refl refl refl
                (inl (record {
                  alike = record { alike = rw test refl; image = refl };
                  answered = λ no. absurd (cc);
                  failures = refl;
                }));
            recorded = refl;
            slots = map-set (state_of (bytes_of disk)) slots h new;
            disturbed = noted_set slots h found new (met_refusal {A = A} Done disk.failures disk.failures)
                here (unmet A found.disturbed disk.failures);
            outside = ap (λ es. outside_of es (bytes_of disk)) (extents_of-set slots h found new here (refl, refl));
          });
      replied = refl;
      appended = refl;
    }

pub in_place : (A : Type 0) (old : SessionState) (slot addr : ℕ) (found : BoardSlot) (bytes : List ℕ) →
    slice_get old.slots slot ≡ Some found → Inside found.memory addr (length bytes) →
    IsStep {A = A} old (record { slot = slot; what = MemWrite addr bytes }) Done
    (with_memory slot found (stored found.memory addr bytes) old)
in_place A old slot addr found bytes here inside =
    was_written A old slot addr found bytes here
    (answers A old.slots (disk_of old) slot found addr bytes here inside)

wrote_at : (A : Type 0) (old : SessionState) (slots : List BoardSlot) (slot addr : ℕ) (bytes : List ℕ)
    (o : Option BoardSlot) → slice_get old.slots slot ≡ o
    → IsSomeAnd o (λ found. Inside found.memory addr (length bytes))
    → IsSomeAnd o (λ found. slots
    ≡ slice_set old.slots slot (record found { memory = stored found.memory addr bytes }))
    → IsStep {A = A} old (record { slot = slot; what = MemWrite addr bytes }) Done (record old { slots = slots })
wrote_at A old slots slot addr bytes None here inside is = absurd is
wrote_at A old slots slot addr bytes (Some found) here inside is =
    rw is (in_place A old slot addr found bytes here inside)

-- what a write leaves is its step
pub wrote : (A : Type 0) (old : SessionState) (slots : List BoardSlot) (slot addr : ℕ) (bytes : List ℕ)
    → IsSomeAnd (slice_get old.slots slot) (λ found. Inside found.memory addr (length bytes))
    → IsSomeAnd (slice_get old.slots slot) (λ found. slots
    ≡ slice_set old.slots slot (record found { memory = stored found.memory addr bytes }))
    → IsStep {A = A} old (record { slot = slot; what = MemWrite addr bytes }) Done (record old { slots = slots })
wrote A old slots slot addr bytes inside is =
    wrote_at A old slots slot addr bytes (slice_get old.slots slot) refl inside is

-- as many bytes as there are, put from the first place on, are all that there is
put_all : (old new : List ℕ) → length new ≡ length old → put_at old 0 new ≡ new
put_all old new same =
    ap (λ (rest : List ℕ). take (length old) (take 0 old ++ new ++ rest))
    (drop_all (0 + length new) old (omega (arith, same)))
    ∙ (ap (λ (bs : List ℕ). take (length old) bs) (append-nil new)
    ∙ take_all (length old) new (omega (arith, same)))

put_whole : (memory : Memory) (bytes : List ℕ) → memory.gaps ≡ [] → length bytes ≡ length memory.bytes
    → stored memory memory.base bytes ≡ record memory { bytes = bytes }
put_whole memory bytes one same =
    let front : memory.base - memory.base ≡ 0 = omega arith in
    stored_bytes memory memory.base bytes (whole_inside memory (length bytes) one same)
    ∙ ap (λ (bs : List ℕ). record memory { bytes = bs }) (rw front (put_all memory.bytes bytes same))

-- what is left of bytes that were lent
pub in_place_lent : (A : Type 0) (old : SessionState) (slot addr : ℕ) (found : BoardSlot) (bytes : List ℕ) →
    slice_get old.slots slot ≡ Some found → Inside found.memory addr (length bytes) →
    IsStep {A = A} old (record { slot = slot; what = MemWrite addr bytes }) Done
    (with_slot_bytes slot addr old bytes)
in_place_lent A old slot addr found bytes here inside =
    subst (λ (o : Option BoardSlot). IsStep {A = A} old (record { slot = slot; what = MemWrite addr bytes })
    Done (record old { slots = put_back slot o addr bytes old.slots }))
    (sym here)
    (in_place A old slot addr found bytes here inside)

pub in_place_whole : (A : Type 0) (old : SessionState) (slot : ℕ) (found : BoardSlot) (bytes : List ℕ) →
    slice_get old.slots slot ≡ Some found → found.memory.gaps ≡ []
    → length bytes ≡ length found.memory.bytes →
    IsStep {A = A} old (record { slot = slot; what = MemWrite found.memory.base bytes }) Done
    (with_memory slot found (record found.memory { bytes = bytes }) old)
in_place_whole A old slot found bytes here one same =
    subst (λ (memory : Memory). IsStep {A = A} old
    (record { slot = slot; what = MemWrite found.memory.base bytes }) Done
    (with_memory slot found memory old))
    (put_whole found.memory bytes one same)
    (in_place A old slot found.memory.base found bytes here
    (whole_inside found.memory (length bytes) one same))

-- ---- as a call

pub in_place_call : (A : Type 0) (old : SessionState) (slot addr : ℕ) (found : BoardSlot) (bytes : List ℕ) →
    slice_get old.slots slot ≡ Some found → Inside found.memory addr (length bytes)
    → slice_get old.paused slot ≡ Some None →
    IsCall {A = A} old (Handle (record { slot = slot; what = MemWrite addr bytes })) (Answered Done)
    (with_slot_bytes slot addr old bytes)
in_place_call A old slot addr found bytes here inside idle =
    rw idle (idle_step_call {A = A} old (with_slot_bytes slot addr old bytes)
    (record { slot = slot; what = MemWrite addr bytes }) Done idle
    (slice_get_within old.slots slot found here) (λ state. asks_nothing (MemWrite addr bytes) state refl)
    (in_place_lent A old slot addr found bytes here inside))
