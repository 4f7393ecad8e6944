-- What becomes of a range of a guest's memory, as a step of the session.
use Rattle.std.proofs.Common.{◌≡◌, inl, ℕ, ◌<◌, true, false, List, [], length, Option, Some, None, refl, ap, arith}
use Rattle.std.specs.Prelude.{nat_lt, if◌then◌else◌, IsSomeAnd}
use Rattle.std.specs.List.{slice_get}
use Rattle.std.specs.Option.{option_map}
use Rattle.std.proofs.lemmas.Option.{slice_get_within, slice_get-map, same_Some}
use Rattle.board.specs.declared.event.SlotWindow.{SlotWindow}
use Rattle.guest_memory.specs.Memory.{Inside, is_inside, part_of, stored}
use Rattle.guest_memory.proofs.Ranges.{is_inside-tells}
use Rattle.board.specs.declared.event.EventKind.TheVariants.{MemRead, MemWrite, Read}
use Rattle.board.specs.declared.reply.Reply.TheVariants.{Done, Bytes, BadSlot, BadRange, Value}
use Rattle.board.specs.Machine.{register}
use Rattle.board.specs.Outcome.{replies}
use Rattle.board.specs.Slot.{BoardSlot, state_of}
use Rattle.board.specs.World.{Answers}
use Rattle.board.proofs.Blocks.{read_given}
use Rattle.board.proofs.Seats.{extents_of-set, others_kept}
use Rattle.session.specs.Session.{IsStep, SessionState, with_memory, world_of}
use Rattle.session.proofs.Parts.{given}
use Rattle.session.proofs.Slots.{slots_step}
use Rattle.board.proofs.Reading.{not_true}
use Rattle.session.proofs.Unchanged.{refused_at, unchanged}

held : (found : BoardSlot) (addr n : ℕ) → Inside found.memory addr n → is_inside found.memory addr n ≡ true
held found addr n inside = (is_inside-tells found.memory addr n).1 inside

not_held : (found : BoardSlot) (addr n : ℕ) → (Inside found.memory addr n → ⊥)
    → is_inside found.memory addr n ≡ false
not_held found addr n outside =
    not_true (is_inside found.memory addr n) (λ is. outside ((is_inside-tells found.memory addr n).0 is))

read_at : (A : Type 0) (s : SessionState) (slot addr n : ℕ) (new : List ℕ) (o : Option BoardSlot)
    → slice_get s.slots slot ≡ o →
    IsSomeAnd o (λ found. Inside found.memory addr n)
    → IsSomeAnd o (λ found. new ≡ part_of found.memory addr n) →
    IsStep {A = A} s (record { slot = slot; what = MemRead addr n }) (Bytes new) s
read_at A s slot addr n new None here inside is = absurd inside
read_at A s slot addr n new (Some found) here inside is =
    unchanged s (record { slot = slot; what = MemRead addr n }) (Bytes new) found here refl
    (λ is. absurd (cc)) (λ is. absurd (cc))
    (given (state_of s.image found) (MemRead addr n) (world_of s).health
    (replies (state_of s.image found) (Bytes new)) refl refl refl (inl (record {
      alike = record {
        alike = rw (held found addr n inside)
            (ap (λ (bytes : List ℕ). replies {A = A} (state_of s.image found) (Bytes bytes)) is);
        image = refl;
      };
      answered = λ is. absurd (cc);
      failures = refl;
    }))) (λ limit found after waiting left reply. tt)

register_in : (A : Type 0) (s : SessionState) (slot : ℕ) (window : SlotWindow) (offset width value : ℕ)
    (o : Option BoardSlot) → slice_get s.slots slot ≡ o
    → IsSomeAnd (option_map (state_of s.image) o) (λ state. value ≡ register state window offset width)
    → IsStep {A = A} s (record { slot = slot; what = Read window offset width }) (Value value) s
register_in A s slot window offset width value None here is = absurd is
register_in A s slot window offset width value (Some found) here is =
    unchanged s (record { slot = slot; what = Read window offset width }) (Value value) found here refl
    (λ is. absurd (cc)) (λ is. absurd (cc))
    (given (state_of s.image found) (Read window offset width) (world_of s).health
    (replies (state_of s.image found) (Value value)) refl refl refl
    (read_given (state_of s.image found) window offset width value _ is))
    (λ limit found after waiting left reply. tt)

-- a register that was read is the answer to that read
pub register_read : (A : Type 0) (s : SessionState) (slot : ℕ) (window : SlotWindow)
    (offset width value : ℕ) → IsSomeAnd (slice_get (world_of s).slots slot) (λ state.
    value ≡ register state window offset width)
    → IsStep {A = A} s (record { slot = slot; what = Read window offset width }) (Value value) s
register_read A s slot window offset width value is =
    register_in A s slot window offset width value (slice_get s.slots slot) refl
    (rw (← slice_get-map (state_of s.image) s.slots slot) is)

-- what was read of it is the answer to that read
pub was_read : (A : Type 0) (s : SessionState) (slot addr n : ℕ) (new : List ℕ) →
    IsSomeAnd (slice_get s.slots slot) (λ found. Inside found.memory addr n)
    → IsSomeAnd (slice_get s.slots slot) (λ found. new ≡ part_of found.memory addr n) →
    IsStep {A = A} s (record { slot = slot; what = MemRead addr n }) (Bytes new) s
was_read A s slot addr n new inside is = read_at A s slot addr n new (slice_get s.slots slot) refl inside is

outside_of_slot : (o : Option BoardSlot) (addr n : ℕ)
    → (IsSomeAnd o (λ found. Inside found.memory addr n) → ⊥) → (found : BoardSlot) → o ≡ Some found
    → is_inside found.memory addr n ≡ false
outside_of_slot None addr n outside found is = absurd (cc)
outside_of_slot (Some slot) addr n outside found is =
    not_held found addr n (λ inside. outside (rw (same_Some slot found is) inside))

-- what isn't inside it is refused, to a read
pub not_read : (A : Type 0) (s : SessionState) (slot addr n : ℕ) →
    (IsSomeAnd (slice_get s.slots slot) (λ found. Inside found.memory addr n) → ⊥) →
    IsStep {A = A} s (record { slot = slot; what = MemRead addr n })
    (if nat_lt slot (length s.slots) then BadRange else BadSlot) s
not_read A s slot addr n outside =
    refused_at s (record { slot = slot; what = MemRead addr n }) (slice_get s.slots slot) refl
    (λ found is. given (state_of s.image found) (MemRead addr n) (world_of s).health
    (replies (state_of s.image found) BadRange) refl refl refl (inl (record {
      alike = record {
        alike = rw (outside_of_slot (slice_get s.slots slot) addr n outside found is) refl;
        image = refl;
      };
      answered = λ is. absurd (cc);
      failures = refl;
    }))) (λ limit found after waiting left reply. tt)

-- and to a write
pub not_written : (A : Type 0) (s : SessionState) (slot addr : ℕ) (bytes : List ℕ) →
    (IsSomeAnd (slice_get s.slots slot) (λ found. Inside found.memory addr (length bytes)) → ⊥) →
    IsStep {A = A} s (record { slot = slot; what = MemWrite addr bytes })
    (if nat_lt slot (length s.slots) then BadRange else BadSlot) s
not_written A s slot addr bytes outside =
    refused_at s (record { slot = slot; what = MemWrite addr bytes }) (slice_get s.slots slot) refl
    (λ found is. given (state_of s.image found) (MemWrite addr bytes) (world_of s).health
    (replies (state_of s.image found) BadRange) refl refl refl (inl (record {
      alike = record {
        alike = rw (outside_of_slot (slice_get s.slots slot) addr (length bytes) outside found is) refl;
        image = refl;
      };
      answered = λ is. absurd (cc);
      failures = refl;
    }))) (λ limit found after waiting left reply. tt)

-- what was written to it is the step of that write
pub was_written : (A : Type 0) (old : SessionState) (slot addr : ℕ) (found : BoardSlot) (bytes : List ℕ)
    → slice_get old.slots slot ≡ Some found
    → Answers {A = A} (world_of old) (record { slot = slot; what = MemWrite addr bytes }) Done [] []
    (world_of (with_memory slot found (stored found.memory addr bytes) old))
    → IsStep {A = A} old (record { slot = slot; what = MemWrite addr bytes }) Done
    (with_memory slot found (stored found.memory addr bytes) old)
was_written A old slot addr found bytes here answers =
    let fits : slot < length old.slots = slice_get_within old.slots slot found here in
    slots_step old (with_memory slot found (stored found.memory addr bytes) old)
    (record { slot = slot; what = MemWrite addr bytes }) Done answers
    (λ other differ. others_kept old.slots slot _ other differ) (extents_of-set old.slots slot found _ here (refl, refl)) refl
    (λ limit found after waiting left reply. tt) (λ is. absurd (cc)) (λ is. absurd (cc))
    (λ is. absurd (cc), λ past. absurd (omega arith))
