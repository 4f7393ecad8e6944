-- What a read of memory may give, told by whether its range lies inside.
use Rattle.std.proofs.Common.{◌≡◌, inl, inr, ℕ, ◌<◌, Bool, true, false, List, refl}
use Rattle.guest_memory.specs.Memory.{Inside, is_inside, part_of}
use Rattle.guest_memory.proofs.Ranges.{is_inside-tells}
use Rattle.board.specs.declared.event.EventKind.TheVariants.{MemRead}
use Rattle.board.specs.declared.reply.Reply.TheVariants.{Bytes, BadRange, NoMemory}
use Rattle.board.specs.Image.{Health}
use Rattle.board.specs.Outcome.{replies}
use Rattle.board.specs.Slot.{SlotState}
use Rattle.board.specs.World.{MayGiveOverImage}

pub not_true : (b : Bool) → (b ≡ true → ⊥) → b ≡ false
not_true true never = absurd (never refl)
not_true false never = refl

-- its bytes, where it does
pub reads : (A : Type 0) (state : SlotState) (addr len : ℕ) (bytes : List ℕ) (health : Health)
    → Inside state.memory addr len
    → bytes ≡ part_of state.memory addr len
    → MayGiveOverImage {A = A} state (MemRead addr len) health health (replies state (Bytes bytes))
reads A state addr len bytes health inside is =
    let test : is_inside state.memory addr len ≡ true = (is_inside-tells state.memory addr len).1 inside in
    inl (record {
      alike = record { alike = rw (test, is) refl; image = refl };
      answered = λ no. absurd (cc);
      failures = refl;
    })

-- no memory for them, where there are some
pub lacks : (A : Type 0) (state : SlotState) (addr len : ℕ) (health : Health)
    → Inside state.memory addr len → 0 < len
    → MayGiveOverImage {A = A} state (MemRead addr len) health health (replies state NoMemory)
lacks A state addr len health inside some =
    inr (record {
      some = some;
      inside = (is_inside-tells state.memory addr len).1 inside;
      unchanged = refl;
      image = refl;
    })

-- and BadRange, where it doesn't
pub passes_over : (A : Type 0) (state : SlotState) (addr len : ℕ) (health : Health)
    → (Inside state.memory addr len → ⊥)
    → MayGiveOverImage {A = A} state (MemRead addr len) health health (replies state BadRange)
passes_over A state addr len health outside =
    let test = not_true (is_inside state.memory addr len)
    (λ is. outside ((is_inside-tells state.memory addr len).0 is)) in
    inl (record {
      alike = record { alike = rw test refl; image = refl };
      answered = λ no. absurd (cc);
      failures = refl;
    })
