-- What waits for the slot of a call.
use Rattle.std.proofs.Common.{◌≡◌, ℕ, zero, suc, ◌<◌, ◌≤◌, Option, Some, None, List, [], ◌∷◌, length, refl, ap, arith}
use Rattle.std.specs.Prelude.{slice_set}
use Rattle.std.specs.List.{slice_get}
use Rattle.std.specs.Option.{option_map}
use Rattle.board.proofs.Lists.{get_set}
use Rattle.output_queue.specs.Waiting.{Waiting}
use Rattle.session.specs.declared.told.Waits.{Waits}
use Rattle.session.specs.Session.{waiting_at, waits_by}

-- where nothing is there, the list ends before
none_past : {X : Type 0} (xs : List X) (i : ℕ) → slice_get xs i ≡ None → length xs ≤ i
none_past [] i is = omega (arith)
none_past (x ∷ xs) zero is = absurd (cc (is))
none_past (x ∷ xs) (suc i) is = omega (arith, none_past xs i is)

-- these words and so many bytes
abbrev pub waits_of : ℕ → ℕ → ℕ → Waits
waits_of block console count = record { block_irq = block; console_irq = console; output = count }

-- what is told of a slot that is there
pub told_waits : {X : Type 0} (words : X → ℕ × ℕ) (slots : List X) (slot : ℕ) (bytes : List ℕ)
    (block console count : ℕ)
    → slot < length slots
    → ((found : X) → slice_get slots slot ≡ Some found → (block, console) ≡ words found)
    → count ≡ length bytes
    → Some (waits_of block console count)
    ≡ option_map (λ found. waits_by (words found) bytes) (slice_get slots slot)
told_waits {X} words slots slot bytes block console count below shown many =
    either (slice_get slots slot) refl
  where
    either : (o : Option X) → slice_get slots slot ≡ o
        → Some (waits_of block console count) ≡ option_map (λ found. waits_by (words found) bytes) o
    either None is = absurd (omega (arith, below, none_past slots slot is))
    either (Some found) is = rw (many) (ap (λ seen. Some (waits_by seen bytes)) (shown found is))

-- and behind a turn that changes its output
pub turned_waits : {X : Type 0} (words : X → ℕ × ℕ) (slots : List X) (outputs : List Waiting) (slot : ℕ)
    (was now : Waiting) (block console count : ℕ)
    → slot < length slots → slice_get outputs slot ≡ Some was
    → ((found : X) → slice_get slots slot ≡ Some found → (block, console) ≡ words found)
    → count ≡ length now.bytes
    → Some (waits_of block console count)
    ≡ option_map (λ found. waits_by (words found) (waiting_at slot (slice_set outputs slot now)).bytes)
    (slice_get slots slot)
turned_waits words slots outputs slot was now block console count below there shown many =
    rw (get_set outputs slot was now there)
    (told_waits words slots slot now.bytes block console count below shown many)
