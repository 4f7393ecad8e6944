-- The first fault of bytes that are no snapshot.
use Rattle.std.specs.Prelude.{◌≡◌, ◌≤◌, ◌++◌, ℕ, Option, List, [], ◌∷◌, length, take, drop, nat_lt, if◌then◌else◌}
use Rattle.snapshot.specs.declared.fault.SnapshotFault.{SnapshotFault}
use Rattle.snapshot.specs.declared.fault.Why.{Why}
use Rattle.snapshot.specs.declared.fault.Why.TheVariants.{Short, Trailing}
use Rattle.snapshot.specs.declared.saved.SavedSlot.{SavedSlot}
use Rattle.snapshot.specs.Fields.{Field, joined, snapshot_fields}
use Rattle.snapshot.specs.Spelling.{IsSnapshot, SlotFits, WaitingFits, snapshot}

-- The bytes begin with so many of these fields, and the rest follows.
pub record BeginsWith (bytes : List ℕ) (fields : List Field) (count : ℕ) (rest : List ℕ) : Type 0 where
  pub enough : count ≤ length fields
  pub text : bytes ≡ joined (take count fields) ++ rest

-- The bytes agree with the snapshot of this slot with this pending input, and this that waits, in so many fields.
pub record AgreesWith (bytes : List ℕ) (saved : SavedSlot) (pending : List ℕ) (waiting : Option (List ℕ))
    (count : ℕ) (rest : List ℕ) : Type 0 where
  pub fits : SlotFits saved
  pub few : length pending ≤ 4096
  pub waits : WaitingFits saved waiting
  pub begins : BeginsWith bytes (snapshot_fields saved pending waiting) count rest

-- The bytes agree with some snapshot in so many fields.
pub record Agrees (bytes : List ℕ) (count : ℕ) : Type 0 where
  pub saved : SavedSlot
  pub pending : List ℕ
  pub waiting : Option (List ℕ)
  pub rest : List ℕ
  pub agrees : AgreesWith bytes saved pending waiting count rest

-- What is wrong with the rest, where a snapshot goes on with these fields: nothing should follow, or the rest
-- ends inside the next field, or else other bytes stand in its place.
abbrev pub wrong_with : List ℕ → List Field → Why
wrong_with rest [] = Trailing
wrong_with rest (next ∷ behind) = if nat_lt (length rest) (length next.bytes) then Short else next.wrong

-- The bytes are no snapshot. They agree with some snapshot in so many fields, and with none in more. The fault
-- stands behind those fields, and is what is wrong with the rest by each snapshot that agrees so far.
pub record IsFirstFault (bytes : List ℕ) (fault : SnapshotFault) : Type 0 where
  pub none : (saved : SavedSlot) (pending : List ℕ) (waiting : Option (List ℕ))
      → ¬ IsSnapshot bytes saved pending waiting
  pub count : ℕ
  pub some : Agrees bytes count
  pub most : (more : ℕ) → Agrees bytes more → more ≤ count
  pub is : (saved : SavedSlot) (pending : List ℕ) (waiting : Option (List ℕ)) (rest : List ℕ)
      → AgreesWith bytes saved pending waiting count rest
      → fault
      ≡ record {
        why = wrong_with rest (drop count (snapshot_fields saved pending waiting));
        place = length (joined (take count (snapshot_fields saved pending waiting)));
      }

-- Bytes have at most one first fault.
abbrev pub HaveOneFault : Type 0
HaveOneFault =
    (bytes : List ℕ) (one other : SnapshotFault) → IsFirstFault bytes one → IsFirstFault bytes other
    → one ≡ other

-- The fields of a snapshot, one behind another, are its spelling.
abbrev pub FieldsAreTheSpelling : Type 0
FieldsAreTheSpelling =
    (saved : SavedSlot) (pending : List ℕ) (waiting : Option (List ℕ))
    → joined (snapshot_fields saved pending waiting) ≡ snapshot saved pending waiting
