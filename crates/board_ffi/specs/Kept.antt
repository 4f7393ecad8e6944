-- What a call tells of a board, which stays as it is.
use Rattle.std.specs.Prelude.{◌≡◌, ◌≢◌, ℕ, ◌<◌, ◌≤◌, ◌↔◌, Bool, List, Option, Some, IsTrue, IsSomeAnd, length, false}
use Rattle.std.specs.List.{slice_get}
use Rattle.std.specs.Option.{option_map}
use Rattle.board.specs.Saved.{IsSavedTo, snapshot_of}
use Rattle.board.specs.Slot.{BoardSlot, interrupt_words}
use Rattle.session.specs.Session.{SessionState}
use Rattle.session.specs.Windows.{lines_of}
use Rattle.board_ffi.specs.Codes.{is_saving}
use Rattle.board_ffi.specs.Events.{IsAtWork}

-- how many slots there are
abbrev pub slot_count : SessionState → ℕ
slot_count session = length session.slots

-- there is such a slot, of which this holds
abbrev pub SlotIs : ℕ → SessionState → (BoardSlot → Type 0) → Type 0
SlotIs slot session P = IsSomeAnd (slice_get session.slots slot) P

-- both interrupt words of a slot
abbrev pub words_at : ℕ → SessionState → Option (ℕ × ℕ)
words_at slot session = option_map interrupt_words (slice_get session.slots slot)

-- there is no such slot
pub record IsMissing (slot code : ℕ) (old new : SessionState) : Type 0 where
  pub missing : slot_count old ≤ slot
  pub bad_slot : code ≡ 3
  pub kept : new ≡ old

-- these are the interrupt words of a slot
pub record HasWords (slot block console : ℕ) (old new : SessionState) : Type 0 where
  pub words : words_at slot old ≡ Some (block, console)
  pub kept : new ≡ old

-- these are the lines of a slot's windows
pub record HasLines (slot lines : ℕ) (old new : SessionState) : Type 0 where
  pub are : option_map lines_of (slice_get old.slots slot) ≡ Some lines
  pub kept : new ≡ old

-- there is such a slot, and no call of its image failed
pub record IsUndisturbed (slot : ℕ) (disturbed : Bool) (old new : SessionState) : Type 0 where
  pub there : slot < slot_count old
  pub noted : disturbed ≡ false
  pub kept : new ≡ old

-- there is such a slot, of which something is told that no clause speaks of
pub record IsThere (slot : ℕ) (old new : SessionState) : Type 0 where
  pub there : slot < slot_count old
  pub kept : new ≡ old

-- the snapshot of a slot has so many bytes, or the number says why there is none
pub record HasSavedLen (slot code len : ℕ) (old new : SessionState) : Type 0 where
  pub told : code ≡ 0 → SlotIs slot old (λ found. len ≡ length (snapshot_of found))
  pub missing : (code ≡ 3) ↔ (slot_count old ≤ slot)
  pub busy : (code ≡ 19) ↔ IsAtWork slot old
  pub not_short : code ≢ 26
  pub code_is : IsTrue (is_saving code)
  pub kept : new ≡ old

-- The snapshot of a slot stands at the front of the buffer, which held these bytes, or the number says why it
-- doesn't.
pub record Saves (slot code : ℕ) (room into : List ℕ) (len : ℕ) (old new : SessionState) : Type 0 where
  pub saved : code ≡ 0 → SlotIs slot old (λ found. IsSavedTo found room into len)
  pub missing : (code ≡ 3) ↔ (slot_count old ≤ slot)
  pub busy : (code ≡ 19) ↔ IsAtWork slot old
  pub short : code ≡ 26 → SlotIs slot old (λ found. length room < length (snapshot_of found))
  pub code_is : IsTrue (is_saving code)
  pub kept : new ≡ old
