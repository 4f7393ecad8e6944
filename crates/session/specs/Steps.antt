-- What happens to a session, one step after another, and what one guest has of it: its own steps.
use Rattle.std.specs.Prelude.{◌≡◌, ℕ, ⊤, List}
use Rattle.std.specs.List.{AllByRecursion}

-- Something that happened, and the session after it: a call was answered so, or these bytes of what a slot's
-- console put out were taken, where there was room for so many.
pub data CourseStep (C R S : Type 0) : Type 0 where
  Called : C → R → S → CourseStep C R S
  Took : ℕ → ℕ → List ℕ → S → CourseStep C R S

abbrev pub after_step : {C R S : Type 0} → CourseStep C R S → S
after_step (Called call response after) = after
after_step (Took slot room bytes after) = after

-- ---- one guest

-- What is asked for a guest: a call of it, or the bytes that its console put out, as many as find so much
-- room.
pub data Asking (Q : Type 0) : Type 0 where
  Does : Q → Asking Q
  Takes : ℕ → Asking Q

-- and what is answered
pub data Answer (R : Type 0) : Type 0 where
  Told : R → Answer R
  Gave : List ℕ → Answer R

-- by what a guest's own call is for it
abbrev pub asking_of : {C R S Q : Type 0} → (C → Q) → CourseStep C R S → Asking Q
asking_of own (Called call response after) = Does (own call)
asking_of own (Took slot room bytes after) = Takes room

abbrev pub answer_of : {C R S : Type 0} → CourseStep C R S → Answer R
answer_of (Called call response after) = Told response
answer_of (Took slot room bytes after) = Gave bytes

-- the slot of a step, by that of a call
abbrev pub slot_of : {C R S : Type 0} → (C → ℕ) → CourseStep C R S → ℕ
slot_of slot_in (Called call response after) = slot_in call
slot_of slot_in (Took slot room bytes after) = slot

-- a step isn't the response to a call of guest g's, or this holds of the response
abbrev pub IsAnsweredSo : {C R S : Type 0} → (C → ℕ) → (R → Type 0) → ℕ → CourseStep C R S → Type 0
IsAnsweredSo slot_in IsFair g (Called call response after) = slot_in call ≡ g → IsFair response
IsAnsweredSo slot_in IsFair g (Took slot room bytes after) = ⊤

-- what holds of each response to a call of guest g
abbrev pub AreAnswered : {C R S : Type 0} → (C → ℕ) → (R → Type 0) → ℕ → List (CourseStep C R S) → Type 0
AreAnswered slot_in IsFair g steps = AllByRecursion (IsAnsweredSo slot_in IsFair g) steps
