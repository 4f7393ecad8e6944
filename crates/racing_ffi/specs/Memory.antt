-- What it comes to that a guest is given other memory.
use Rattle.std.specs.Prelude.{◌≡◌, ◌≢◌, ◌↔◌, ◌<◌, ◌⊎◌, ℕ, ◌==◌, ◌||◌, true, IsTrue, List, [], All, length}
use Rattle.guest_memory.specs.declared.spec.RegionSpec.{RegionSpec}
use Rattle.guest_bytes.specs.declared.word_loan.WordLoan.{WordLoan}
use Rattle.racing_session.specs.declared.fault.MemoryRefusal.{MemoryRefusal}
use Rattle.racing_session.specs.Memory.{IsKeptFor, MayHave, is_busy, with_regions}
use Rattle.racing_session.specs.Session.{RacingSession}
use Rattle.racing_ffi.specs.Codes.{kept_code}
use Rattle.racing_ffi.specs.Config.{lent_words}
use Rattle.racing_ffi.specs.Create.{TakesFront}

-- the number is that of a refusal of this memory
pub record IsKeptBy (regions : List RegionSpec) (words : List WordLoan) (code : ℕ) (session : RacingSession) : Type 0 where
  pub why : MemoryRefusal
  pub code_is : code ≡ kept_code why
  pub refused : IsKeptFor session regions (lent_words words) why

-- or there are more than eight regions, which is 29, or the heap refused, which is 5
abbrev pub KeepsMemory : List RegionSpec → List WordLoan → ℕ → RacingSession → Type 0
KeepsMemory regions words code session =
    IsKeptBy regions words code session ⊎ (((8 < length regions) × (code ≡ 29)) ⊎ (code ≡ 5))

-- The guest has these regions from now on, over these words, as it may. Else nothing of it changes. The number is 19 exactly
-- where it is busy.
pub record MovesMemory (regions : List RegionSpec) (words : List WordLoan) (code : ℕ) (old new : RacingSession) : Type 0 where
  pub moved : code ≡ 0 → new ≡ with_regions regions old
  pub may : code ≡ 0 → MayHave old regions (lent_words words)
  pub why : code ≢ 0 → KeepsMemory regions words code old
  pub kept : code ≢ 0 → new ≡ old
  pub busy : (code ≡ 19) ↔ (is_busy old ≡ true)

-- What is left of the loans: where the guest has the memory all are empty, where there is no guest or it is busy all are as they
-- were, and else the first of them are taken.
abbrev pub TakesLent : List WordLoan → List WordLoan → ℕ → Type 0
TakesLent old new code =
    (code ≡ 0 → All (λ loan. loan.items ≡ []) new)
    × (IsTrue ((code == 1) || (code == 19)) → new ≡ old)
    × TakesFront old new
