-- What comes of making a board.
use Rattle.std.specs.Prelude.{◌≡◌, ◌≢◌, ◌⊎◌, ℕ, List, [], All, Some, None}
use Rattle.guest_bytes.specs.declared.loan.Loan.{Loan}
use Rattle.c_values.specs.Loans.{TakesFirst}
use Rattle.session.specs.declared.fault.SessionFault.{SessionFault}
use Rattle.board_ffi.specs.declared.config.Config.{Config}
use Rattle.board_ffi.specs.Codes.{fault_code}
use Rattle.board_ffi.specs.Config.{IsGood, IsRefused, session_of}
use Rattle.board_ffi.specs.Handle.{Held}

-- there is a new board of what is described
pub record IsMade (config : Config) (after : Held) : Type 0 where
  pub made : after ≡ Some (session_of config)
  pub good : IsGood config

-- Why there is none: what is described can't be had, or memory was wanting, over loans before all else.
abbrev pub IsRefusal : Config → SessionFault → Type 0
IsRefusal config why =
    ((why ≡ SessionFault.NoMemory) × (config.loans.now ≢ [])) ⊎ IsRefused config why

-- the number is that of such a refusal
pub record Refuses (config : Config) (code : ℕ) : Type 0 where
  pub why : SessionFault
  pub code_is : code ≡ fault_code why
  pub refused : IsRefusal config why

-- the first of the loans are taken, which may be none or all
abbrev pub TakesFront : List Loan → List Loan → Type 0
TakesFront = TakesFirst (λ loan. loan.items ≡ [])

-- What is left of the loans: with a board all are empty, after a refusal of the handle, of a size or of a
-- guest that runs on all are as they were, and after another the first of them are taken.
abbrev pub TakesLoans : List Loan → List Loan → Held → ℕ → Type 0
TakesLoans old new before code =
    (before ≡ None → code ≡ 0 → All (λ loan. loan.items ≡ []) new)
    × ((code ≡ 2) ⊎ (code ≡ 17) ⊎ (code ≡ 34) → new ≡ old)
    × TakesFront old new
