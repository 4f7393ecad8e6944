-- What comes of making a guest.
use Rattle.std.specs.Prelude.{◌≡◌, ◌≢◌, ◌⊎◌, ℕ, ◌==◌, ◌||◌, IsTrue, List, [], All, Some, None}
use Rattle.guest_bytes.specs.declared.word_loan.WordLoan.{WordLoan}
use Rattle.c_values.specs.Loans.{TakesFirst}
use Rattle.racing_session.specs.declared.fault.RacingFault.{RacingFault}
use Rattle.racing_session.specs.Judging.{IsAccepted, IsRefusedFor}
use Rattle.racing_ffi.specs.declared.config.GuestConfig.{GuestConfig}
use Rattle.racing_ffi.specs.Codes.{fault_code}
use Rattle.racing_ffi.specs.Config.{judged, lent_words, made_session, spec_of}
use Rattle.racing_ffi.specs.Handle.{Held}

-- there is a new guest, the one that is described, which can be had
pub record IsMade (config : GuestConfig) (after : Held) : Type 0 where
  pub made : after ≡ Some (made_session config)
  pub judged_good : judged config ≡ 0
  pub accepted : IsAccepted (spec_of config) (lent_words config.words.now)

-- why there is none that was judged good: it can't be had, or memory was wanting before all else
abbrev pub IsRefusal : GuestConfig → RacingFault → Type 0
IsRefusal config why =
    (why ≡ RacingFault.NoMemory) ⊎ IsRefusedFor (spec_of config) (lent_words config.words.now) why

-- the number is that of such a refusal
pub record RefusesFor (config : GuestConfig) (code : ℕ) : Type 0 where
  pub why : RacingFault
  pub judged_good : judged config ≡ 0
  pub code_is : code ≡ fault_code why
  pub refused : IsRefusal config why

-- or of what is judged before
abbrev pub Refuses : GuestConfig → ℕ → Type 0
Refuses config code = ((judged config ≢ 0) × (code ≡ judged config)) ⊎ RefusesFor config code

-- the first of the loans are taken, which may be none or all
abbrev pub TakesFront : List WordLoan → List WordLoan → Type 0
TakesFront = TakesFirst (λ loan. loan.items ≡ [])

-- What is left of the loans: with a guest all are empty, after a refusal of the handle or of what is judged first all are as they
-- were, and after another the first of them are taken.
abbrev pub TakesWords : List WordLoan → List WordLoan → Held → ℕ → Type 0
TakesWords old new before code =
    (before ≡ None → code ≡ 0 → All (λ loan. loan.items ≡ []) new)
    × (IsTrue ((code == 2) || (code == 17) || (code == 32) || (code == 33)) → new ≡ old)
    × TakesFront old new
