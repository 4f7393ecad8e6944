-- What it comes to that the bits of a guest's pages are kept.
use Rattle.std.specs.Prelude.{◌≡◌, ◌≢◌, ◌⊎◌, ℕ, List, []}
use Rattle.guest_memory.specs.Faults.{zeroed_regions}
use Rattle.guest_memory.specs.Pages.{bits_of}
use Rattle.c_values.specs.Loans.{HasBits}
use Rattle.racing_session.specs.Session.{RacingSession}

-- They are kept in these bytes from now on: in none, or there is one for each page of the memory.
pub record KeepsPages (bytes : List ℕ) (old new : RacingSession) : Type 0 where
  pub enough : (bytes ≡ []) ⊎ HasBits (zeroed_regions old.regions) bytes
  pub kept : new ≡ record old { pages = bits_of bytes }

-- Some page of the memory has no bit in these bytes. Nothing changes.
pub record LacksBits (bytes : List ℕ) (old new : RacingSession) : Type 0 where
  pub some : bytes ≢ []
  pub few : ¬ HasBits (zeroed_regions old.regions) bytes
  pub kept : new ≡ old
