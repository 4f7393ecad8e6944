-- What is typed to a console and waits for a buffer of the receive queue (5.3.6).
use Rattle.std.specs.Prelude.{◌≡◌, ℕ, ◌-◌, List, length, drop, min}

-- How many of these bytes fit: at most 4096 are pending. The bound is this project's choice.
abbrev pub fitting : List ℕ → List ℕ → ℕ
fitting pending bytes = min (length bytes) (4096 - length pending)

-- what stays pending once the first bytes were taken
pub record IsLeft (old new : List ℕ) : Type 0 where
  pub taken : ℕ
  pub rest : new ≡ drop taken old
