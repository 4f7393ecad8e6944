-- A refusal of memory: the first and the last request that are refused, and how many have come since that was
-- set.
use Rattle.std.specs.Prelude.{ℕ, ◌<◌, ◌≤◌}

-- The first refused request has come. Where it is 0, none is refused.
pub record HasCome (first number : ℕ) : Type 0 where
  pub some : 0 < first
  pub reached : first ≤ number

-- The request of that number is refused: it is the first refused one or comes after it, and it doesn't come
-- after the last.
pub record IsRefused (first last number : ℕ) : Type 0 where
  pub reached : HasCome first number
  pub lasts : number ≤ last
