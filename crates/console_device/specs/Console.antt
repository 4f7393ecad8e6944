-- A console as its guest sees it between two events.
use Rattle.std.specs.Prelude.{ℕ, List}

-- the bytes that were typed and no buffer has taken yet, and the size in characters
pub record Console : Type 0 where
  pub pending : List ℕ
  pub cols : ℕ
  pub rows : ℕ
