-- Text that is put together.
use Rattle.std.specs.Prelude.{ℕ, Bool, List}

-- the text so far, and whether there was no memory for some of it
pub record Said : Type 0 where
  pub bytes : List ℕ
  pub is_full : Bool
