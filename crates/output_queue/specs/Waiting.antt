-- What a console put out and nobody has taken yet.
use Rattle.std.specs.Prelude.{ℕ, List, []}

-- its bytes, the first ones first, and how many may wait
pub record Waiting : Type 0 where
  pub bytes : List ℕ
  pub limit : ℕ

-- nothing waits, of so many bytes that may
abbrev pub none_waiting : ℕ → Waiting
none_waiting limit = record { bytes = []; limit = limit }
