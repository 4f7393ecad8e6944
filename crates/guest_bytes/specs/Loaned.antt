-- What a loan owns.
use Rattle.std.specs.Prelude.{◌≡◌, ℕ, zero, suc, List, length}
use Rattle.std.specs.Borrow.{full_share, Fml, Array}
use Rattle.std.specs.Ptr.{lies_at}
use Rattle.std_alloc.specs.Vec.Ownership.{FitsInBlock}
use base.Fml.{ftrue}
use denote.RattleType.{RattleType}
use denote.RawPtr.{Ptr}

-- The values that lie at a place. A loan of none owns nothing, and its place may be null.
abbrev pub loaned : (X : RattleType) → Ptr → ℕ → List X.Denot → Fml
loaned X place zero items = ftrue
loaned X place (suc n) items = lies_at (Array X (suc n)) full_share place items

-- these are as many values, and a `Vec` may have them
abbrev pub IsRun : (X : RattleType) → ℕ → List X.Denot → Type 0
IsRun X n items = (length items ≡ n) × FitsInBlock X n
