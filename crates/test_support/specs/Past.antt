-- The moments that a file or an image of the tests has recorded.
use Rattle.std.specs.Prelude.{◌⊎◌, ℕ, zero, suc, List, [], ◌∷◌, ⊤, length, drop}
use mathlib.Core.Logic.{inl, inr}

module _ {X : Type 0} (MightLeave : X → List ℕ → Type 0) where
  -- at one of them a stop might have left this
  abbrev pub AtOneOf : List X → List ℕ → Type 0
  AtOneOf [] left = ⊥
  AtOneOf (moment ∷ past) left = MightLeave moment left ⊎ AtOneOf past left

  -- a stop now may leave it, or one since so many of them might have
  abbrev pub Since : (may_leave : List ℕ → Type 0) → List X → ℕ → List ℕ → Type 0
  Since may_leave past since left = may_leave left ⊎ AtOneOf (drop since past) left

  none_left : (past : List X) (left : List ℕ) → AtOneOf (drop (length past) past) left → ⊥
  none_left [] left at = at
  none_left (moment ∷ past) left at = none_left past left at

  -- since the last of them there is nothing else
  pub only_now : (may_leave : List ℕ → Type 0) (past : List X) (left : List ℕ)
      → Since may_leave past (length past) left → may_leave left
  only_now may_leave past left (inl now) = now
  only_now may_leave past left (inr at) = absurd (none_left past left at)

-- The same numbered from 1 on: of number 0 nothing is said.
abbrev pub from_1 : (ℕ → List ℕ → Type 0) → ℕ → List ℕ → Type 0
from_1 left_since zero left = ⊤
from_1 left_since (suc since) left = left_since since left
