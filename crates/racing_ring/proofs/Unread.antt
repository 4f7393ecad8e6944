-- The descriptors that weren't read.
use Rattle.std.proofs.Common.{◌≡◌, ℕ, zero, suc, ◌≤◌, inl, inr, None, [], ◌∷◌, length, refl, arith}
use Rattle.std.proofs.lemmas.Bool.{cases_lt}
use Rattle.std.specs.Prelude.{replicate}
use Rattle.racing_ring.specs.Table.{Known, known_at, AreUnreadBeside}

none_at : (n i : ℕ) → known_at (replicate n None) i ≡ None
none_at zero i = refl
none_at (suc n) zero = refl
none_at (suc n) (suc i) = none_at n i

pub none_read : (n from to : ℕ) → AreUnreadBeside (replicate n None) from to
none_read n from to i beside = none_at n i

abbrev AreUnread : Known → Type 0
AreUnread known = (i : ℕ) → known_at known i ≡ None

-- so many descriptors of which none was read
all_unread : (n : ℕ) (known : Known) → length known ≡ n → AreUnread known → known ≡ replicate n None
all_unread zero [] e none = refl
all_unread zero (x ∷ known) e none = cc
all_unread (suc n) [] e none = cc
all_unread (suc n) (x ∷ known) e none =
    let rest : known ≡ replicate n None = all_unread n known (omega (arith, e)) (λ (i : ℕ). none (suc i)) in
    let first : x ≡ None = none 0 in
    rw (first, rest) refl

-- none is left between two indices that have met
module _ (known : Known) (index to : ℕ) (met : to ≤ index) (beside : AreUnreadBeside known index to) where
  pub none_left : AreUnread known
  none_left i =
      elim (cases_lt i index) [
        | inl low ↦ beside i (inl low)
        | inr high ↦ beside i (inr (omega (arith, high, met)))
      ]

  pub all_left : length known ≡ 256 → known ≡ replicate 256 None
  all_left e = all_unread 256 known e none_left
