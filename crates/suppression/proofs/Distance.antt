-- The set of places that a service passed, by the distance of a place from the first of them.
use Rattle.std.proofs.Common.{◌≡◌, ℕ, ◌+◌, ◌-◌, ◌%◌, ◌<◌, ◌≤◌, ◌↔◌, sym, ◌∙◌, ap, inl, inr, arith}
use Rattle.std.proofs.lemmas.Bool.{cases_lt}
use Rattle.std.proofs.Math.Nat.{mod-eq_of_lt, add-mod_left}
use Rattle.suppression.specs.Places.{Passed, place_ahead, place_back}

-- from the modulus on, the first round is taken off
pub mod-second_round : (m n : ℕ) → m ≤ n → n < m + m → n % m ≡ n - m
mod-second_round m n above below =
    let there : (m + (n - m)) % m ≡ n - m = add-mod_left m (n - m) ∙ mod-eq_of_lt (omega arith) in
    let same : m + (n - m) ≡ n = omega arith in
    sym (ap (λ x. x % m) same) ∙ there

-- d is how far a place is from another, counted forward
pub record IsDistance (m from place d : ℕ) : Type 0 where
  pub ahead : from ≤ place → d + from ≡ place
  pub behind : place < from → d + from ≡ place + m

-- a place nearer than count was passed
pub Passed-near : (m from count place d : ℕ) → from < m → place < m → IsDistance m from place d →
    d < count → count ≤ m → Passed m from count place
Passed-near m from count place d from_below place_below distance near most =
    record { steps = d; within = near; there = grind (arith, mod-eq_of_lt, mod-second_round, distance) }

-- a place that was passed is nearer than count
pub near-Passed : (m from count place d : ℕ) → from < m → place < m → IsDistance m from place d →
    Passed m from count place → count ≤ m → d < count
near-Passed m from count place d from_below place_below distance passed most =
    grind (arith, mod-eq_of_lt, mod-second_round, distance, passed)

-- as many steps back as were taken lead to where they began
pub back_at_first : (m from steps : ℕ) → from < m → steps ≤ m
    → place_back m (place_ahead m from steps) steps ≡ from
back_at_first m from steps from_below most =
    elim (cases_lt (from + steps) m) [
      | inl near ↦ let there : (from + steps) % m ≡ from + steps = mod-eq_of_lt near in
          ap (λ x. (x + (m - steps)) % m) there
          ∙ mod-second_round m (from + steps + (m - steps)) (omega arith) (omega arith) ∙ (omega arith)
      | inr round ↦ let there : (from + steps) % m ≡ from + steps - m =
          mod-second_round m (from + steps) round (omega arith) in
          let back : from + steps - m + (m - steps) ≡ from = omega arith in
          ap (λ x. (x + (m - steps)) % m) there ∙ ap (λ x. x % m) back ∙ mod-eq_of_lt from_below
    ]

pub passed_since_first : (m from steps place : ℕ) → from < m → steps ≤ m →
    Passed m (place_back m (place_ahead m from steps) steps) steps place ↔ Passed m from steps place
passed_since_first m from steps place from_below most =
    rw (back_at_first m from steps from_below most) (λ p. p, λ p. p)
