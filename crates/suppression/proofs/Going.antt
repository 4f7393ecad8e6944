-- Places passed one after another, counted modulo m.
use Rattle.std.proofs.Common.{◌≡◌, ℕ, ◌+◌, ◌-◌, ◌%◌, ◌<◌, ◌≤◌, ◌↔◌, ◌⊎◌, sym, ◌∙◌, ap, inl, inr, arith}
use Rattle.std.proofs.lemmas.Bool.{cases_lt}
use Rattle.std.proofs.Math.Nat.{mod-add-mod, add-mod_right, mod-eq_of_lt}
use Rattle.suppression.specs.Places.{Passed, place_ahead, place_back}

-- a service that goes further began where it began
pub back_from_ahead : (m place passed length : ℕ) → passed + length ≤ m
    → place_back m (place_ahead m place length) (passed + length) ≡ place_back m place passed
back_from_ahead m place passed length most =
    let same : place + length + (m - (passed + length)) ≡ place + (m - passed) = omega (arith, most) in
    mod-add-mod (place + length) m (m - (passed + length)) ∙ ap (λ x. x % m) same

-- as many steps as places were passed lead from the first of them to the place behind the last
pub ahead_of_first : (m place passed : ℕ) → place < m → passed ≤ m
    → place_ahead m (place_back m place passed) passed ≡ place
ahead_of_first m place passed below most =
    let same : place + (m - passed) + passed ≡ place + m = omega (arith, most) in
    mod-add-mod (place + (m - passed)) m passed ∙ ap (λ x. x % m) same ∙ add-mod_right place m
    ∙ mod-eq_of_lt below

-- steps after steps
further : (m first passed steps : ℕ) → place_ahead m (place_ahead m first passed) steps
    ≡ place_ahead m first (passed + steps)
further m first passed steps =
    let same : first + passed + steps ≡ first + (passed + steps) = omega arith in
    mod-add-mod (first + passed) m steps ∙ ap (λ x. x % m) same

-- of more places the later ones are those from the place behind the earlier ones on
pub passed_more : (m first passed length place : ℕ) → Passed m first (passed + length) place
    ↔ (Passed m first passed place ⊎ Passed m (place_ahead m first passed) length place)
passed_more m first passed length place = (apart, joined)
  where
    apart : Passed m first (passed + length) place → Passed m first passed place
        ⊎ Passed m (place_ahead m first passed) length place
    apart p =
        elim (cases_lt p.steps passed) [
          | inl before ↦ inl (record { steps = p.steps; within = before; there = p.there })
          | inr behind ↦ let same : passed + (p.steps - passed) ≡ p.steps = omega (arith, behind) in
              inr (record {
                steps = p.steps - passed;
                within = omega (arith, behind, p.within);
                there = p.there ∙ sym (further m first passed (p.steps - passed)
                    ∙ ap (λ x. place_ahead m first x) same);
              })
        ]

    joined : Passed m first passed place ⊎ Passed m (place_ahead m first passed) length place
        → Passed m first (passed + length) place
    joined (inl p) = record { steps = p.steps; within = omega (arith, p.within); there = p.there }
    joined (inr p) = record {
      steps = passed + p.steps;
      within = omega (arith, p.within);
      there = p.there
          ∙ further m first passed p.steps;
    }

-- of no places none is passed
pub none_passed : (m from place : ℕ) → ¬ Passed m from 0 place
none_passed m from place p = omega (arith, p.within)

-- one place from a place on is that place
pub passed_one : (m from place : ℕ) → from < m → Passed m from 1 place ↔ (place ≡ from)
passed_one m from place below = (
  λ p. p.there ∙ ap (λ k. (from + k) % m) (omega (arith, p.within)) ∙ here,
  λ same. record { steps = 0; within = omega arith; there = same ∙ sym here },
)
  where
    here : place_ahead m from 0 ≡ from
    here = ap (λ k. k % m) (omega arith) ∙ mod-eq_of_lt below
