-- What a budget promises of the chains that are within it.
use Rattle.std.proofs.Common.{◌≡◌, ◌≢◌, ℕ, ◌-◌, ◌<◌, ◌≤◌, Some, List, [], ◌∷◌, ◌++◌, inl, inr, length, take, arith, ap, subst, ◌∙◌}
use Rattle.std.proofs.lemmas.Bool.{cases_lt}
use Rattle.std.proofs.lemmas.List.{length_push, length-take-le}
use Rattle.std.proofs.Math.Seq.{take-append_seam}
use Rattle.chain.specs.declared.budget.Budget.{Budget}
use Rattle.chain.specs.declared.segment.Buffer.{Buffer}
use Rattle.chain.specs.Budget.{AreWithin, IsSpent, bytes_of, left_after, less}
use Rattle.chain.proofs.Budgets.{left_begins}

-- As many chains as the budget allows, at most.
pub few_chains : (budget : Budget) (most : ℕ) (chains : List (List Buffer)) → budget.chains ≡ Some most
    → AreWithin budget chains → length chains ≤ most
few_chains budget most chains limit within =
    elim (cases_lt most (length chains)) [
      | inl more ↦
          let count : length (take most chains) ≡ most = length-take-le most chains (omega (arith, more)) in
          let none : most - length (take most chains) ≡ 0 = omega (arith, count) in
          absurd (within most more (inl (ap (λ l. less l (length (take most chains))) limit
          ∙ ap (λ n. Some n) none)))
      | inr fits ↦ omega (arith, fits)
    ]

-- As many bytes, and those of one chain more.
pub few_bytes : (budget : Budget) (most : ℕ) (front : List (List Buffer)) (last : List Buffer)
    → budget.bytes ≡ Some most → AreWithin budget (front ++ last ∷ [])
    → bytes_of front < most
few_bytes budget most front last limit within =
    let there : length front < length (front ++ last ∷ []) = omega (arith, length_push front last) in
    elim (cases_lt (bytes_of front) most) [
      | inl fits ↦ fits
      | inr spent ↦
          let none : most - bytes_of front ≡ 0 = omega (arith, spent) in
          absurd (subst (λ l. ¬ IsSpent (left_after budget l)) (take-append_seam front (last ∷ []))
          (within (length front) there)
          (inr (ap (λ l. less l (bytes_of front)) limit ∙ ap (λ n. Some n) none)))
    ]

-- A piece that begins with something left and pauses with nothing served a chain.
pub some_chain : (budget : Budget) (chains : List (List Buffer)) → ¬ IsSpent budget
    → IsSpent (left_after budget chains) → chains ≢ []
some_chain budget chains some spent none =
    some (subst (λ l. IsSpent l) (ap (left_after budget) none ∙ left_begins budget) spent)
