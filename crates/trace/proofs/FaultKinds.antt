-- A kind of fault is known by its place in the order of the checks.
use Rattle.std.proofs.Common.{◌≡◌, ℕ, cond, eqb, refl, sym, ap, ◌∙◌}
use Rattle.trace.specs.declared.fault.FaultKind.{FaultKind}
use Rattle.trace.specs.declared.fault.FaultKind.TheVariants as kind
use Rattle.trace.specs.Faults.{order}

kind_at : ℕ → FaultKind
kind_at n = cond (eqb n 1) kind.Cut
    (cond (eqb n 2) kind.Header
    (cond (eqb n 3) kind.Word
    (cond (eqb n 4) kind.Order
    (cond (eqb n 5) kind.Fields
    (cond (eqb n 6) kind.Number (cond (eqb n 7) kind.Choice (cond (eqb n 8) kind.Bytes kind.NoMemory)))))))

kind_is : (c : FaultKind) → kind_at (order c) ≡ c
unfolding kind_at
kind_is kind.Cut = refl
kind_is c = refl

pub same_kind : (c d : FaultKind) → order c ≡ order d → c ≡ d
same_kind c d e = sym (kind_is c) ∙ ap kind_at e ∙ kind_is d
