use Rattle.std.proofs.Common.{◌≡◌, [], map, take}
use Rattle.std.specs.Vec.{vec_items}
use Rattle.c_values.proofs.OneByOne.{AreTakenTo}
use Rattle.c_values.proofs.loans.taken.Given as goal

-- the loans before this place are taken, and those from it on are as they were
abbrev pub invariant-loop-place : goal.invariant-loop-place
invariant-loop-place g l =
    (map vec_items l.lent.items ≡ map g.L.Lends.values (take l.place l.fn.loans))
    × AreTakenTo (λ loan. g.L.Lends.values loan ≡ []) l.place l.fn.loans l.loans
