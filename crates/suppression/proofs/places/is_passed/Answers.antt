-- The two branches give the distance, and a place was passed where that is below the count.
use Rattle.std.proofs.Common.{arith}
use Rattle.std.proofs.lemmas.Grind.{common_steps}
use Rattle.suppression.proofs.Distance.{IsDistance, Passed-near, near-Passed}
use Rattle.suppression.proofs.places.is_passed.Goals as goal
use Rattle.suppression.proofs.places.is_passed.Goals.{then-place-from, else-place-from}

pub returns : goal.returns
returns c =
    let distance : IsDistance c.args.modulus c.args.from c.args.place c.if-place-from.distance =
    elim c.if-place-from.branch [
      | then-place-from w ↦ record { ahead = λ h. omega arith; behind = λ h. omega arith }
      | else-place-from w ↦ record { ahead = λ h. omega arith; behind = λ h. omega arith }
    ]
    in
    let r = c.requires in (
      λ near. Passed-near _ _ _ _ _ r.from r.place distance (grind (arith, common_steps)) r.most,
      λ passed. grind (arith, common_steps, near-Passed _ _ _ _ _ r.from r.place distance passed r.most),
    )
