use Rattle.std.proofs.Common.{rules, ◌≡◌, ◌<◌, length, [], sym, ap, ◌∙◌, arith}
use Rattle.std.specs.Vec.{vec_items}
use Rattle.c_values.proofs.OneByOne.{all_taken, first_taken, next_taken, one_more_taken}
use Rattle.c_values.proofs.loans.taken.Goals as goal

pub loop-place-preserved : goal.loop-place-preserved
loop-place-preserved g c =
    let values = g.L.Lends.values in
    let few : c.loop-place.place < length c.args.loans.now = omega (arith, c.loop-place-test.true) in
    one_more_taken (λ loan. values loan ≡ []) values vec_items c.args.loans.now c.loop-place.loans c.loop-place.place
    c.index-loans-place.result c.take.new.self c.loop-place.lent.items _ c.take.result few c.loop-place.invariant
    c.index-loans-place.is c.in_ok-push.ensures.items (c.take.ensures.taken ∙ ap values (sym c.index-loans-place.is))
    c.take.ensures.left

pub returns-in_err-push-clause-front : goal.returns-in_err-push-clause-front
returns-in_err-push-clause-front g c = search (rules, next_taken)

pub returns-clause-front : goal.returns-clause-front
returns-clause-front g c = search (rules, first_taken)

pub returns-clause-left : goal.returns-clause-left
returns-clause-left g c = search (rules, all_taken)
