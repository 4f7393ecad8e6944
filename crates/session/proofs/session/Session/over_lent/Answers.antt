-- A session is refused by the first fault, the lent bytes' before all others.
use Rattle.std.proofs.Common.{inl, map, refl, sym, subst, arith}
use Rattle.std.proofs.lemmas.List.{length-map}
use Rattle.session.specs.Plugging.{AreBare}
use Rattle.std.specs.Vec.{vec_items}
use Rattle.session.proofs.Refusals.{handed_on, if_err, is_err, judged_first, lent, lent_refused, on_ok, then_board, wanting}
use Rattle.session.proofs.Plugged.{bare_over}
use Rattle.session.proofs.session.Session.over_lent.Goals as goal

pub returns-in_err-judge-clause-fault : goal.returns-in_err-judge-clause-fault
returns-in_err-judge-clause-fault g c =
    let why = c.in_err-judge.field-0.0 in
    if_err c.from_residual.result why _
    (handed_on c.from_residual.result c.in_err-judge.field-0.0 c.from_residual.ensures.1)
    (lent_refused c.args.guests.now c.args.image.now c.args.cache c.args.budget
    (map vec_items c.args.bytes.items)
    (lent c.args.guests.now c.deref.ensures.value (c.if-not-are_bytes_of.ensures.0 refl)) why
    (c.in_err-judge.ensures.fault c.args.cache))

pub returns-in_err-judge-clause-exact : goal.returns-in_err-judge-clause-exact
returns-in_err-judge-clause-exact g c = λ why other refused.
    let told = c.in_err-judge.field-0.0 in
    is_err c.from_residual.result told _
    (handed_on c.from_residual.result c.in_err-judge.field-0.0 c.from_residual.ensures.1)
    (inl (judged_first c.args.guests.now c.args.image.now c.args.cache c.args.budget
    (map vec_items c.args.bytes.items)
    (lent c.args.guests.now c.deref.ensures.value (c.if-not-are_bytes_of.ensures.0 refl)) told why
    c.in_err-judge.ensures.bad (c.in_err-judge.ensures.fault c.args.cache) refused))

pub of_board-requires-clause-bare : goal.of_board-requires-clause-bare
of_board-requires-clause-bare g c =
    subst (AreBare c.args.guests.now) (sym c.in_ok-board.ensures.lent_slots)
    (bare_over c.args.guests.now (map vec_items c.args.bytes.items))

pub of_board-requires-clause-few : goal.of_board-requires-clause-few
of_board-requires-clause-few g c =
    omega (arith, c.in_ok-board.ensures.accepted.slots_good.few, length-map c.args.guests.now (λ guest. guest.slot))

pub returns-clause-lasts : goal.returns-clause-lasts
returns-clause-lasts g c = on_ok c.of_board.result _ c.in_ok-judge.ensures.good.4

pub returns-clause-fault : goal.returns-clause-fault
returns-clause-fault g c =
    wanting c.of_board.result _ c.of_board.ensures.fault (
      lent c.args.guests.now c.deref.ensures.value
          (c.if-not-are_bytes_of.ensures.0 refl),
      c.in_ok-judge.ensures.good,
    )

pub returns-clause-exact : goal.returns-clause-exact
returns-clause-exact g c =
    then_board c.args.guests.now c.args.image.now c.args.cache c.args.budget
    (map vec_items c.args.bytes.items)
    (lent c.args.guests.now c.deref.ensures.value
    (c.if-not-are_bytes_of.ensures.0 refl)) c.of_board.result c.in_ok-judge.ensures.good
    (λ fault other refused. absurd (c.in_ok-board.ensures.bad_board fault other refused))
