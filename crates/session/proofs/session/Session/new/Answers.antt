-- A session is refused by the first fault, and one that isn't there lacked memory where there is none.
use Rattle.std.proofs.Common.{sym, subst, arith}
use Rattle.std.proofs.lemmas.List.{length-map}
use Rattle.session.specs.Plugging.{AreBare}
use Rattle.session.proofs.Refusals.{handed_on, if_err, never_device, never_extent, never_outlet, never_spent, on_ok, told_device, told_extent, told_image, told_outlet, told_spent}
use Rattle.session.proofs.Plugged.{bare_opened}
use Rattle.session.proofs.session.Session.new.Goals as goal

pub returns-in_err-judge-clause-fault : goal.returns-in_err-judge-clause-fault
returns-in_err-judge-clause-fault g c =
    if_err c.from_residual.result c.in_err-judge.field-0.0 _
    (handed_on c.from_residual.result c.in_err-judge.field-0.0 c.from_residual.ensures.1)
    (c.in_err-judge.ensures.fault c.args.cache)

pub returns-in_err-judge-clause-bad_image : goal.returns-in_err-judge-clause-bad_image
returns-in_err-judge-clause-bad_image g c =
    told_image c.args.guests.now c.args.image.now c.args.cache c.args.budget c.from_residual.result
    c.in_err-judge.field-0.0 (handed_on c.from_residual.result c.in_err-judge.field-0.0
    c.from_residual.ensures.1) (c.in_err-judge.ensures.fault c.args.cache)

pub returns-in_err-judge-clause-bad_outlet : goal.returns-in_err-judge-clause-bad_outlet
returns-in_err-judge-clause-bad_outlet g c =
    told_outlet c.args.guests.now c.args.image.now c.args.cache c.args.budget c.from_residual.result
    c.in_err-judge.field-0.0 (handed_on c.from_residual.result c.in_err-judge.field-0.0
    c.from_residual.ensures.1) (c.in_err-judge.ensures.fault c.args.cache)

pub returns-in_err-judge-clause-bad_device : goal.returns-in_err-judge-clause-bad_device
returns-in_err-judge-clause-bad_device g c =
    told_device c.args.guests.now c.args.image.now c.args.cache c.args.budget c.from_residual.result
    c.in_err-judge.field-0.0 (handed_on c.from_residual.result c.in_err-judge.field-0.0
    c.from_residual.ensures.1) (c.in_err-judge.ensures.fault c.args.cache)

pub returns-in_err-judge-clause-bad_extent : goal.returns-in_err-judge-clause-bad_extent
returns-in_err-judge-clause-bad_extent g c =
    told_extent c.args.guests.now c.args.image.now c.args.cache c.args.budget c.from_residual.result
    c.in_err-judge.field-0.0 (handed_on c.from_residual.result c.in_err-judge.field-0.0
    c.from_residual.ensures.1) (c.in_err-judge.ensures.fault c.args.cache)

pub returns-in_err-judge-clause-spent : goal.returns-in_err-judge-clause-spent
returns-in_err-judge-clause-spent g c =
    told_spent c.args.guests.now c.args.image.now c.args.cache c.args.budget c.from_residual.result
    c.in_err-judge.field-0.0 (handed_on c.from_residual.result c.in_err-judge.field-0.0
    c.from_residual.ensures.1) (c.in_err-judge.ensures.fault c.args.cache)

pub of_board-requires-clause-bare : goal.of_board-requires-clause-bare
of_board-requires-clause-bare g c =
    subst (AreBare c.args.guests.now) (sym c.in_ok-board.ensures.slots) (bare_opened c.args.guests.now)

pub of_board-requires-clause-few : goal.of_board-requires-clause-few
of_board-requires-clause-few g c =
    omega (arith, c.in_ok-board.ensures.accepted.slots_good.few, length-map c.args.guests.now (λ guest. guest.slot))

pub returns-clause-lasts : goal.returns-clause-lasts
returns-clause-lasts g c = on_ok c.of_board.result _ c.in_ok-judge.ensures.good.4

pub returns-clause-bad_outlet : goal.returns-clause-bad_outlet
returns-clause-bad_outlet g c = (
  λ is. absurd (never_outlet c.of_board.result c.of_board.ensures.fault is),
  λ bad. absurd (bad.1 c.in_ok-judge.ensures.good.1),
)

pub returns-clause-bad_device : goal.returns-clause-bad_device
returns-clause-bad_device g c = (
  λ is. absurd (never_device c.of_board.result c.of_board.ensures.fault is),
  λ bad. absurd (bad.2 c.in_ok-judge.ensures.good.2),
)

pub returns-clause-bad_extent : goal.returns-clause-bad_extent
returns-clause-bad_extent g c = (
  λ is. absurd (never_extent c.of_board.result c.of_board.ensures.fault is),
  λ bad. absurd (bad.3 c.in_ok-judge.ensures.good.3),
)

pub returns-clause-spent : goal.returns-clause-spent
returns-clause-spent g c = (
  λ is. absurd (never_spent c.of_board.result c.of_board.ensures.fault is),
  λ bad. absurd (c.in_ok-judge.ensures.good.4 bad.4),
)

pub returns-clause-bad_board : goal.returns-clause-bad_board
returns-clause-bad_board g c = λ fault is. absurd (c.in_ok-board.ensures.bad_board fault is.other is.refused)
