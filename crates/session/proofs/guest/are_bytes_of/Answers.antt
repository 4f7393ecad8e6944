use Rattle.std.proofs.Common.{length, refl, sym, ◌∙◌, ap, arith}
use Rattle.std.proofs.lemmas.Bool.Decides.{nat_tests}
use Rattle.std.proofs.Math.ListN.{drop_of_length-le}
use Rattle.session.proofs.Loans.{as_many, first_same, front_sizes, none_left, rest_same, sizes, wanted, wanted_part}
use Rattle.session.proofs.guest.are_bytes_of.Goals as goal

pub returns-then-not-begin_as_long : goal.returns-then-not-begin_as_long
returns-then-not-begin_as_long c =
    let regions = c.as_slice-regions.result.now in
    let runs = c.args.bytes.now in (
      λ t. absurd (cc (t)),
      λ whole. c.if-not-begin_as_long.ensures.1
          (front_sizes runs (length regions) c.loop-guest.next
          ∙ first_same (sizes runs) (length runs) c.loop-guest.next (as_many runs) regions _ _
          (wanted_part c.args.guests.now c.loop-guest.guest-index c.guest-item.result regions
          c.loop-guest-test.true c.guest-item.is c.as_slice-regions.ensures.same) _ c.loop-guest.invariant whole),
    )

pub loop-guest-preserved : goal.loop-guest-preserved
loop-guest-preserved c =
    let regions = c.as_slice-regions.result.now in
    let runs = c.args.bytes.now in
    rest_same (sizes runs) (length runs) c.loop-guest.next (as_many runs) regions _ _
    (wanted_part c.args.guests.now c.loop-guest.guest-index c.guest-item.result regions
    c.loop-guest-test.true c.guest-item.is c.as_slice-regions.ensures.same) _ c.loop-guest.invariant
    (sym (front_sizes runs (length regions) c.loop-guest.next) ∙ c.if-not-begin_as_long.ensures.0 refl)

pub returns : goal.returns
returns c =
    let runs = c.args.bytes.now in
    let end = none_left (sizes runs) (length runs) c.loop-guest.next _ _ (as_many runs)
    (ap wanted (drop_of_length-le c.args.guests.now c.loop-guest-test.false)) c.loop-guest.invariant in (
      λ test. end.1 (grind (arith, nat_tests, test)),
      λ whole. let is = end.0 whole in grind (arith, nat_tests, is),
    )
