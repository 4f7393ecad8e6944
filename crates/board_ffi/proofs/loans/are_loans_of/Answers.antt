use Rattle.std.proofs.Common.{length, refl, sym, ◌∙◌, ap, arith}
use Rattle.std.proofs.lemmas.Bool.Decides.{nat_tests}
use Rattle.std.proofs.lemmas.List.{length-map}
use Rattle.std.proofs.Math.ListN.{drop_of_length-le}
use Rattle.session.proofs.Loans.{first_same, front_map, none_left, rest_same}
use Rattle.board_ffi.specs.Config.{told_lens}
use Rattle.board_ffi.proofs.Lengths.{wanted, wanted_part}
use Rattle.board_ffi.proofs.loans.are_loans_of.Goals as goal

pub returns-then-not-begin_as_long : goal.returns-then-not-begin_as_long
returns-then-not-begin_as_long c =
    let regions = c.as_slice-regions.result.now in
    let loans = c.args.loans.now in (
      λ t. absurd (cc (t)),
      λ whole. c.if-not-begin_as_long.ensures.1
          (front_map (λ loan. loan.len) loans (length regions) c.loop-slot.next
          ∙ first_same (told_lens loans) (length loans) c.loop-slot.next (length-map loans (λ loan. loan.len))
          regions _ _ (wanted_part c.args.slots.now c.loop-slot.slot-index _ regions c.loop-slot-test.true
          (c.as_slice-regions.ensures.same ∙ c.regions-regions.ensures)) _ c.loop-slot.invariant whole),
    )

pub loop-slot-preserved : goal.loop-slot-preserved
loop-slot-preserved c =
    let regions = c.as_slice-regions.result.now in
    let loans = c.args.loans.now in
    rest_same (told_lens loans) (length loans) c.loop-slot.next (length-map loans (λ loan. loan.len))
    regions _ _ (wanted_part c.args.slots.now c.loop-slot.slot-index _ regions c.loop-slot-test.true
    (c.as_slice-regions.ensures.same ∙ c.regions-regions.ensures)) _ c.loop-slot.invariant
    (sym (front_map (λ loan. loan.len) loans (length regions) c.loop-slot.next)
    ∙ c.if-not-begin_as_long.ensures.0 refl)

pub returns : goal.returns
returns c =
    let loans = c.args.loans.now in
    let end = none_left (told_lens loans) (length loans) c.loop-slot.next _ _ (length-map loans (λ loan. loan.len))
    (ap wanted (drop_of_length-le c.args.slots.now c.loop-slot-test.false)) c.loop-slot.invariant in (
      λ test. end.1 (grind (arith, nat_tests, test)),
      λ whole. let is = end.0 whole in grind (arith, nat_tests, is),
    )
