use Rattle.std.proofs.Common.{◌≡◌, ap, length, arith}
use Rattle.std.proofs.lemmas.Grind.{common_steps}
use Rattle.std.specs.Option.{option_copied}
use Rattle.trace.proofs.RegionFields.{all_read, bad_part, made_parsed, made_some, too_many}
use Rattle.trace.proofs.read.regions.regions_of.Goals as goal

pub returns-then-is_full-clause-none : goal.returns-then-is_full-clause-none
returns-then-is_full-clause-none c =
    let full : length c.loop-rest.regions.items ≡ 8 = grind (arith, common_steps) in
    too_many _ _ _ c.loop-rest.invariant.0 _ (ap option_copied c.in-Some.is) (omega (arith, full))

pub returns-in_err-region_of-clause-none : goal.returns-in_err-region_of-clause-none
returns-in_err-region_of-clause-none c =
    rw c.from_residual.ensures (bad_part _ _ _ c.loop-rest.invariant.0 _ _ _ (ap option_copied c.in-Some.is)
    c.cut.ensures c.in_err-region_of.ensures.none)

pub returns-clause-some : goal.returns-clause-some
returns-clause-some c = made_some _ _ _ c.new.ensures.same
    (rw c.as_slice.ensures.value (all_read _ _ _ c.loop-rest.invariant.0 (ap option_copied c.in_default.is)
    c.loop-rest.invariant.1 c.loop-rest.invariant.2))

pub returns-clause-parsed : goal.returns-clause-parsed
returns-clause-parsed c =
    made_parsed _ _ _ c.new.ensures.same
    (rw c.as_slice.ensures.value (all_read _ _ _ c.loop-rest.invariant.0 (ap option_copied c.in_default.is)
    c.loop-rest.invariant.1 c.loop-rest.invariant.2))
