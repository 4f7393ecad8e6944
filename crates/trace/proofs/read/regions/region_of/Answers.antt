use Rattle.std.proofs.Common.{ap}
use Rattle.std.specs.Option.{option_copied}
use Rattle.trace.proofs.Pairs.{bad_second, no_first, no_second, pair_read}
use Rattle.trace.proofs.RegionFields.{plus}
use Rattle.trace.proofs.read.regions.region_of.Goals as goal

pub returns-in_err-number-clause-none : goal.returns-in_err-number-clause-none
returns-in_err-number-clause-none c =
    rw c.from_residual.ensures (λ region is. no_first 43 64 plus _ _ _ c.cut.ensures c.in_err-number.ensures.none
    region.base region.len is.fits.base is.spelled)

pub returns-in_err-len-clause-none : goal.returns-in_err-len-clause-none
returns-in_err-len-clause-none c =
    rw c.from_residual-in_err-len.ensures (λ region is. no_second 43 64 plus _ _ _ c.cut.ensures
    (ap option_copied c.in_err-len.was) region.base region.len is.spelled)

pub returns-in_err-number-2-clause-none : goal.returns-in_err-number-2-clause-none
returns-in_err-number-2-clause-none c =
    rw c.from_residual-in_err-number-2.ensures (λ region is. bad_second 43 64 plus _ _ _ c.cut.ensures _
    (ap option_copied c.in_ok-len.was) c.in_err-number-2.ensures.none region.base region.len is.fits.len is.spelled)

pub returns-clause-some : goal.returns-clause-some
returns-clause-some c = record {
  fits = record { base = c.in_ok-number.ensures.some.fits; len = c.in_ok-number-2.ensures.some.fits };
  spelled = pair_read 43 64 plus _ _ _ c.cut.ensures _ _ _ (ap option_copied c.in_ok-len.was)
      c.in_ok-number.ensures.some c.in_ok-number-2.ensures.some;
}
