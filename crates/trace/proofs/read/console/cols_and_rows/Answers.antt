use Rattle.std.proofs.Common.{ap}
use Rattle.std.specs.Option.{option_copied}
use Rattle.trace.proofs.Pairs.{bad_second, colon, no_first, no_second, pair_read}
use Rattle.trace.proofs.read.console.cols_and_rows.Goals as goal

pub returns-in_err-number_u16-clause-none : goal.returns-in_err-number_u16-clause-none
returns-in_err-number_u16-clause-none c =
    rw c.from_residual.ensures (λ cols rows is. no_first 58 16 colon _ _ _ c.cut.ensures
    c.in_err-number_u16.ensures.none cols rows is.fits.across is.spelled)

pub returns-in_err-rows-clause-none : goal.returns-in_err-rows-clause-none
returns-in_err-rows-clause-none c =
    rw c.from_residual-in_err-rows.ensures (λ cols rows is. no_second 58 16 colon _ _ _ c.cut.ensures
    (ap option_copied c.in_err-rows.was) cols rows is.spelled)

pub returns-in_err-number_u16-2-clause-none : goal.returns-in_err-number_u16-2-clause-none
returns-in_err-number_u16-2-clause-none c =
    rw c.from_residual-in_err-number_u16-2.ensures (λ cols rows is. bad_second 58 16 colon _ _ _ c.cut.ensures _
    (ap option_copied c.in_ok-rows.was) c.in_err-number_u16-2.ensures.none cols rows is.fits.down is.spelled)

pub returns-clause-some : goal.returns-clause-some
returns-clause-some c = record {
  fits = record { across = c.in_ok-number_u16.ensures.some.fits; down = c.in_ok-number_u16-2.ensures.some.fits };
  spelled = pair_read 58 16 colon _ _ _ c.cut.ensures _ _ _ (ap option_copied c.in_ok-rows.was)
      c.in_ok-number_u16.ensures.some c.in_ok-number_u16-2.ensures.some;
}
