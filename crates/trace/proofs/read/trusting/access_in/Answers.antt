use Rattle.std.proofs.Common.{arith}
use Rattle.trace.proofs.TrustedFields.{access_long, offset_digits, offset_is, width_is, window_found}
use Rattle.trace.proofs.read.trusting.access_in.Goals as goal

pub bounds-text-4 : goal.bounds-text-4
bounds-text-4 c = omega (arith, access_long c.requires.has)

pub bounds-text-6 : goal.bounds-text-6
bounds-text-6 c = omega (arith, access_long c.requires.has)

pub value_at-requires : goal.value_at-requires
value_at-requires c = (offset_digits c.requires.has).0

pub value_at-requires-2 : goal.value_at-requires-2
value_at-requires-2 c = (offset_digits c.requires.has).1.0

pub value_at-requires-3 : goal.value_at-requires-3
value_at-requires-3 c = (offset_digits c.requires.has).1.1

pub overflow_sub-result : goal.overflow_sub-result
overflow_sub-result c = omega (arith, width_is c.requires.has)

pub returns : goal.returns
returns c kind offset width after h = (
  window_found h c.window_named-window.result c.window_named-window.ensures.block
      c.window_named-window.ensures.console,
  rw (c.from-high.ensures, c.from-middle.ensures, c.from-low.ensures)
      (offset_is h c.value_at.result c.value_at-2.result c.value_at-3.result c.value_at.ensures
      c.value_at-2.ensures c.value_at-3.ensures),
  omega (arith, width_is h),
)
