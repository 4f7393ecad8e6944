-- The offset with a wrap counter of 0 is n further than with 1, at the same position.
use Rattle.std.proofs.Common.{◌%◌, ◌^◌, arith}
use Rattle.std.proofs.lemmas.Grind.{common_steps}
use Rattle.suppression.proofs.EventPlace.{position_of-first, position_of-second}
use Rattle.suppression.proofs.packed.event_place.Goals as goal

pub returns-then-event-eq0-clause-place : goal.returns-then-event-eq0-clause-place
returns-then-event-eq0-clause-place c = λ m addr e. record {
  below = grind (arith, common_steps, e);
  position = grind (arith, common_steps, e, position_of-second c.args.n (c.args.event % 2 ^ 15));
  wrap = grind (arith, common_steps, e);
}

pub returns-else-event-eq0-clause-place : goal.returns-else-event-eq0-clause-place
returns-else-event-eq0-clause-place c = λ m addr e. record {
  below = grind (arith, common_steps, e);
  position = grind (arith, common_steps, e, position_of-first c.args.n (c.args.event % 2 ^ 15));
  wrap = grind (arith, common_steps, e);
}
