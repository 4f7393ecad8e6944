-- so many as were counted
use Rattle.std.proofs.Common.{◌≡◌, replicate, None}
use Rattle.session.proofs.guest.none_paused.Given as goal

abbrev pub invariant-loop : goal.invariant-loop
invariant-loop g l = l.paused.items ≡ replicate l.counter None
