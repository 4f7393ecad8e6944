-- the outputs so far are those of the guests so far
use Rattle.std.proofs.Common.{◌≡◌, map, take}
use Rattle.output_queue.specs.Waiting.{none_waiting}
use Rattle.session.proofs.guest.outputs.Given as goal

abbrev pub invariant-loop-guest : goal.invariant-loop-guest
invariant-loop-guest g l =
    l.outputs.items ≡ map (λ guest. none_waiting guest.outlet) (take l.guest-index l.guests)
