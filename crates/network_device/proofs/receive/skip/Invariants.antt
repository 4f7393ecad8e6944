use Rattle.std.specs.Prelude.{◌≡◌, ◌≤◌, ◌-◌, drop}
use Rattle.network_device.proofs.receive.skip.Given as goal

abbrev pub invariant-loop-left : goal.invariant-loop-left
invariant-loop-left g l =
    (l.left ≤ l.fn.count)
    × (l.store ≡ record l.fn.store { frames = drop (l.fn.count - l.left) l.fn.store.frames })

abbrev pub decreases-loop-left : goal.decreases-loop-left
decreases-loop-left g l = l.left
