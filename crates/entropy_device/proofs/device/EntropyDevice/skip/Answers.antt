use Rattle.std.proofs.Common.{ℕ, ◌+◌, ◌≤◌, List, length, drop, ap, ◌∙◌, arith}
use Rattle.entropy_device.proofs.Pool.{behind, size}
use Rattle.entropy_device.proofs.device.EntropyDevice.skip.Goals as goal

pub returns : goal.returns
returns c =
    let d = c.self.inside in
    let ordered : d.start ≤ d.end = c.self.invariant.0 in
    let within : d.end ≤ length d.bytes = omega (arith, c.self.invariant, c.self.told) in
    let few : d.start + c.args.count ≤ d.end =
    let held = ap (λ (l : List ℕ). length l) c.self.view_is in
    omega (arith, c.requires, held, ordered, size d.bytes d.start d.end ordered within) in
    behind d.bytes d.start d.end ordered within c.args.count few ∙ ap (drop c.args.count) c.self.view_is
