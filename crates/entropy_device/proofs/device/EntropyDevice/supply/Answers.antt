use Rattle.std.proofs.Common.{◌≡◌, ℕ, ◌+◌, ◌-◌, ◌≤◌, List, ◌++◌, length, take, refl, ap, ◌∙◌, arith}
use Rattle.entropy_device.specs.Pool.{fitting}
use Rattle.entropy_device.proofs.Pool.{put_behind, size}
use Rattle.entropy_device.proofs.device.EntropyDevice.supply.Goals as goal

pub returns-clause-taken : goal.returns-clause-taken
returns-clause-taken c =
    let d = c.self.inside in
    let ordered : d.start ≤ d.end = c.self.invariant.0 in
    let within : d.end ≤ length d.bytes = omega (arith, c.self.invariant, c.self.told) in
    let pool = c.args.self.now in
    let bytes = c.args.bytes.now in
    let count : c.min-taken.result ≡ fitting pool bytes =
    let held = ap (λ (l : List ℕ). length l) c.self.view_is in
    omega (arith, c.min-taken.ensures, held, size d.bytes d.start d.end ordered within) in
    put_behind d.bytes d.start d.end ordered within
    c.copy_within.new.self c.copy_from_slice.new.self _ (d.end - d.start + c.min-taken.result)
    c.copy_within.ensures.len c.copy_within.ensures.after
    (omega (arith, c.copy_from_slice.ensures, c.min-taken.ensures))
    ∙ rw (c.self.view_is, c.copy_from_slice.ensures.after) refl ∙ ap (λ k. pool ++ take k bytes) count
