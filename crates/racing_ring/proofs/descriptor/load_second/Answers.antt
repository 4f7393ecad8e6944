use Rattle.std.proofs.Common.{◌+◌, ◌∙◌, ℕ, ap, arith, ◌≡◌}
use Rattle.guest_memory.specs.Memory.{num}
use Rattle.guest_memory.proofs.Ranges.{inside_part}
use Rattle.suppression.proofs.Numbers.{number_of_two}
use Rattle.shared_memory.specs.Sightings.{memory}
use Rattle.shared_memory.proofs.Sightings.{inside_loads}
use Rattle.racing_ring.proofs.descriptor.load_second.Goals as goal

pub returns-clause-third : goal.returns-clause-third
returns-clause-third g c =
    let m = memory (g.M.Shared.sightings c.load.new.self) in
    let inside = inside_loads _ _ _ (c.args.addr + 8) 8 c.load.ensures.loads
    (inside_part c.requires (omega arith) (omega arith)) in
    let place : c.args.addr + 8 + 4 ≡ c.args.addr + 12 = omega arith in
    number_of_two m (c.args.addr + 8) 8 4 c.from_le_bytes-2.result c.load.new.into inside c.load.ensures.value
    (omega arith) c.from_le_bytes-2.ensures ∙ ap (λ (a : ℕ). num m a 2) place

pub returns-clause-last : goal.returns-clause-last
returns-clause-last g c =
    let m = memory (g.M.Shared.sightings c.load.new.self) in
    let inside = inside_loads _ _ _ (c.args.addr + 8) 8 c.load.ensures.loads
    (inside_part c.requires (omega arith) (omega arith)) in
    let place : c.args.addr + 8 + 6 ≡ c.args.addr + 14 = omega arith in
    number_of_two m (c.args.addr + 8) 8 6 c.from_le_bytes-3.result c.load.new.into inside c.load.ensures.value
    (omega arith) c.from_le_bytes-3.ensures ∙ ap (λ (a : ℕ). num m a 2) place
