use Rattle.std.proofs.Common.{◌≡◌, ◌∙◌, ℕ, length, take, arith, ap}
use Rattle.std.proofs.lemmas.List.{length-take-le}
use Rattle.guest_memory.specs.Memory.{part_of}
use Rattle.guest_memory.proofs.Ranges.{inside_part}
use Rattle.shared_memory.specs.Sightings.{memory}
use Rattle.chain_handler.proofs.Doing.{copy_out}
use Rattle.network_device.proofs.transmit.put_copy.Goals as goal

pub load-requires : goal.load-requires
load-requires g c =
    let len = c.min-len.result in
    let size : length (take len c.args.piece.now) ≡ len = length-take-le len c.args.piece.now (omega (arith, c.min-len.ensures)) in
    rw size (inside_part c.requires.inside (omega arith) (omega (arith, c.min-len.ensures)))

pub returns-clause-put : goal.returns-clause-put
returns-clause-put g c =
    let len = c.min-len.result in
    let size : length (take len c.args.piece.now) ≡ len = length-take-le len c.args.piece.now (omega (arith, c.min-len.ensures)) in
    copy_out g.M.Shared.races (g.M.Shared.sightings c.args.mem.now) (g.M.Shared.sightings c.load.new.self) c.args.rest.addr len
    c.load.new.into _ _ c.load.ensures.loads (inside_part c.requires.inside (omega arith) (omega (arith, c.min-len.ensures)))
    (c.load.ensures.value ∙ ap (λ (n : ℕ). part_of (memory (g.M.Shared.sightings c.load.new.self)) c.args.rest.addr n) size)
    c.append.ensures.begun
