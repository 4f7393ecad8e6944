use Rattle.std.proofs.Common.{◌∙◌, false, arith}
use Rattle.chain.proofs.Contents.{part_inside}
use Rattle.shared_memory.specs.Sightings.{memory}
use Rattle.console_device.proofs.Transmitting.{if_some, in_first}
use Rattle.console_device.proofs.transmit.in_one_buffer.Goals as goal

pub in_place-requires : goal.in_place-requires
in_place-requires g c =
    part_inside (memory (g.M.Shared.sightings c.args.mem.now)) false c.args.chain.now 0 c.readable_len-len.result
    c.requires.good.inside (omega (arith, c.if-len-eq0.false, c.readable_len-len.ensures.value)) c.segment_at-first.result
    c.segment_at-first.ensures (omega (arith, c.if-from-len.false, c.from.ensures))

pub returns : goal.returns
returns g c =
    let one = in_first (memory (g.M.Shared.sightings c.args.mem.now)) c.args.chain.now c.readable_len-len.result
    c.segment_at-first.result c.requires.good.inside c.readable_len-len.ensures.value (omega (arith, c.if-len-eq0.false))
    c.segment_at-first.ensures (omega (arith, c.if-from-len.false, c.from.ensures)) in
    if_some c.in_place.result _ _ (λ bytes is. is ∙ one) c.in_place.ensures.value
