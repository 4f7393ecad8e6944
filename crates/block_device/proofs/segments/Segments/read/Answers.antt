use Rattle.std.proofs.Common.{◌∙◌, ap, arith, length-drop}
use Rattle.std.proofs.lemmas.List.{length-take-le, take_all}
use Rattle.chain.specs.Bytes.{readable_of}
use Rattle.block_device.specs.Zeroes.{segments_in}
use Rattle.block_device.proofs.segments.Segments.read.Goals as goal

pub read_at-requires-clause-range : goal.read_at-requires-clause-range
read_at-requires-clause-range g c =
    omega (
      arith,
      length-drop 16 (readable_of c.args.mem.now c.args.chain.now),
      length-take-le c.args.len c.args.bytes.now (omega arith),
      c.requires.payload,
    )

pub returns : goal.returns
returns g c =
    c.of.ensures
    ∙ ap segments_in (c.read_at.ensures ∙ take_all _ _ (omega (arith, c.requires.payload)))
