use Rattle.std.proofs.Common.{rules, arith}
use Rattle.std.proofs.lemmas.Grind.{common_steps}
use Rattle.trace.proofs.Values.{plugged}
use Rattle.trace.proofs.read.device_fields.plug_of.Goals as goal

pub unreachable-requires : goal.unreachable-requires
unreachable-requires g c =
    let row = plugged c.args.values.now c.requires in
    first_of (search rules, grind (arith, common_steps))
