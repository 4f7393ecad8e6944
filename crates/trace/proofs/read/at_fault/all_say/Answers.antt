use Rattle.std.proofs.Common.{map}
use Rattle.trace.specs.Words.{shape_of}
use Rattle.trace.proofs.FirstFault.{none_found}
use Rattle.trace.proofs.read.at_fault.all_say.Goals as goal

pub returns : goal.returns
returns c =
    none_found c.args.kind (map (shape_of c.args.width.now) c.args.fields.now) _ c.args.width.now
    c.first_at_fault.result c.is_none.result c.is_none.ensures c.first_at_fault.ensures.some
    c.first_at_fault.ensures.none
