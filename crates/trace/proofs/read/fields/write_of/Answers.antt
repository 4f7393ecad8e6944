use Rattle.std.proofs.Common.{rules, arith}
use Rattle.std.proofs.lemmas.Grind.{common_steps}
use Rattle.trace.specs.Words.{Window}
use Rattle.trace.proofs.Widths.{num_width}
use Rattle.trace.proofs.Values.{written}
use Rattle.trace.proofs.read.fields.write_of.Goals as goal

pub unreachable-requires : goal.unreachable-requires
unreachable-requires g c =
    let row = written Window c.args.values.now c.requires in
    let are = rw row.is_second.1 at row.are in
    first_of (search rules, grind (arith, common_steps))

pub returns-clause-fields : goal.returns-clause-fields
returns-clause-fields g c =
    let row = written Window c.args.values.now c.requires in
    let are = rw row.is_second.1 at row.are in
    let width = num_width row.width row.fine.access.wide in
    first_of (search rules, grind (arith, common_steps))

pub returns-clause-fine : goal.returns-clause-fine
returns-clause-fine g c =
    let row = written Window c.args.values.now c.requires in
    let are = rw row.is_second.1 at row.are in
    first_of (search rules, grind (arith, common_steps))
