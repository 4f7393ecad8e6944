use Rattle.std.proofs.Common.{arith, rules, slice_index_or}
use Rattle.trace.specs.declared.table.Field.TheVariants.{Sectors}
use Rattle.trace.specs.Words.{shape_of}
use Rattle.std.proofs.lemmas.List.{take_rest}
use Rattle.trace.proofs.FirstFault.{other_passes, row_here, row_later, row_none, parsed_passes}
use Rattle.trace.proofs.read.at_fault.+first_at_fault.Goals as goal
use Rattle.trace.proofs.read.at_fault.+first_at_fault.Goals.{else-eq-via-then-eq+else-not-says, else-eq-via-else-eq}

pub returns-then-not-says-clause-some : goal.returns-then-not-says-clause-some
returns-then-not-says-clause-some t c =
    rw c.in_ok-rest.was (row_here c.args.kind c.args.width.now c.args.fields.now _ _ _ _ (omega arith)
    c.take_field.ensures (search rules) (search rules))

pub returns-clause-some : goal.returns-clause-some
returns-clause-some t c =
    let first = shape_of c.args.width.now (slice_index_or c.args.fields.now 0 Sectors) in
    let bytes = c.take_field.result.0.now in
    rw c.in_ok-rest.was (row_later c.args.kind c.args.width.now c.args.fields.now _ _ _ Sectors bytes
    c.first_at_fault.result (omega arith) (take_rest c.args.fields.now 1) c.take_field.ensures
    (elim c.else-eq.branch [
      | else-eq-via-then-eq+else-not-says w ↦ parsed_passes c.args.kind first bytes (search rules)
      | else-eq-via-else-eq w ↦ other_passes c.args.kind first bytes (search rules)
    ])
    c.first_at_fault.ensures.some)

pub returns-clause-none : goal.returns-clause-none
returns-clause-none t c = λ nothing.
    let first = shape_of c.args.width.now (slice_index_or c.args.fields.now 0 Sectors) in
    let bytes = c.take_field.result.0.now in
    rw c.in_ok-rest.was (row_none c.args.kind c.args.width.now c.args.fields.now _ _ _ Sectors bytes
    (omega arith) (take_rest c.args.fields.now 1) c.take_field.ensures
    (elim c.else-eq.branch [
      | else-eq-via-then-eq+else-not-says w ↦ parsed_passes c.args.kind first bytes (search rules)
      | else-eq-via-else-eq w ↦ other_passes c.args.kind first bytes (search rules)
    ])
    (c.first_at_fault.ensures.none nothing))
