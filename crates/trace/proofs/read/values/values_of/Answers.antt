use Rattle.std.proofs.Common.{List, ap, map, subst, ◌∙◌}
use Rattle.std.specs.Prelude.{IfNone, IfSome}
use Rattle.std.specs.Option.{option_copied}
use Rattle.trace.specs.declared.table.Field.{Field}
use Rattle.trace.specs.Cuts.{fields_left}
use Rattle.trace.specs.Values.{SayValues}
use Rattle.trace.specs.Words.{AllRight, Shape, fields_in, shape_of}
use Rattle.trace.proofs.Values.{at_most_eight, shapes_by}
use Rattle.trace.proofs.read.values.values_of.Goals as goal

pub values_in-requires : goal.values_in-requires
values_in-requires c = rw c.fields_after-fields.ensures (at_most_eight c.args.format c.args.word _)

pub returns-clause-some : goal.returns-clause-some
returns-clause-some c =
    let fields = fields_left (option_copied c.args.rest) in
    let by = ap (λ (row : List Field). map (shape_of c.width_for.result.now) row) (c.fields_after-fields.ensures
    ∙ ap (fields_in c.args.format c.args.word) c.behind_in.ensures)
    ∙ shapes_by c.args.format c.args.word _ fields c.width_for.ensures in
    subst (λ (ss : List Shape). IfSome c.values_in.result (λ values. SayValues ss fields values.items)) by
    c.values_in.ensures.some

pub returns-clause-none : goal.returns-clause-none
returns-clause-none c =
    let fields = fields_left (option_copied c.args.rest) in
    let by = ap (λ (row : List Field). map (shape_of c.width_for.result.now) row) (c.fields_after-fields.ensures
    ∙ ap (fields_in c.args.format c.args.word) c.behind_in.ensures)
    ∙ shapes_by c.args.format c.args.word _ fields c.width_for.ensures in
    subst (λ (ss : List Shape). IfNone c.values_in.result (¬ AllRight ss fields)) by c.values_in.ensures.none
