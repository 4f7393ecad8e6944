use Rattle.std.proofs.Common.{◌≡◌, ◌∷◌, ◌++◌, map, take}
use Rattle.trace.specs.Spelling.{field_text}
use Rattle.trace.specs.Text.{line}
use Rattle.trace.specs.Words.{spelled}
use Rattle.trace.proofs.print.line.push_line.Given as goal

-- the fields so far
abbrev pub invariant-loop-field : goal.invariant-loop-field
invariant-loop-field g l = l.out.items ≡ l.fn.out.items
    ++ line (spelled l.fn.word ∷ map (field_text l.fn.fields) (take l.field-index l.row))
