use Rattle.std.proofs.Common.{◌≡◌, ◌++◌, length, map, take}
use Rattle.std.specs.Option.{option_copied}
use Rattle.trace.specs.Cuts.{fields_left}
use Rattle.trace.specs.Spelling.{value_text}
use Rattle.trace.specs.Values.{AreOf}
use Rattle.trace.specs.Words.{shape_of}
use Rattle.trace.proofs.read.values.values_in.Given as goal

-- the values so far are those of the fields before this one
abbrev pub invariant-loop-field : goal.invariant-loop-field
invariant-loop-field l =
    (length l.values.items ≡ l.field-index)
    × (fields_left (option_copied l.fn.rest) ≡ map value_text l.values.items
    ++ fields_left (option_copied l.rest))
    × AreOf (map (shape_of l.width) (take l.field-index l.fields)) l.values.items
