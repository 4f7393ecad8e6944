-- Fields taken off the front of a line, one after another.
use Rattle.std.proofs.Common.{ℕ, ◌*◌, ◌<◌, List, [], ◌∷◌, length, arith}
use Rattle.trace.specs.Cuts.{fields_of}
use Rattle.hexadecimal.specs.Fields.{IsFixed}
use Rattle.trace.specs.Words.{AllRight, IsWidthField, Says, Value}
use Rattle.trace.proofs.Cutting.{some_fields}

-- a field after those that a line has
some_more : (fs : List (List ℕ)) → 0 < length fs → ¬ AllRight [] fs
some_more [] some h = absurd (omega arith)
some_more (f ∷ fs) some h = h

pub not_ended : (l : List ℕ) → ¬ AllRight [] (fields_of l)
not_ended l h = some_more (fields_of l) (some_fields l) h

-- a value beside its width
pub no_value : (width bytes : List ℕ) (w : ℕ) → IsWidthField width w → ((n : ℕ) → ¬ IsFixed (2 * w) bytes n)
    → ¬ Says (Value width) bytes
no_value width bytes w wide none parsed = let n = parsed w wide in none n.0 n.1
