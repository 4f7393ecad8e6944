-- A text cut at its line feeds, a line cut at its spaces, and a field cut at a sign.
use Rattle.std.specs.Prelude.{ℕ, Bool, ◌==◌, List, [], Option, Some, None}
use Rattle.std.specs.List.{slice_split}

-- the byte that ends a line
abbrev pub is_line_feed : ℕ → Bool
is_line_feed c = c == 10

-- the byte between two fields
abbrev pub is_space : ℕ → Bool
is_space c = c == 32

-- the parts of a text between its line feeds; the last one is what stands after the last line feed
unfoldable pub lines_of : List ℕ → List (List ℕ)
lines_of text = slice_split is_line_feed text

-- the fields of a line, which are the parts between its spaces
unfoldable pub fields_of : List ℕ → List (List ℕ)
fields_of line = slice_split is_space line

-- the fields after a first one: none, or those of what follows its space
abbrev pub fields_left : Option (List ℕ) → List (List ℕ)
fields_left None = []
fields_left (Some rest) = fields_of rest

-- the parts of a field between its bytes of this value
unfoldable pub parts : ℕ → List ℕ → List (List ℕ)
parts sign field = slice_split (λ c. c == sign) field

-- the parts after a first one: none, or those of what follows its sign
abbrev pub parts_left : ℕ → Option (List ℕ) → List (List ℕ)
parts_left sign None = []
parts_left sign (Some rest) = parts sign rest
