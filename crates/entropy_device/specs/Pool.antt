-- The pool: random bytes that the host supplied and no chain has (5.4.6), in the order in which they came.
use Rattle.std.specs.Prelude.{ℕ, ◌-◌, Option, Some, None, List, [], ◌∷◌, ◌++◌, length, take, min}
use Rattle.chain.specs.Service.{Served}

-- How many of these bytes fit: at most 4096 are in the pool. The bound is this project's choice.
abbrev pub fitting : List ℕ → List ℕ → ℕ
fitting pool bytes = min (length bytes) (4096 - length pool)

-- The pool once these bytes were supplied: the first of them that fit stand behind those that were there.
abbrev pub supplied : List ℕ → List ℕ → List ℕ
supplied pool bytes = pool ++ take (fitting pool bytes) bytes

-- the bytes that were written, in the order of their places
abbrev pub bytes_of : List (Option ℕ) → List ℕ
bytes_of [] = []
bytes_of (None ∷ written) = bytes_of written
bytes_of (Some x ∷ written) = x ∷ bytes_of written

-- all that these chains got, one after another
abbrev pub handed_out : List (Served (List ℕ)) → List ℕ
handed_out [] = []
handed_out (s ∷ chains) = bytes_of s.given.written ++ handed_out chains
