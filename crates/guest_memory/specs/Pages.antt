-- Which pages of a guest's memory were written: a bit for each page of 4096 bytes.
use Rattle.std.specs.Prelude.{ℕ, ◌+◌, ◌==◌, nat_lt, Bool, ◌&&◌, ◌||◌, List, [], ◌∷◌}
use Rattle.std.specs.Int.{bit_at}

-- how many bytes a page has
abbrev pub page_size : ℕ
page_size = 4096

-- whether any of the n bytes from place i on lies in the page that begins at this place
abbrev pub is_reached : ℕ → ℕ → ℕ → Bool
is_reached page i n = nat_lt 0 n && (nat_lt i (page + page_size) && nat_lt page (i + n))

-- the bits of the pages from this place on, once the n bytes from place i on were written
unfoldable pub marked : ℕ → ℕ → ℕ → List Bool → List Bool
marked page i n [] = []
marked page i n (bit ∷ bits) = (bit || is_reached page i n) ∷ marked (page + page_size) i n bits

-- whether bit k of a byte is set, and the bits of bytes, of each the lowest first
abbrev pub is_set : ℕ → ℕ → Bool
is_set byte k = bit_at byte k == 1

unfoldable pub bits_of : List ℕ → List Bool
bits_of [] = []
bits_of (byte ∷ bytes) =
    is_set byte 0
    ∷ is_set byte 1
    ∷ is_set byte 2
    ∷ is_set byte 3
    ∷ is_set byte 4
    ∷ is_set byte 5
    ∷ is_set byte 6
    ∷ is_set byte 7
    ∷ bits_of bytes
