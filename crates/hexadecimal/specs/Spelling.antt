-- How numbers and bytes are spelled in hexadecimal, as a list of ASCII bytes.
use Rattle.std.specs.Prelude.{ℕ, zero, suc, ◌/◌, ◌%◌, List, [], ◌∷◌, ◌++◌, map, slice_index, codes}
use Rattle.std.specs.Int.Digits.{digits_of}
use Rattle.hex.specs.Hex.{lower_digits, encode_lower}

-- the lower case hexadecimal digit of a number below 16
unfoldable pub digit : ℕ → ℕ
digit d = slice_index lower_digits d

-- a whole number in hexadecimal, the highest digit first and without leading zeros; zero is `0`
unfoldable pub num : ℕ → List ℕ
num zero = codes "0"
num (suc n) = map digit (digits_of 16 (suc n))

-- exactly k digits of a number below 16 ^ k, leading zeros included
unfoldable pub fixed : ℕ → ℕ → List ℕ
fixed zero n = []
fixed (suc k) n = fixed k (n / 16) ++ digit (n % 16) ∷ []

-- bytes as two digits each, and none as `-`
unfoldable pub bytes : List ℕ → List ℕ
bytes [] = codes "-"
bytes (b ∷ bs) = encode_lower (b ∷ bs)
