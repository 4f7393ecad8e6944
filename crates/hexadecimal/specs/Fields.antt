-- Which fields spell a number or bytes.
use Rattle.std.specs.Prelude.{◌≡◌, ℕ, ◌^◌, ◌<◌, ◌≤◌, List, length, ◌%◌, All}
use Rattle.hexadecimal.specs.Spelling.{digit, num, fixed, bytes}

-- the field is a number of that many bits, without leading zeros
pub record IsNum (bits : ℕ) (field : List ℕ) (n : ℕ) : Type 0 where
  pub fits : n < 2 ^ bits
  pub spelled : field ≡ num n

-- the field spells a number of that many bits
abbrev pub SpellsNumber : ℕ → List ℕ → Type 0
SpellsNumber bits field = (n : ℕ) × IsNum bits field n

-- the field is a number by exactly that many digits
pub record IsFixed (digits : ℕ) (field : List ℕ) (n : ℕ) : Type 0 where
  pub fits : n < 16 ^ digits
  pub spelled : field ≡ fixed digits n

-- the field is a number by at most eight digits
pub record SpellsFixed (field : List ℕ) : Type 0 where
  pub digits : ℕ
  pub few : digits ≤ 8
  pub n : ℕ
  pub is : IsFixed digits field n

-- the field is bytes by two digits each, or `-` for none
pub record IsBytesField (field bs : List ℕ) : Type 0 where
  pub fits : All (λ b. b < 2 ^ 8) bs
  pub spelled : field ≡ bytes bs

-- the field spells bytes
abbrev pub SpellsBytes : List ℕ → Type 0
SpellsBytes field = (bs : List ℕ) × IsBytesField field bs

-- a byte that is a lower case hexadecimal digit
pub record IsDigit (c : ℕ) : Type 0 where
  pub value : ℕ
  pub small : value < 16
  pub is : c ≡ digit value

-- the value of a digit
pub record IsValue (c value : ℕ) : Type 0 where
  pub small : value < 16
  pub is : digit value ≡ c

-- some digits, two and two
pub record ArePairs (field : List ℕ) : Type 0 where
  pub some : 0 < length field
  pub even : length field % 2 ≡ 0
  pub digits : All IsDigit field
