-- Sets of named bits, each as the number whose binary digits they are.
use Rattle.std.specs.Prelude.{◌≡◌, ◌==◌, ℕ, Bool}
use Rattle.std.specs.Int.RustNames.{bit_and}

-- whether a set has every one of these bits
abbrev pub has : ℕ → ℕ → Bool
has set bits = bit_and set bits == bits

-- whether a set has none of these bits
abbrev pub lacks : ℕ → ℕ → Bool
lacks set bits = bit_and set bits == 0

-- a set has every one of these bits
abbrev pub Has : ℕ → ℕ → Type 0
Has set bits = bit_and set bits ≡ bits
