-- What setting bits keeps.
use Rattle.std.proofs.Common.{◌≡◌, ◌∙◌, sym, ap, ℕ, arith}
use Rattle.std.proofs.lemmas.Nat.{and_or_self, and_or_apart, and_assoc, or_comm, and_le_r}
use Rattle.std.proofs.lemmas.Grind.{common_steps}
use Rattle.std.specs.Int.RustNames.{bit_and, bit_or}
use Rattle.negotiation.specs.Sets.{Has}

-- a set has its own bits after others were set
pub Has-bit_or : (set bits : ℕ) → Has (bit_or set bits) set
Has-bit_or set bits = ap (λ n. bit_and n set) (or_comm set bits) ∙ and_or_self set bits

-- a set has its own bits
pub Has-self : (set : ℕ) → Has set set
Has-self set = grind (arith, common_steps)

-- a set that has another has what the other has
pub Has-trans : (a b c : ℕ) → Has a b → Has b c → Has a c
Has-trans a b c ab bc =
    ap (bit_and a) (sym bc) ∙ sym (and_assoc c a b) ∙ ap (λ n. bit_and n c) ab ∙ bc

-- bits that were chosen by a mask without these set none of these
pub bit_and-bit_or-masked : (n mask set value : ℕ) → bit_and mask n ≡ 0
    → bit_and (bit_or set (bit_and value mask)) n ≡ bit_and set n
bit_and-bit_or-masked n mask set value apart =
    and_or_apart n set (bit_and value mask) (and_assoc n value mask ∙ ap (bit_and value) apart
    ∙ omega (arith, and_le_r value 0))
