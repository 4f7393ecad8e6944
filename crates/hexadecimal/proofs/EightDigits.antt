-- A number of 32 bits by its eight digits, from the pairs of them that its bytes have.
use Rattle.std.proofs.Common.{◌≡◌, ℕ, ◌+◌, ◌*◌, ◌/◌, ◌%◌, ◌^◌, ◌<◌, List, [], ◌∷◌, refl, sym, ◌∙◌, arith}
use Rattle.std.specs.Int.{to_le_bytes, w64}
use Rattle.std.proofs.lemmas.List.Elements.{All-from_recursion}
use Rattle.std.proofs.lemmas.Nat.{le_bytes_8}
use Rattle.hexadecimal.specs.Spelling.{digit, fixed}
use Rattle.hexadecimal.proofs.ByteFields.{is_bytes}
use Rattle.hexadecimal.proofs.Digits.{digit_small}

-- eight bytes of a number of 64 bits
eight_bytes : (a b c d e f g h word : ℕ) → a < 256 → b < 256 → c < 256 → d < 256 → e < 256 → f < 256
    → g < 256 → h < 256
    → word ≡ a + 256 * b + 65536 * (c + 256 * d) + 4294967296 * (e + 256 * f + 65536 * (g + 256 * h))
    → to_le_bytes w64 word ≡ a ∷ b ∷ c ∷ d ∷ e ∷ f ∷ g ∷ h ∷ []
eight_bytes a b c d e f g h word p q r s t u v w is =
    let bs : List ℕ = a ∷ b ∷ c ∷ d ∷ e ∷ f ∷ g ∷ h ∷ [] in
    le_bytes_8 bs word refl (is_bytes bs (All-from_recursion (λ x. x < 2 ^ 8) bs
    (p, (q, (r, (s, (t, (u, (v, (w, tt)))))))))) (omega (arith, is))

-- the eight digits of a number, one after another
spelled_by : (n : ℕ) → fixed 8 n ≡ digit (n / 16 / 16 / 16 / 16 / 16 / 16 / 16 % 16)
    ∷ digit (n / 16 / 16 / 16 / 16 / 16 / 16 % 16) ∷ digit (n / 16 / 16 / 16 / 16 / 16 % 16)
    ∷ digit (n / 16 / 16 / 16 / 16 % 16)
    ∷ digit (n / 16 / 16 / 16 % 16) ∷ digit (n / 16 / 16 % 16) ∷ digit (n / 16 % 16) ∷ digit (n % 16) ∷ []
unfolding fixed
spelled_by n = refl

pub eight_spelled : (n p q r s word : ℕ) (text : List ℕ) → n < 2 ^ 32
    → p ≡ digit (n / 16777216 / 16) + 256 * digit (n / 16777216 % 16)
    → q ≡ digit (n / 65536 % 256 / 16) + 256 * digit (n / 65536 % 256 % 16)
    → r ≡ digit (n / 256 % 256 / 16) + 256 * digit (n / 256 % 256 % 16)
    → s ≡ digit (n % 256 / 16) + 256 * digit (n % 256 % 16)
    → word ≡ p + 65536 * q + 4294967296 * (r + 65536 * s)
    → text ≡ to_le_bytes w64 word
    → text ≡ fixed 8 n
eight_spelled n p q r s word text fits pe qe re se we te =
    let e7 : n / 16777216 / 16 ≡ n / 16 / 16 / 16 / 16 / 16 / 16 / 16 % 16 = omega arith in
    let e6 : n / 16777216 % 16 ≡ n / 16 / 16 / 16 / 16 / 16 / 16 % 16 = omega arith in
    let e5 : n / 65536 % 256 / 16 ≡ n / 16 / 16 / 16 / 16 / 16 % 16 = omega arith in
    let e4 : n / 65536 % 256 % 16 ≡ n / 16 / 16 / 16 / 16 % 16 = omega arith in
    let e3 : n / 256 % 256 / 16 ≡ n / 16 / 16 / 16 % 16 = omega arith in
    let e2 : n / 256 % 256 % 16 ≡ n / 16 / 16 % 16 = omega arith in
    let e1 : n % 256 / 16 ≡ n / 16 % 16 = omega arith in
    let e0 : n % 256 % 16 ≡ n % 16 = omega arith in
    let pf = rw (e7, e6) at pe in
    let qf = rw (e5, e4) at qe in
    let rf = rw (e3, e2) at re in
    let sf = rw (e1, e0) at se in
    te
    ∙ eight_bytes _ _ _ _ _ _ _ _ word
    (digit_small (n / 16 / 16 / 16 / 16 / 16 / 16 / 16 % 16) (omega arith))
    (digit_small (n / 16 / 16 / 16 / 16 / 16 / 16 % 16) (omega arith))
    (digit_small (n / 16 / 16 / 16 / 16 / 16 % 16) (omega arith))
    (digit_small (n / 16 / 16 / 16 / 16 % 16) (omega arith))
    (digit_small (n / 16 / 16 / 16 % 16) (omega arith)) (digit_small (n / 16 / 16 % 16) (omega arith))
    (digit_small (n / 16 % 16) (omega arith)) (digit_small (n % 16) (omega arith))
    (omega (arith, pf, qf, rf, sf, we))
    ∙ sym (spelled_by n)
