-- A field that is exactly so many bytes, each spelled by two digits.
use Rattle.std.proofs.Common.{◌≡◌, ℕ, ◌*◌, ◌<◌, List, All, length, sym, ap, subst, ◌∙◌, arith}
use Rattle.hex.specs.Hex.{encode_lower, lower_digits}
use Rattle.hex.proofs.HexLemmas.{length-encode_with}
use Rattle.hexadecimal.specs.Fields.{IsDigit}
use Rattle.hexadecimal.proofs.ByteFields.{AreBytes, bytes_read, bytes_some, digits_encoded, is_bytes}
use Rattle.trace.specs.Words.{IsBytesOf}

module _ (count : ℕ) (field bs : List ℕ) (some : 0 < count) (h : IsBytesOf count field bs) where
  encoded : field ≡ encode_lower bs
  encoded = let as_many = h.as_many in h.bytes_are.spelled ∙ bytes_some bs (omega (arith, some, as_many))

  pub all_digits : All IsDigit field
  all_digits = subst (All IsDigit) (sym encoded) (digits_encoded bs (is_bytes bs h.bytes_are.fits))

  pub two_each : length field ≡ 2 * count
  two_each = let as_many = h.as_many in
      omega (arith, as_many, ap length encoded, length-encode_with lower_digits bs)

-- what was read of twice as many digits
pub pairs_read : (count : ℕ) (field bs : List ℕ) → 0 < count → length field ≡ 2 * count
    → encode_lower bs ≡ field → AreBytes bs → IsBytesOf count field bs
pairs_read count field bs some len spelled fits = record {
  bytes_are = bytes_read field bs (omega (arith, some, len)) spelled fits;
  as_many = omega (arith, len, ap length spelled, length-encode_with lower_digits bs);
}
