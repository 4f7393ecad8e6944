-- The field of a network card: its address, a colon, and its MTU.
use Rattle.std.proofs.Common.{◌≡◌, ℕ, ◌<◌, List, ◌∷◌, ◌++◌, length, get_or, take, drop, sym, ap, ◌∙◌, arith}
use Rattle.std.specs.Prelude.{codes}
use Rattle.std.proofs.lemmas.List.{drop_at, drop_more, get_or-drop, length-append, take-append-drop, take_at}
use Rattle.hex.specs.Hex.{lower_digits}
use Rattle.hex.proofs.HexLemmas.{length-encode_with}
use Rattle.device_list.specs.declared.spec.DeviceSpec.TheVariants.{Network}
use Rattle.hexadecimal.specs.Fields.{IsNum}
use Rattle.hexadecimal.specs.Spelling.{bytes, num}
use Rattle.hexadecimal.proofs.ByteFields.{bytes_some}
use Rattle.trace.specs.Words.{IsAddressField, IsCardField, IsKindField}

-- six bytes are spelled by twelve digits
pub address_long : (mac : List ℕ) → length mac ≡ 6 → length (bytes mac) ≡ 12
address_long mac six =
    omega (arith, six, ap length (bytes_some mac (omega (arith, six))), length-encode_with lower_digits mac)

-- ---- its parts

module _ (field mac : List ℕ) (mtu : ℕ) (h : IsCardField field mac mtu) where
  long : length (bytes mac) ≡ 12
  long = address_long mac h.fits.six

  behind : drop 12 field ≡ 58 ∷ num mtu
  behind = ap (drop 12) h.spelled ∙ drop_at (bytes mac) (58 ∷ num mtu) 12 long

  pub card_long : 12 < length field
  card_long = omega (arith, ap length h.spelled, length-append (bytes mac) (58 ∷ num mtu), long)

  pub card_colon : get_or field 12 0 ≡ 58
  card_colon = sym (get_or-drop 12 field 0 0) ∙ ap (λ (xs : List ℕ). get_or xs 0 0) behind

  pub card_address : IsAddressField (take 12 field) mac
  card_address = record {
    bytes_are = record {
      fits = h.fits.each;
      spelled = ap (take 12) h.spelled ∙ take_at (bytes mac) (58 ∷ num mtu) 12 long;
    };
    as_many = h.fits.six;
  }

  pub card_mtu : IsNum 16 (drop 13 field) mtu
  card_mtu = record {
    fits = h.fits.wide;
    spelled = ap (drop 1) (sym (drop_more field 12 0 card_long) ∙ behind);
  }

-- they make it up
pub card_made : (field mac : List ℕ) (mtu : ℕ) → 12 < length field → get_or field 12 0 ≡ 58
    → IsAddressField (take 12 field) mac → IsNum 16 (drop 13 field) mtu → IsCardField field mac mtu
card_made field mac mtu long colon address number = record {
  fits = record { each = address.bytes_are.fits; six = address.as_many; wide = number.fits };
  spelled = sym (take-append-drop 12 field)
      ∙ ap (λ (xs : List ℕ). xs ++ drop 12 field) address.bytes_are.spelled
      ∙ ap (λ (xs : List ℕ). bytes mac ++ xs) (drop_more field 12 0 long
      ∙ ap (λ (c : ℕ). c ∷ drop 13 field) colon ∙ ap (λ (xs : List ℕ). 58 ∷ xs) number.spelled);
}

-- behind its word it is a kind of device
module _ (field rest mac : List ℕ) (mtu : ℕ) (is : field ≡ codes "network:" ++ rest) where
  pub is_card : IsCardField rest mac mtu → IsKindField field (Network mac mtu)
  is_card card =
      record { fits = card.fits; spelled = is ∙ ap (λ (xs : List ℕ). codes "network:" ++ xs) card.spelled }

  pub card_behind : IsKindField field (Network mac mtu) → IsCardField rest mac mtu
  card_behind kind = record { fits = kind.fits; spelled = ap (drop 8) (sym is ∙ kind.spelled) }
