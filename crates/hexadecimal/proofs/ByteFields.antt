-- Bytes spelled by digits: which fields spell some.
use Rattle.std.proofs.Common.{◌≡◌, ◌≢◌, ℕ, suc, ◌+◌, ◌*◌, ◌/◌, ◌%◌, ◌^◌, ◌<◌, Bool, true, false, IsTrue, ◌↔◌, List, [], ◌∷◌, ◌++◌, All, length, get_or, take, drop, MatchResult, Result, Ok, Err, take-append-drop, append_assoc, append-nil, refl, sym, ap, subst, ◌∙◌, arith, inl, inr}
use Rattle.std.proofs.lemmas.List.{get_or_past}
use Rattle.std.proofs.lemmas.Bool.{cases_lt, false≢true}
use Rattle.std.proofs.lemmas.List.Elements.{All-cons, All-nil}
use Rattle.hex.specs.Hex.{encode_lower, encode_with, lower_digits, IsBytes}
use Rattle.hex.specs.Hex.{decode_sized}
use Rattle.hex.specs.declared.error.FromHexError.{FromHexError}
use Rattle.hex.proofs.HexLemmas.{decode_sized-encode_lower, length-encode_with}
use Rattle.hexadecimal.specs.Spelling.{digit, bytes}
use Rattle.hexadecimal.specs.Fields.{ArePairs, IsDigit, IsBytesField, SpellsBytes}

abbrev pub AreBytes : List ℕ → Type 0
AreBytes = All (λ b. b < 2 ^ 8)

pub is_bytes : (bs : List ℕ) → AreBytes bs → IsBytes bs
is_bytes bs h k = elim (cases_lt k (length bs))
    [ inl lt ↦ h k 0 lt | inr le ↦ rw (get_or_past bs k 0 le) (omega arith) ]

pub bytes_some : (bs : List ℕ) → 0 < length bs → bytes bs ≡ encode_lower bs
unfolding bytes
bytes_some [] h = absurd (omega arith)
bytes_some (b ∷ bs) h = refl

pub digits_encoded : (bs : List ℕ) → IsBytes bs → All IsDigit (encode_lower bs)
unfolding digit encode_with
digits_encoded [] h = All-nil IsDigit
digits_encoded (b ∷ bs) h =
    let byte : b < 256 = h 0 in
    All-cons IsDigit (digit (b / 16)) (digit (b % 16) ∷ encode_lower bs)
    (record { value = b / 16; small = omega arith; is = refl })
    (All-cons IsDigit (digit (b % 16)) (encode_lower bs)
    (record { value = b % 16; small = omega arith; is = refl }) (digits_encoded bs (λ k. h (suc k))))

-- what is read of such a field
pub bytes_read : (field bs : List ℕ) → 0 < length field → encode_lower bs ≡ field → AreBytes bs
    → IsBytesField field bs
bytes_read field bs some spelled fits =
    let enough : 0 < length bs = omega (arith, ap length spelled, length-encode_with lower_digits bs) in
    record { fits = fits; spelled = sym spelled ∙ sym (bytes_some bs enough) }

-- some digits, two and two, are those of bytes
record AreBytesOf (field : List ℕ) : Type 0 where
  bs : List ℕ
  spelled : encode_lower bs ≡ field
  fits : AreBytes bs

pair_decoded : (a b x y : ℕ) (bs field : List ℕ) → y < 16 → a ≡ digit x → b ≡ digit y
    → encode_lower bs ≡ field → encode_lower ((16 * x + y) ∷ bs) ≡ a ∷ b ∷ field
unfolding digit encode_with
pair_decoded a b x y bs field small high low rest =
    let over : (16 * x + y) / 16 ≡ x = omega arith in
    let under : (16 * x + y) % 16 ≡ y = omega arith in
    rw (over, under, rest, high, low) refl

pairs_decoded : (field : List ℕ) → length field % 2 ≡ 0 → All IsDigit field → AreBytesOf field
unfolding encode_with
pairs_decoded [] even h = record { bs = []; spelled = refl; fits = All-nil (λ b. b < 2 ^ 8) }
pairs_decoded (a ∷ []) even h = absurd (omega (arith, even))
pairs_decoded (a ∷ b ∷ field) even h =
    let high = h 0 a (omega arith) in
    let low = h 1 b (omega arith) in
    let more = pairs_decoded field (omega (arith, even)) (λ k d lt. h (suc (suc k)) d (omega arith)) in
    let first = high.small in
    let second = low.small in
    let v : ℕ = 16 * high.value + low.value in
    record {
      bs = v ∷ more.bs;
      spelled = pair_decoded a b high.value low.value more.bs field second high.is low.is more.spelled;
      fits = All-cons (λ x. x < 2 ^ 8) v more.bs (omega arith) more.fits;
    }

-- what `hex` reads of digits, two and two, are the bytes that they spell
pub by_hex : (digits out read : List ℕ) (result : Result Unit FromHexError) → All IsDigit digits
    → length digits ≡ 2 * length out
    → MatchResult (decode_sized digits (length out)) (λ bs. (result ≡ Ok tt)
    × (read ≡ bs)) (λ e. result ≡ Err e)
    → (encode_lower read ≡ digits) × AreBytes read
by_hex digits out read result are size gives =
    let spelled = pairs_decoded digits (omega (arith, size)) are in
    let len : length spelled.bs ≡ length out =
    omega (arith, size, ap length spelled.spelled, length-encode_with lower_digits spelled.bs) in
    let decoded : decode_sized digits (length out) ≡ Ok spelled.bs =
    subst (λ (t : List ℕ). decode_sized t (length out) ≡ Ok spelled.bs) spelled.spelled
    (decode_sized-encode_lower spelled.bs (length out) len (is_bytes spelled.bs spelled.fits)) in
    let same = (rw decoded at gives).1 in
    (ap encode_lower same ∙ spelled.spelled, subst AreBytes (sym same) spelled.fits)

pub pairs_say : (field : List ℕ) → ArePairs field → SpellsBytes field
pairs_say field pairs =
    let read = pairs_decoded field pairs.even pairs.digits in
    (read.bs, bytes_read field read.bs pairs.some read.spelled read.fits)

pairs_encoded : (b : ℕ) (bs : List ℕ) → AreBytes (b ∷ bs) → ArePairs (encode_lower (b ∷ bs))
pairs_encoded b bs h =
    let len = length-encode_with lower_digits (b ∷ bs) in
    record { some = omega arith; even = omega arith; digits = digits_encoded (b ∷ bs) (is_bytes (b ∷ bs) h) }

no_bytes_is : (bs field : List ℕ) → field ≢ 45 ∷ [] → ¬ ArePairs field → IsBytesField field bs → ⊥
unfolding bytes
no_bytes_is [] field minus bad h = minus h.spelled
no_bytes_is (b ∷ bs) field minus bad h = bad (subst ArePairs (sym h.spelled) (pairs_encoded b bs h.fits))

-- a field that is neither `-` nor digits in pairs spells no bytes
pub no_bytes : (field : List ℕ) → field ≢ 45 ∷ [] → ¬ ArePairs field → ¬ SpellsBytes field
no_bytes field minus bad h = no_bytes_is h.0 field minus bad h.1

-- `-` spells no bytes
pub minus_is : (field : List ℕ) → field ≡ 45 ∷ [] → IsBytesField field []
unfolding bytes
minus_is field e = record { fits = All-nil (λ b. b < 2 ^ 8); spelled = e }

-- a field that spells bytes is `-`, or digits in pairs
some_pairs : (bs field : List ℕ) → IsBytesField field bs → 0 < length field / 2 → ArePairs field
unfolding bytes
some_pairs [] field h some = absurd (omega (arith, ap length h.spelled))
some_pairs (b ∷ bs) field h some = subst ArePairs (sym h.spelled) (pairs_encoded b bs h.fits)

pub said_pairs : (field : List ℕ) → SpellsBytes field → 0 < length field / 2 → ArePairs field
said_pairs field h some = some_pairs h.0 field h.1 some

none_read : (bs field : List ℕ) → IsBytesField field bs → length field / 2 ≡ 0 → IsBytesField field []
unfolding bytes
none_read [] field h none = h
none_read (b ∷ bs) field h none =
    absurd (omega (arith, ap length h.spelled, length-encode_with lower_digits (b ∷ bs)))

pub said_none : (field bs : List ℕ) → SpellsBytes field → length bs ≡ length field / 2 → length bs ≡ 0
    → IsBytesField field bs
said_none field [] h size none = none_read h.0 field h.1 (omega (arith, size))
said_none field (b ∷ bs) h size none = absurd (omega (arith, none))

-- how many bytes a field spells
pub spelled_len : (field bs : List ℕ) → IsBytesField field bs → length bs ≡ length field / 2
unfolding bytes
spelled_len field [] h = omega (arith, ap length h.spelled)
spelled_len field (b ∷ bs) h = omega (arith, ap length h.spelled, length-encode_with lower_digits (b ∷ bs))

-- the test for a field of bytes
pub minus_test : (field : List ℕ) (minus : Bool) → minus ≡ true → IsTrue minus ↔ (field ≡ 45 ∷ [])
    → IsTrue minus ↔ SpellsBytes field
minus_test field minus is means = (λ h. ([], minus_is field (means.0 h)), λ _. is)

pub pairs_test : (field : List ℕ) (minus pairs : Bool) → minus ≡ false → IsTrue minus ↔ (field ≡ 45 ∷ [])
    → IsTrue pairs ↔ ArePairs field → IsTrue pairs ↔ SpellsBytes field
pairs_test field minus true other means two = (λ yes. pairs_say field (two.0 yes), λ h. refl)
pairs_test field minus false other means two = (
  λ yes. absurd cc,
  λ h. absurd
      (no_bytes field (λ e. false≢true (sym other ∙ means.1 e)) (λ pairs. false≢true (two.1 pairs)) h),
)

-- one run of bytes after another
pub encode_append : (xs ys : List ℕ) → encode_lower (xs ++ ys) ≡ encode_lower xs ++ encode_lower ys
unfolding encode_with
encode_append [] ys = refl
encode_append (x ∷ xs) ys =
    ap (λ (t : List ℕ). get_or lower_digits (x / 16) 0 ∷ get_or lower_digits (x % 16) 0 ∷ t)
    (encode_append xs ys)

-- where the first n bytes were written, the later ones are left
pub one_block : (front out text bytes : List ℕ) (n : ℕ) → out ++ encode_lower bytes ≡ text → front ≡ out
    ++ encode_lower (take n bytes) → front ++ encode_lower (drop n bytes) ≡ text
one_block front out text bytes n so more =
    ap (λ (t : List ℕ). t ++ encode_lower (drop n bytes)) more
    ∙ append_assoc out (encode_lower (take n bytes)) (encode_lower (drop n bytes))
    ∙ ap (λ (t : List ℕ). out ++ t) (sym (encode_append (take n bytes) (drop n bytes))
    ∙ ap encode_lower (take-append-drop n bytes))
    ∙ so

-- none is left
pub all_written : (out text bytes : List ℕ) → out ++ encode_lower bytes ≡ text → length bytes ≡ 0 → out ≡ text
unfolding encode_with
all_written out text [] so none = sym (append-nil out) ∙ so
all_written out text (b ∷ bytes) so none = absurd (omega arith)

pub bytes_none : (bs : List ℕ) → length bs ≡ 0 → bytes bs ≡ 45 ∷ []
unfolding bytes
bytes_none [] h = refl
bytes_none (b ∷ bs) h = absurd (omega arith)
