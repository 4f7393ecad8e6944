-- Fields of digits alone.
use Rattle.std.proofs.Common.{◌≡◌, ℕ, zero, suc, ◌+◌, ◌*◌, ◌<◌, ◌≤◌, List, All, length, get_or, take, refl, sym, ap, subst, ◌∙◌, arith, add-one}
use Rattle.std.proofs.lemmas.List.{take_all}
use Rattle.std.proofs.lemmas.List.Elements.{All-get_or}
use Rattle.hexadecimal.specs.Fields.{IsDigit, IsFixed, SpellsFixed}
use Rattle.hexadecimal.specs.Spelling.{fixed}
use Rattle.hexadecimal.proofs.Numbers.{ReadsFixed, reads_fixed_more}

-- what the first k bytes say
front_reads : (field : List ℕ) (k : ℕ) → k ≤ length field → All IsDigit field → (n : ℕ) × ReadsFixed field k n
unfolding fixed
front_reads field zero le digits = (0, record { spelled = refl; below = omega arith })
front_reads field (suc k) le digits =
    let front = front_reads field k (omega arith) digits in
    let last : IsDigit (get_or field k 0) = All-get_or IsDigit field k 0 (omega arith) digits in
    let more = reads_fixed_more field k front.0 last.value (get_or field k 0) front.1 (omega arith) refl last.small
    (sym last.is) in
    (front.0 * 16 + last.value, rw add-one at more)

-- a field of at most eight digits spells a number by as many
pub spelled_by : (field : List ℕ) → All IsDigit field → (n : ℕ) × IsFixed (length field) field n
spelled_by field digits =
    let whole = front_reads field (length field) (omega arith) digits in (
      whole.0,
      record {
        fits = whole.1.below;
        spelled = sym (take_all (length field) field (omega arith)) ∙ whole.1.spelled;
      },
    )

-- the same of the whole of a field of eight
pub eight_spelled : (field : List ℕ) (k value : ℕ) → k ≡ 8 → length field ≡ 8 → All IsDigit (take 8 field)
    → ((digits n : ℕ) → IsFixed digits (take 8 field) n → value ≡ n) → IsFixed k field value
eight_spelled field k value eight long digits told =
    let same : take 8 field ≡ field = take_all 8 field (omega arith) in
    let by = spelled_by (take 8 field) digits in
    let all : length (take 8 field) ≡ k = ap length same ∙ long ∙ sym eight in
    subst (λ (j : ℕ). IsFixed j field value) all
    (subst (λ (f : List ℕ). IsFixed (length (take 8 field)) f value) same
    (subst (λ (n : ℕ). IsFixed (length (take 8 field)) (take 8 field) n) (sym (told (length (take 8 field)) by.0 by.1)) by.1))
