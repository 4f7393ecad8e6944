-- Single fields, and what stops a reader at them.
use Rattle.std.proofs.Common.{◌≡◌, ◌==◌, eq-eqb, inl, inr, ℕ, zero, suc, ◌^◌, ◌<◌, ◌≤◌, Bool, true, false, cond, ltb, List, [], ◌∷◌, ◌++◌, length, take, drop, Ok, Err, refl, sym, ap, ◌∙◌, arith}
use Rattle.std.specs.Int.{Width, w16, w32, w64, byte_len, from_le_bytes, to_le_bytes}
use Rattle.std.proofs.lemmas.Bool.{and_parts, eqb-true, le-leb, le-ltb, leb-true, lt-ltb, ltb-false, ltb-true}
use Rattle.std.specs.Prelude.{◌&&◌, nat_le, replicate}
use Rattle.std.proofs.lemmas.List.{length-replicate}
use Rattle.mmio_window.specs.declared.interrupts.Interrupts.{Interrupts}
use Rattle.mmio_window.specs.Interrupts.{interrupt_bits}
use Rattle.snapshot.specs.declared.fault.Stop.{Stop}
use Rattle.snapshot.specs.declared.fault.Why.{Why}
use Rattle.snapshot.specs.declared.fault.Why.TheVariants.{Short, Choice, TooMuchInput, Version}
use Rattle.snapshot.specs.Fields.{Field, field}
use Rattle.snapshot.specs.Reading.{byte_at, constant_at, count_at, flag_at, bytes_at, device_count_at, interrupts_at, number_at, tested_at, version_at}
use Rattle.snapshot.specs.Spelling.{flag}
use Rattle.snapshot.proofs.Exact.{Always, IsBytes, IsField, IsWide, Takes, byte_field, chosen, guard_ok, bytes_field, number_field, tested_field, wide16, wide32, wide64}
use Rattle.snapshot.proofs.Explained.{IsRead, StopsAt, alone_read, failed, failing_is}

-- ---- how a field stops a reader

pub stops_short : (bytes : List ℕ) (next : Field) (behind : List Field) (stop : Stop)
    → length bytes < length next.bytes → stop ≡ record { why = Short; left = length bytes }
    → StopsAt (next ∷ behind) bytes stop
stops_short bytes next behind stop lt is =
    let test : ltb (length bytes) (length next.bytes) ≡ true = lt-ltb _ _ lt in
    is ∙ ap (λ (b : Bool). record { why = cond b Short next.wrong; left = length bytes }) (sym test)

pub stops_wrong : (bytes : List ℕ) (next : Field) (behind : List Field) (stop : Stop)
    → length next.bytes ≤ length bytes → stop ≡ record { why = next.wrong; left = length bytes }
    → StopsAt (next ∷ behind) bytes stop
stops_wrong bytes next behind stop le is =
    let test : ltb (length bytes) (length next.bytes) ≡ false = le-ltb _ _ le in
    is ∙ ap (λ (b : Bool). record { why = cond b Short next.wrong; left = length bytes }) (sym test)

guard_err : {A : Type 0} (b : Bool) (d stop : Stop) (x : A) → cond b (Err d) (Ok x) ≡ Err stop
    → (b ≡ true) × (d ≡ stop)
guard_err {A} true d stop x e = (refl, failing_is A d stop e)
guard_err false d stop x e = absurd cc

-- ---- a number

abbrev numbered : Width → Why → ℕ → Field
numbered w wrong n = record { bytes = to_le_bytes w n; wrong = wrong }

number_short : (w : Width) (limit : ℕ) (wide : IsWide w limit) (wrong : Why) (bytes : List ℕ) (stop : Stop)
    (y : ℕ) → number_at w bytes ≡ Err stop → StopsAt (numbered w wrong y ∷ []) bytes stop
number_short w limit wide wrong bytes stop y e =
    let g = guard_err (ltb (length bytes) (byte_len w)) (record { why = Short; left = length bytes }) stop
    (from_le_bytes w (take (byte_len w) bytes), drop (byte_len w) bytes) e in
    let short : length bytes < byte_len w = ltb-true _ _ g.0 in
    stops_short bytes (numbered w wrong y) [] stop (omega (arith, short, wide.len y)) (sym g.1)

number_long : (w : Width) (bytes : List ℕ) (x : ℕ) (rest : List ℕ) → number_at w bytes ≡ Ok (x, rest)
    → byte_len w ≤ length bytes
number_long w bytes x rest e =
    let g = guard_ok (ltb (length bytes) (byte_len w)) (record { why = Short; left = length bytes })
    (from_le_bytes w (take (byte_len w) bytes), drop (byte_len w) bytes) (x, rest) e in
    ltb-false _ _ g.0

pub number_read : (w : Width) (limit : ℕ) (wide : IsWide w limit) → 0 < limit
    → IsRead (number_at w) (to_le_bytes w) (λ n. numbered w Choice n ∷ []) (λ n. n < limit)
number_read w limit wide some =
    alone_read Choice (number_field w limit wide) 0 some
    (λ bytes stop y e fits. number_short w limit wide Choice bytes stop y e)

pub read16 : IsRead (number_at w16) (to_le_bytes w16) (λ n. numbered w16 Choice n ∷ []) (λ n. n < 2 ^ 16)
read16 = number_read w16 (2 ^ 16) wide16 (omega arith)

pub read32 : IsRead (number_at w32) (to_le_bytes w32) (λ n. numbered w32 Choice n ∷ []) (λ n. n < 2 ^ 32)
read32 = number_read w32 (2 ^ 32) wide32 (omega arith)

pub read64 : IsRead (number_at w64) (to_le_bytes w64) (λ n. numbered w64 Choice n ∷ []) (λ n. n < 2 ^ 64)
read64 = number_read w64 (2 ^ 64) wide64 (omega arith)

-- ---- a number that passes a test

refused : (b : Bool) (x : ℕ × List ℕ) (d stop : Stop) → cond b (Ok x) (Err d) ≡ Err stop → d ≡ stop
refused true x d stop e = absurd cc
refused false x d stop e = failing_is (ℕ × List ℕ) d stop e

tested_stops : (w : Width) (limit : ℕ) (wide : IsWide w limit) (test : ℕ → Bool) (why : Why) (bytes : List ℕ)
    (stop : Stop) (y : ℕ) → tested_at w test why bytes ≡ Err stop → StopsAt (numbered w why y ∷ []) bytes stop
tested_stops w limit wide test why bytes stop y e =
    elim (failed (number_at w) bytes _ stop e) [
      | inl short ↦ number_short w limit wide why bytes stop y short
      | inr v ↦
          (let long : byte_len w ≤ length bytes = number_long w bytes v.value v.rest v.is in
          stops_wrong bytes (numbered w why y) [] stop (omega (arith, long, wide.len y))
          (sym (refused (test v.value) (v.value, v.rest) (record { why = why; left = length bytes }) stop
          v.goes_on)))
    ]

pub constant_read : (w : Width) (limit n : ℕ) (why : Why) (wide : IsWide w limit) → n < limit
    → IsRead (constant_at w n why) (to_le_bytes w) (λ x. numbered w why x ∷ []) (λ x. x ≡ n)
constant_read w limit n why wide lt =
    let test : ℕ → Bool = λ found. found == n in
    alone_read why (tested_field w limit wide test why (λ x. x ≡ n) (λ x is. eqb-true x n is)
    (λ x is. (rw is lt, eq-eqb x n is))) n refl
    (λ bytes stop y e fits. tested_stops w limit wide test why bytes stop y e)

-- how much input is pending
pub count_read : IsRead count_at (to_le_bytes w32) (λ n. numbered w32 TooMuchInput n ∷ []) (λ n. n ≤ 4096)
count_read =
    let test : ℕ → Bool = λ count. nat_le count 4096 in
    alone_read TooMuchInput (tested_field w32 (2 ^ 32) wide32 test TooMuchInput (λ n. n ≤ 4096)
    (λ n is. leb-true n 4096 is) (λ n few. (omega (arith, few), le-leb n 4096 few))) 0 (omega arith)
    (λ bytes stop y e fits. tested_stops w32 (2 ^ 32) wide32 test TooMuchInput bytes stop y e)

-- ---- a byte, and a choice

byte_stops : (bytes : List ℕ) (stop : Stop) (y : ℕ) → byte_at bytes ≡ Err stop
    → StopsAt (field (y ∷ []) ∷ []) bytes stop
byte_stops [] stop y e = stops_short [] (field (y ∷ [])) [] stop (omega arith) (sym (failing_is _ _ stop e))
byte_stops (b ∷ bytes) stop y e = absurd cc

pub byte_read : IsRead byte_at (λ b. b ∷ []) (λ b. field (b ∷ []) ∷ []) (λ b. b < 256)
byte_read = alone_read Choice byte_field 0 (omega arith) (λ bytes stop y e fits. byte_stops bytes stop y e)

abbrev pub choice : Bool → List ℕ
choice b = flag b ∷ []

flag_takes : (bytes : List ℕ) (b : Bool) (rest : List ℕ) → IsBytes bytes → flag_at bytes ≡ Ok (b, rest)
    → Takes bytes (choice b) rest × Always b
unfolding flag_at
flag_takes [] b rest fits e = absurd cc
flag_takes (zero ∷ bytes) b rest fits e = chosen choice Always false b 0 bytes rest refl tt fits e
flag_takes (suc zero ∷ bytes) b rest fits e = chosen choice Always true b 1 bytes rest refl tt fits e
flag_takes (suc (suc n) ∷ bytes) b rest fits e = absurd cc

flag_again : (b : Bool) (rest : List ℕ) → Always b → flag_at (choice b ++ rest) ≡ Ok (b, rest)
unfolding flag_at
flag_again true rest fits = refl
flag_again false rest fits = refl

flag_field : IsField flag_at choice Always
flag_field = record {
  takes = λ bytes b rest fits e. flag_takes bytes b rest fits e;
  again = λ b rest fits. flag_again b rest fits;
}

flag_stops : (bytes : List ℕ) (stop : Stop) (y : Bool) → flag_at bytes ≡ Err stop
    → StopsAt (field (choice y) ∷ []) bytes stop
unfolding flag_at
flag_stops [] stop y e = stops_short [] (field (choice y)) [] stop (omega arith) (sym (failing_is _ _ stop e))
flag_stops (zero ∷ bytes) stop y e = absurd cc
flag_stops (suc zero ∷ bytes) stop y e = absurd cc
flag_stops (suc (suc b) ∷ bytes) stop y e =
    stops_wrong (suc (suc b) ∷ bytes) (field (choice y)) [] stop (omega arith) (sym (failing_is _ _ stop e))

pub flag_read : IsRead flag_at choice (λ b. field (choice b) ∷ []) Always
flag_read = alone_read Choice flag_field false tt (λ bytes stop y e fits. flag_stops bytes stop y e)

abbrev reasons : Interrupts → List ℕ
reasons i = interrupt_bits i ∷ []

interrupts_takes : (bytes : List ℕ) (i : Interrupts) (rest : List ℕ) → IsBytes bytes
    → interrupts_at bytes ≡ Ok (i, rest) → Takes bytes (reasons i) rest × Always i
unfolding interrupts_at
interrupts_takes [] i rest fits e = absurd cc
interrupts_takes (zero ∷ bytes) i rest fits e =
    chosen reasons Always (record { used_buffer = false; configuration_change = false }) i 0 bytes rest
    refl tt fits e
interrupts_takes (suc zero ∷ bytes) i rest fits e =
    chosen reasons Always (record { used_buffer = true; configuration_change = false }) i 1 bytes rest
    refl tt fits e
interrupts_takes (suc (suc zero) ∷ bytes) i rest fits e =
    chosen reasons Always (record { used_buffer = false; configuration_change = true }) i 2 bytes rest
    refl tt fits e
interrupts_takes (suc (suc (suc zero)) ∷ bytes) i rest fits e =
    chosen reasons Always (record { used_buffer = true; configuration_change = true }) i 3 bytes rest
    refl tt fits e
interrupts_takes (suc (suc (suc (suc b))) ∷ bytes) i rest fits e = absurd cc

interrupts_again : (used_buffer configuration_change : Bool) (rest : List ℕ)
    → interrupts_at (interrupt_bits (record {
      used_buffer = used_buffer;
      configuration_change = configuration_change;
    }) ∷ rest)
    ≡ Ok (record { used_buffer = used_buffer; configuration_change = configuration_change }, rest)
unfolding interrupts_at
interrupts_again false false rest = refl
interrupts_again true false rest = refl
interrupts_again false true rest = refl
interrupts_again true true rest = refl

interrupts_field : IsField interrupts_at reasons Always
interrupts_field = record {
  takes = λ bytes i rest fits e. interrupts_takes bytes i rest fits e;
  again = λ i rest fits. interrupts_again i.used_buffer i.configuration_change rest;
}

interrupts_stops : (bytes : List ℕ) (stop : Stop) (y : Interrupts) → interrupts_at bytes ≡ Err stop
    → StopsAt (field (reasons y) ∷ []) bytes stop
unfolding interrupts_at
interrupts_stops [] stop y e =
    stops_short [] (field (reasons y)) [] stop (omega arith) (sym (failing_is _ _ stop e))
interrupts_stops (suc (suc (suc (suc b))) ∷ bytes) stop y e =
    stops_wrong (suc (suc (suc (suc b))) ∷ bytes) (field (reasons y)) [] stop (omega arith)
    (sym (failing_is _ _ stop e))
interrupts_stops (b ∷ bytes) stop y e = absurd cc

pub interrupts_read : IsRead interrupts_at reasons (λ i. field (reasons i) ∷ []) Always
interrupts_read =
    alone_read Choice interrupts_field (record { used_buffer = false; configuration_change = false }) tt
    (λ bytes stop y e fits. interrupts_stops bytes stop y e)

-- ---- so many bytes

bytes_stops : (n : ℕ) (bytes : List ℕ) (stop : Stop) (y : List ℕ) → bytes_at n bytes ≡ Err stop → length y ≡ n
    → StopsAt (field y ∷ []) bytes stop
bytes_stops n bytes stop y e len =
    let g = guard_err (ltb (length bytes) n) (record { why = Short; left = length bytes }) stop
    (take n bytes, drop n bytes) e in
    let short : length bytes < n = ltb-true _ _ g.0 in
    stops_short bytes (field y) [] stop (omega arith) (sym g.1)

pub bytes_read : (n : ℕ) → IsRead (bytes_at n) (λ xs. xs) (λ xs. field xs ∷ []) (λ xs. length xs ≡ n)
bytes_read n =
    alone_read Choice (bytes_field n) (replicate n 0) (length-replicate n 0)
    (λ bytes stop y e fits. bytes_stops n bytes stop y e fits)

-- ---- the version, and how many further devices there are

in_range : (most n : ℕ) → (nat_le 1 n && nat_le n most) ≡ true → (1 ≤ n) × (n ≤ most)
in_range most n is = let parts = and_parts _ _ is in (leb-true 1 n parts.0, leb-true n most parts.1)

is_in_range : (most n : ℕ) → most < 2 ^ 32 → (1 ≤ n) × (n ≤ most)
    → (n < 2 ^ 32) × ((nat_le 1 n && nat_le n most) ≡ true)
is_in_range most n small few = (omega (arith, few.1, small), rw (le-leb 1 n few.0, le-leb n most few.1) refl)

-- a number from 1 to so many
ranged_read : (most : ℕ) (why : Why) → 1 ≤ most → most < 2 ^ 32
    → IsRead (tested_at w32 (λ n. nat_le 1 n && nat_le n most) why) (to_le_bytes w32)
    (λ n. numbered w32 why n ∷ []) (λ n. (1 ≤ n) × (n ≤ most))
ranged_read most why some small =
    let test : ℕ → Bool = λ n. nat_le 1 n && nat_le n most in
    alone_read why (tested_field w32 (2 ^ 32) wide32 test why (λ n. (1 ≤ n) × (n ≤ most))
    (λ n is. in_range most n is) (λ n few. is_in_range most n small few)) 1 (omega arith, some)
    (λ bytes stop y e fits. tested_stops w32 (2 ^ 32) wide32 test why bytes stop y e)

abbrev pub IsVersion : ℕ → Type 0
IsVersion n = (1 ≤ n) × (n ≤ 3)

pub version_read : IsRead version_at (to_le_bytes w32) (λ n. numbered w32 Version n ∷ []) IsVersion
version_read = ranged_read 3 Version (omega arith) (omega arith)

abbrev pub IsFew : ℕ → Type 0
IsFew n = (1 ≤ n) × (n ≤ 6)

pub device_count_read : IsRead device_count_at (to_le_bytes w32) (λ n. numbered w32 Choice n ∷ []) IsFew
device_count_read = ranged_read 6 Choice (omega arith) (omega arith)
