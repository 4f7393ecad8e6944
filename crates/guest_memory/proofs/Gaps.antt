-- What the gaps of a memory are to a range: the test of them, a part of a range that misses them, and the
-- bytes of a write.
use Rattle.std.proofs.Common.{◌≡◌, ◌↔◌, ◌⊎◌, inl, inr, ℕ, ◌+◌, ◌-◌, ◌≤◌, ◌<◌, List, [], ◌∷◌, length, take, refl, sym, ◌∙◌, ap, arith, Bool, true, false}
use Rattle.std.specs.Prelude.{nat_le, ◌&&◌, ◌||◌, if◌then◌else◌}
use Rattle.std.proofs.lemmas.Bool.{cases_lt, and_parts, and_from}
use Rattle.std.proofs.lemmas.Bool.Decides.{nat_tests}
use Rattle.std.proofs.lemmas.List.{take_all}
use Rattle.std.proofs.lemmas.List.Elements.{All-nil, All-cons, All-head, All-tail}
use Rattle.guest_memory.specs.Memory.{Gap, Misses, MissesAll, misses_all, up_to_gap}

-- no gaps are missed by every range
pub misses-none : (a n : ℕ) → MissesAll [] a n
unfolding MissesAll
misses-none a n = All-nil (λ g. Misses g a n)

-- one gap more
pub misses-more : (g : Gap) (gs : List Gap) (a n : ℕ) → (a + n ≤ g.start) ⊎ (g.end ≤ a) → MissesAll gs a n
    → MissesAll (g ∷ gs) a n
unfolding MissesAll
misses-more g gs a n first rest = All-cons (λ g. Misses g a n) g gs (record { apart = first }) rest

-- the first gap
pub misses-first : (g : Gap) (gs : List Gap) (a n : ℕ) → MissesAll (g ∷ gs) a n
    → (a + n ≤ g.start) ⊎ (g.end ≤ a)
unfolding MissesAll
misses-first g gs a n h = (All-head (λ g. Misses g a n) g gs h).apart

-- and those that follow
pub misses-rest : (g : Gap) (gs : List Gap) (a n : ℕ) → MissesAll (g ∷ gs) a n → MissesAll gs a n
unfolding MissesAll
misses-rest g gs a n h = All-tail (λ g. Misses g a n) g gs h

-- a part of a range misses the gaps that the range misses
pub misses_part : (gs : List Gap) (a n b k : ℕ) → a ≤ b → b + k ≤ a + n → MissesAll gs a n → MissesAll gs b k
misses_part [] a n b k above below h = misses-none b k
misses_part (g ∷ gs) a n b k above below h =
    misses-more g gs b k (apart (misses-first g gs a n h))
    (misses_part gs a n b k above below (misses-rest g gs a n h))
  where
    apart : (a + n ≤ g.start) ⊎ (g.end ≤ a) → (b + k ≤ g.start) ⊎ (g.end ≤ b)
    apart (inl before) = inl (omega arith)
    apart (inr behind) = inr (omega arith)

-- the test of one gap says that it is missed
one_gap : (g : Gap) (a n : ℕ)
    → ((nat_le (a + n) g.start || nat_le g.end a) ≡ true) ↔ ((a + n ≤ g.start) ⊎ (g.end ≤ a))
one_gap g a n = (told, holds)
  where
    told : (nat_le (a + n) g.start || nat_le g.end a) ≡ true → (a + n ≤ g.start) ⊎ (g.end ≤ a)
    told h =
        elim (cases_lt g.start (a + n)) [
          | inl over ↦ elim (cases_lt a g.end) [
            | inl under ↦ absurd (grind (arith, nat_tests))
            | inr behind ↦ inr behind
          ]
          | inr before ↦ inl before
        ]

    holds : (a + n ≤ g.start) ⊎ (g.end ≤ a) → (nat_le (a + n) g.start || nat_le g.end a) ≡ true
    holds (inl before) = grind (arith, nat_tests)
    holds (inr behind) = grind (arith, nat_tests)

misses_all-nil : (a n : ℕ) → misses_all [] a n ≡ true
unfolding misses_all
misses_all-nil a n = refl

misses_all-cons : (g : Gap) (gs : List Gap) (a n : ℕ)
    → misses_all (g ∷ gs) a n ≡ ((nat_le (a + n) g.start || nat_le g.end a) && misses_all gs a n)
unfolding misses_all
misses_all-cons g gs a n = refl

-- what misses each gap passes the test
pub misses_all-true : (gs : List Gap) (a n : ℕ) → MissesAll gs a n → misses_all gs a n ≡ true
misses_all-true [] a n h = misses_all-nil a n
misses_all-true (g ∷ gs) a n h =
    misses_all-cons g gs a n
    ∙ and_from (nat_le (a + n) g.start || nat_le g.end a) (misses_all gs a n)
    ((one_gap g a n).1 (misses-first g gs a n h)) (misses_all-true gs a n (misses-rest g gs a n h))

-- what passes the test misses each gap
pub true-misses_all : (gs : List Gap) (a n : ℕ) → misses_all gs a n ≡ true → MissesAll gs a n
true-misses_all [] a n h = misses-none a n
true-misses_all (g ∷ gs) a n h =
    let parts = and_parts (nat_le (a + n) g.start || nat_le g.end a) (misses_all gs a n)
    (sym (misses_all-cons g gs a n) ∙ h) in
    misses-more g gs a n ((one_gap g a n).0 parts.0) (true-misses_all gs a n parts.1)

-- where there is no gap, the whole of what is written is put in place
pub up_to_gap-none : (a : ℕ) (bs : List ℕ) → up_to_gap [] a bs ≡ bs
unfolding up_to_gap
up_to_gap-none a bs = refl

-- a gap that ends at the address or before it cuts nothing off
pub up_to_gap-behind : (g : Gap) (gs : List Gap) (a : ℕ) (bs : List ℕ) → g.end ≤ a
    → up_to_gap (g ∷ gs) a bs ≡ up_to_gap gs a bs
unfolding up_to_gap
up_to_gap-behind g gs a bs behind =
    let test : nat_le g.end a ≡ true = grind (arith, nat_tests) in
    ap (λ (t : Bool). if t then up_to_gap gs a bs else take (g.start - a) bs) test

-- one that ends above it cuts off what would reach into it
pub up_to_gap-before : (g : Gap) (gs : List Gap) (a : ℕ) (bs : List ℕ) → a < g.end
    → up_to_gap (g ∷ gs) a bs ≡ take (g.start - a) bs
unfolding up_to_gap
up_to_gap-before g gs a bs before =
    let test : nat_le g.end a ≡ false = grind (arith, nat_tests) in
    ap (λ (t : Bool). if t then up_to_gap gs a bs else take (g.start - a) bs) test

-- a range that misses each gap is written whole
pub up_to_gap-all : (gs : List Gap) (a : ℕ) (bs : List ℕ) → MissesAll gs a (length bs)
    → up_to_gap gs a bs ≡ bs
up_to_gap-all [] a bs h = up_to_gap-none a bs
up_to_gap-all (g ∷ gs) a bs h =
    elim (cases_lt a g.end) [
      | inl under ↦
          let fits : a + length bs ≤ g.start =
          elim (misses-first g gs a (length bs) h)
          [ inl before ↦ before | inr behind ↦ absurd (omega arith) ] in
          up_to_gap-before g gs a bs under ∙ take_all (g.start - a) bs (omega arith)
      | inr behind ↦ up_to_gap-behind g gs a bs behind
          ∙ up_to_gap-all gs a bs (misses-rest g gs a (length bs) h)
    ]

-- of no bytes none is cut off
pub up_to_gap-nil : (gs : List Gap) (a : ℕ) → up_to_gap gs a [] ≡ []
up_to_gap-nil [] a = up_to_gap-none a []
up_to_gap-nil (g ∷ gs) a =
    elim (cases_lt a g.end) [
      | inl under ↦ up_to_gap-before g gs a [] under ∙ take_all (g.start - a) [] (omega arith)
      | inr behind ↦ up_to_gap-behind g gs a [] behind ∙ up_to_gap-nil gs a
    ]
