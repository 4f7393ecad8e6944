-- What writes leave of the bits of pages.
use Rattle.std.proofs.Common.{◌≡◌, ℕ, ◌+◌, Bool, true, false, List, [], ◌∷◌, refl, sym, ◌∙◌, ap, arith}
use Rattle.std.specs.Prelude.{◌||◌}
use Rattle.std.proofs.lemmas.Bool.Decides.{nat_tests}
use Rattle.guest_memory.specs.Pages.{is_reached, marked, page_size}

pub marked-nil : (page a n : ℕ) → marked page a n [] ≡ []
unfolding marked
marked-nil page a n = refl

pub marked-cons : (page a n : ℕ) (bit : Bool) (bits : List Bool)
    → marked page a n (bit ∷ bits) ≡ (bit || is_reached page a n) ∷ marked (page + page_size) a n bits
unfolding marked
marked-cons page a n bit bits = refl

or_false : (bit : Bool) → (bit || false) ≡ bit
or_false true = refl
or_false false = refl

-- a write of nothing marks no page
pub marked-none : (page a : ℕ) (bits : List Bool) → marked page a 0 bits ≡ bits
marked-none page a [] = marked-nil page a 0
marked-none page a (bit ∷ bits) =
    marked-cons page a 0 bit bits
    ∙ ap (λ (b : Bool). b ∷ marked (page + page_size) a 0 bits) (or_false bit)
    ∙ ap (λ (bs : List Bool). bit ∷ bs) (marked-none (page + page_size) a bits)

or_or : (bit one other both : Bool) → (one || other) ≡ both → ((bit || one) || other) ≡ (bit || both)
or_or true one other both is = refl
or_or false one other both is = is

-- two writes, the second right behind the first, reach the pages that one does
reached_both : (page a x y : ℕ)
    → (is_reached page a x || is_reached page (a + x) y) ≡ is_reached page a (x + y)
reached_both page a x y = grind (arith, nat_tests)

pub marked-marked : (page a x y : ℕ) (bits : List Bool)
    → marked page (a + x) y (marked page a x bits) ≡ marked page a (x + y) bits
marked-marked page a x y [] =
    ap (marked page (a + x) y) (marked-nil page a x) ∙ marked-nil page (a + x) y ∙ sym (marked-nil page a (x + y))
marked-marked page a x y (bit ∷ bits) =
    ap (marked page (a + x) y) (marked-cons page a x bit bits)
    ∙ marked-cons page (a + x) y (bit || is_reached page a x) (marked (page + page_size) a x bits)
    ∙ ap (λ (b : Bool). b ∷ marked (page + page_size) (a + x) y (marked (page + page_size) a x bits))
    (or_or bit (is_reached page a x) (is_reached page (a + x) y) (is_reached page a (x + y)) (reached_both page a x y))
    ∙ ap (λ (bs : List Bool). (bit || is_reached page a (x + y)) ∷ bs) (marked-marked (page + page_size) a x y bits)
    ∙ sym (marked-cons page a (x + y) bit bits)
