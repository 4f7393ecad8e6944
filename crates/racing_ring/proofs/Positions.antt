-- The positions of a packed ring, counted from that of a list's first descriptor on.
use Rattle.std.proofs.Common.{◌≡◌, ◌∙◌, ℕ, ◌+◌, ◌-◌, ◌%◌, ◌<◌, Bool, true, false, if◌then◌else◌, Some, None, List, [], ◌∷◌, ◌++◌, sym, ap, arith}
use Rattle.std.proofs.Math.Nat.{mod-add-mod, add-mod_right, mod-eq_of_lt}
use Rattle.std.proofs.lemmas.Nat.{mod_below}
use Rattle.indirect.specs.Descriptors.{has_flag, next_flag}
use Rattle.packed_ring.specs.Ring.{descriptor_addr, flags_of}
use Rattle.racing_ring.specs.Source.{Source}
use Rattle.racing_ring.specs.Packed.{read_descriptor}

-- how many steps lead from the position h to another, round a ring of n descriptors
pub steps : ℕ → ℕ → ℕ → ℕ
steps n h i = (i + (n - h)) % n

-- so many steps lead to the position that is so many further
pub steps_of : (n h k : ℕ) → h < n → k < n → steps n h ((h + k) % n) ≡ k
unfolding steps
steps_of n h k below room =
    let same : h + k + (n - h) ≡ k + n = omega (arith, below) in
    mod-add-mod (h + k) n (n - h) ∙ ap (λ (x : ℕ). x % n) same ∙ add-mod_right k n ∙ mod-eq_of_lt room

-- none leads to h itself
pub start_at : (n h : ℕ) → h < n → h ≡ (h + 0) % n
start_at n h below =
    let same : h + 0 ≡ h = omega arith in
    sym (ap (λ (x : ℕ). x % n) same ∙ mod-eq_of_lt below)

-- each of these positions is fewer than count steps from h
abbrev pub Behind : ℕ → ℕ → ℕ → List ℕ → Type 0
Behind n h count [] = Unit {0}
Behind n h count (x ∷ front) = (steps n h x < count) × Behind n h count front

-- and one more is, too
pub behind_push : (n h count i : ℕ) (front : List ℕ) → steps n h i ≡ count → Behind n h count front
    → Behind n h (count + 1) (front ++ i ∷ [])
behind_push n h count i [] e b = (omega (arith, e), tt)
behind_push n h count i (x ∷ front) e b = (omega (arith, b.0), behind_push n h count i front e b.1)

-- the position at which a list goes on
pub next_is : (source : Source) (desc n i j : ℕ) → (read_descriptor source desc n i).next ≡ Some j → j ≡ (i + 1) % n
next_is source desc n i j next = go (has_flag (flags_of source.flags_in (descriptor_addr desc i)) next_flag) next
  where
    go : (v : Bool) → (if v then Some ((i + 1) % n) else None) ≡ Some j → j ≡ (i + 1) % n
    go true e = let same : (i + 1) % n ≡ j = cc e in sym same
    go false e = cc e

pub next_at : (source : Source) (desc n h count i j : ℕ) → (read_descriptor source desc n i).next ≡ Some j
    → i ≡ (h + count) % n → j ≡ (h + (count + 1)) % n
next_at source desc n h count i j next at =
    let same : h + count + 1 ≡ h + (count + 1) = omega arith in
    next_is source desc n i j next ∙ ap (λ (x : ℕ). (x + 1) % n) at ∙ mod-add-mod (h + count) n 1
    ∙ ap (λ (x : ℕ). x % n) same

pub next_below : (n h count j : ℕ) → h < n → j ≡ (h + (count + 1)) % n → j < n
next_below n h count j below at =
    let there : (h + (count + 1)) % n < n = mod_below (h + (count + 1)) n (omega (arith, below)) in
    omega (arith, there, at)
