-- The bits of pages that stores mark.
use Rattle.std.proofs.Common.{◌≡◌, ◌∙◌, ◌==◌, ℕ, ◌+◌, ◌-◌, ◌≤◌, ◌<◌, Bool, true, List, [], ◌∷◌, length, map, get_or, refl, sym, ap, subst, arith}
use Rattle.std.proofs.lemmas.Bool.Decides.{nat_tests}
use Rattle.std.proofs.lemmas.List.{length-map}
use Rattle.guest_memory.specs.declared.spec.RegionSpec.{RegionSpec}
use Rattle.guest_memory.specs.Faults.{zeroed_region}
use Rattle.guest_memory.specs.Memory.{Inside}
use Rattle.guest_memory.specs.Pages.{bits_of, marked}
use Rattle.guest_memory.proofs.InRegions.{first_base, some_region}
use Rattle.guest_memory.proofs.Marking.{marked-marked, marked-nil, marked-none}
use Rattle.racing_memory.specs.Past.{Access, MakeMemory, Seen, Stood, newest, noted_each}
use Rattle.racing_memory.proofs.Seeing.{newest_range}

pub no_bits : (bytes : List ℕ) → bytes ≡ [] → bits_of bytes ≡ []
unfolding bits_of
no_bits bytes none = ap bits_of none

-- where no bits are kept none are marked
pub none_kept : (bytes : List ℕ) (from n : ℕ) {count : ℕ} {test : Bool} → count ≡ length bytes → test ≡ (count == 0)
    → test ≡ true → bits_of bytes ≡ marked 0 from n (bits_of bytes)
unfolding bits_of
none_kept [] from n size is empty = sym (marked-nil 0 from n)
none_kept (byte ∷ bytes) from n size is empty = absurd (grind (arith, nat_tests, size, is, empty))

-- ---- from the first region's base on

pub some_made : (rs : List RegionSpec) → MakeMemory rs → 0 < length rs
some_made rs makes = omega (arith, some_region (map zeroed_region rs) makes, length-map rs zeroed_region)

base_at : (rs : List RegionSpec) (stood : Stood) (past : List Access) (d : RegionSpec) → MakeMemory rs
    → (newest rs stood past).base ≡ (get_or rs 0 d).base
base_at [] stood past d makes = absurd (omega (arith, some_made [] makes))
base_at (r ∷ rs) stood past d makes = (newest_range (r ∷ rs) stood past).base ∙ first_base (zeroed_region r) (map zeroed_region rs)

-- a range of the memory lies there
pub base_below : (rs : List RegionSpec) (stood : Stood) (past : List Access) (a n : ℕ) (d : RegionSpec) (s : Seen)
    → MakeMemory rs → record { regions = rs; stood = stood; past = past } ≡ s
    → Inside (newest s.regions s.stood s.past) a n → (get_or rs 0 d).base ≤ a
base_below rs stood past a n d s makes view inside =
    let lies = subst (λ (s : Seen). Inside (newest s.regions s.stood s.past) a n) (sym view) inside in
    omega (arith, lies.above, base_at rs stood past d makes)

-- and what is marked for a store there are the bits of the memory behind it
pub marks_noted : (rs : List RegionSpec) (stood : Stood) (past : List Access) (a : ℕ) (bs : List ℕ) (d : RegionSpec)
    (old new : List Bool) → MakeMemory rs → old ≡ (newest rs stood past).pages
    → new ≡ marked 0 (a - (get_or rs 0 d).base) (length bs) old
    → new ≡ (newest rs stood (record { addr = a; bytes = bs; stores = true } ∷ past)).pages
marks_noted rs stood past a bs d old new makes kept is =
    is ∙ rw (kept, base_at rs stood past d makes) refl

-- the same of bytes that are stored one after another
pub each_marked : (rs : List RegionSpec) (stood : Stood) (past : List Access) (a : ℕ) (bs : List ℕ) (d : RegionSpec)
    (old new : List Bool) → MakeMemory rs → (get_or rs 0 d).base ≤ a → old ≡ (newest rs stood past).pages
    → new ≡ marked 0 (a - (get_or rs 0 d).base) (length bs) old
    → new ≡ (newest rs stood (noted_each a bs past)).pages
each_marked rs stood past a [] d old new makes above kept is =
    is ∙ marked-none 0 (a - (get_or rs 0 d).base) old ∙ kept
each_marked rs stood past a (x ∷ bs) d old new makes above kept is =
    let base = (get_or rs 0 d).base in
    let first = marked 0 (a - base) 1 old in
    let next : a - base + 1 ≡ a + 1 - base = omega (arith, above) in
    let more : length (x ∷ bs) ≡ 1 + length bs = omega arith in
    each_marked rs stood (record { addr = a; bytes = x ∷ []; stores = true } ∷ past) (a + 1) bs d first new makes
    (omega (arith, above)) (marks_noted rs stood past a (x ∷ []) d old first makes kept refl)
    (is ∙ ap (λ (n : ℕ). marked 0 (a - base) n old) more ∙ sym (marked-marked 0 (a - base) 1 (length bs) old)
    ∙ ap (λ (k : ℕ). marked 0 k (length bs) first) next)
