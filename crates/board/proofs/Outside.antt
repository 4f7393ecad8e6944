-- The image's bytes outside an extent: what stays where they do.
use Rattle.std.proofs.Common.{◌≡◌, inl, inr, ℕ, zero, suc, ◌+◌, ◌*◌, ◌/◌, ◌<◌, ◌≤◌, Bool, true, false, ◌||◌, List, [], ◌∷◌, length, get_or, refl, sym, ◌∙◌, ap, subst, arith, length-take, length-drop}
use Rattle.std.specs.Prelude.{if◌then◌else◌, IsSome, unwrap_or, Option, Some, None, drop, ◌⊎◌, ◌-◌}
use Rattle.std.specs.List.{list_any}
use Rattle.std.proofs.lemmas.Bool.{cases_lt}
use Rattle.std.proofs.lemmas.Bool.Decides.{nat_tests}
use Rattle.std.proofs.lemmas.List.{same_lists, places, get_or-take}
use Rattle.sector_cache.specs.Sector.{extent_of}
use Rattle.sector_cache.proofs.Sectors.{get_or-extent_of}
use Rattle.block_device.specs.declared.extent.Extent.{Extent}
use Rattle.block_device.specs.Extent.{SameOutside, SameContentsOutside}
use Rattle.board.specs.Extent.{has_sector, IsApart, outside_from, outside_of}

-- a byte outside a smaller set of sectors and outside a larger one
head_at : (b c : Bool) (x y : ℕ) → (b ≡ true → c ≡ true)
    → (if b || false then 0 else x) ≡ (if b || false then 0 else y)
    → (if c then 0 else x) ≡ (if c then 0 else y)
head_at true c x y larger same = rw (larger refl) refl
head_at false c x y larger same = ap (λ v. if c then 0 else v) same

-- where the bytes outside one extent stay, so do those outside more extents
pub outside_more : (extents : List Extent) (extent : Extent)
    → ((sector : ℕ) → has_sector extent sector ≡ true → list_any (λ e. has_sector e sector) extents ≡ true)
    → (i : ℕ) (xs ys : List ℕ) → outside_from (extent ∷ []) i xs ≡ outside_from (extent ∷ []) i ys
    → outside_from extents i xs ≡ outside_from extents i ys
outside_more extents extent larger i [] [] same = refl
outside_more extents extent larger i [] (y ∷ ys) same = absurd (cc)
outside_more extents extent larger i (x ∷ xs) [] same = absurd (cc)
outside_more extents extent larger i (x ∷ xs) (y ∷ ys) same =
    let first : (if has_sector extent (i / 512) || false then 0 else x)
    ≡ (if has_sector extent (i / 512) || false then 0 else y) = cc same in
    let rest : outside_from (extent ∷ []) (i + 1) xs ≡ outside_from (extent ∷ []) (i + 1) ys = cc same in
    let head = head_at (has_sector extent (i / 512)) (list_any (λ e. has_sector e (i / 512)) extents) x y
    (larger (i / 512)) first in
    ap (λ v. v ∷ outside_from extents (i + 1) xs) head
    ∙ ap (λ vs. (if list_any (λ e. has_sector e (i / 512)) extents then 0 else y) ∷ vs)
    (outside_more extents extent larger (i + 1) xs ys rest)

-- a byte outside the extent stays
byte_apart : (extent : Extent) (i : ℕ) (xs ys : List ℕ)
    → outside_from (extent ∷ []) i xs ≡ outside_from (extent ∷ []) i ys → (p d : ℕ)
    → has_sector extent ((i + p) / 512) ≡ false → get_or xs p d ≡ get_or ys p d
byte_apart extent i [] [] same p d apart = refl
byte_apart extent i [] (y ∷ ys) same p d apart = absurd (cc)
byte_apart extent i (x ∷ xs) [] same p d apart = absurd (cc)
byte_apart extent i (x ∷ xs) (y ∷ ys) same zero d apart =
    let here : has_sector extent (i / 512) ≡ false =
    subst (λ n. has_sector extent (n / 512) ≡ false) (omega arith) apart in
    let first : (if has_sector extent (i / 512) || false then 0 else x)
    ≡ (if has_sector extent (i / 512) || false then 0 else y) = cc same in
    rw here at first
byte_apart extent i (x ∷ xs) (y ∷ ys) same (suc p) d apart =
    let rest : outside_from (extent ∷ []) (i + 1) xs ≡ outside_from (extent ∷ []) (i + 1) ys = cc same in
    byte_apart extent (i + 1) xs ys rest p d
    (subst (λ n. has_sector extent (n / 512) ≡ false) (omega arith) apart)

-- the bytes outside are as many as all
same_length : (extents : List Extent) (i : ℕ) (xs ys : List ℕ)
    → outside_from extents i xs ≡ outside_from extents i ys → length xs ≡ length ys
same_length extents i [] [] same = refl
same_length extents i [] (y ∷ ys) same = absurd (cc)
same_length extents i (x ∷ xs) [] same = absurd (cc)
same_length extents i (x ∷ xs) (y ∷ ys) same =
    let rest : outside_from extents (i + 1) xs ≡ outside_from extents (i + 1) ys = cc same in
    ap suc (same_length extents (i + 1) xs ys rest)

-- a sector of one of two extents that are apart isn't the other's
not_in : (one other : Extent) → IsApart one other → (sector : ℕ) → other.start ≤ sector
    → sector < other.start + other.count → has_sector one sector ≡ false
not_in one other apart sector from below = let never = apart sector in grind (arith, nat_tests, never)

-- where the bytes outside one extent stay, so do those of each extent apart from it
pub extent_apart : (one other : Extent) → IsApart one other → (xs ys : List ℕ)
    → outside_of (one ∷ []) xs ≡ outside_of (one ∷ []) ys
    → extent_of xs other.start other.count ≡ extent_of ys other.start other.count
extent_apart one other apart xs ys same = same_lists _ _ long bytes
  where
    whole : length xs ≡ length ys
    whole = same_length (one ∷ []) 0 xs ys same

    long : length (extent_of xs other.start other.count) ≡ length (extent_of ys other.start other.count)
    long = simp (length-take, length-drop) (omega (arith, whole))

    bytes : (k d : ℕ) → k < length (extent_of xs other.start other.count)
        → get_or (extent_of xs other.start other.count) k d
        ≡ get_or (extent_of ys other.start other.count) k d
    bytes k d within =
        let below : k < 512 * other.count =
        omega (arith, within, simp (length-take, length-drop) at within) in
        get_or-extent_of xs other.start other.count k d below
        ∙ byte_apart one 0 xs ys same (512 * other.start + k) d
        (not_in one other apart ((0 + (512 * other.start + k)) / 512) (omega arith) (omega arith))
        ∙ sym (get_or-extent_of ys other.start other.count k d below)

-- ---- what a block device leaves outside its extent

pub length-outside : (extents : List Extent) (i : ℕ) (xs : List ℕ)
    → length (outside_from extents i xs) ≡ length xs
length-outside extents i [] = refl
length-outside extents i (x ∷ xs) = ap suc (length-outside extents (i + 1) xs)

-- a byte, or a zero within the extent
get_or-outside : (extent : Extent) (i : ℕ) (xs : List ℕ) (k d : ℕ) → k < length xs
    → get_or (outside_from (extent ∷ []) i xs) k d
    ≡ (if has_sector extent ((i + k) / 512) || false then 0 else get_or xs k d)
get_or-outside extent i [] k d below = absurd (omega (arith, below))
get_or-outside extent i (x ∷ xs) zero d below =
    ap (λ n. if has_sector extent (n / 512) || false then 0 else x) (omega arith)
get_or-outside extent i (x ∷ xs) (suc k) d below =
    get_or-outside extent (i + 1) xs k d (omega (arith, below))
    ∙ ap (λ n. if has_sector extent (n / 512) || false then 0 else get_or xs k d) (omega arith)

-- a byte before the extent's first or behind its last
byte_kept : (extent : Extent) (xs ys : List ℕ) → SameOutside extent xs ys → (k d : ℕ) → k < length xs
    → (k < 512 * extent.start) ⊎ (512 * (extent.start + extent.count) ≤ k) → get_or xs k d ≡ get_or ys k d
byte_kept extent xs ys same k d below (inl before) =
    sym (get_or-take (512 * extent.start) xs k d before)
    ∙ (ap (λ bs. get_or bs k d) (sym same.before) ∙ get_or-take (512 * extent.start) ys k d before)
byte_kept extent xs ys same k d below (inr behind) =
    let n = 512 * (extent.start + extent.count) in
    let one : get_or xs k d ≡ get_or (drop n xs) (k - n) d = grind (arith, places) in
    let other : get_or ys k d ≡ get_or (drop n ys) (k - n) d = grind (arith, places, same.size) in
    one ∙ (ap (λ bs. get_or bs (k - n) d) (sym same.behind) ∙ sym other)

masked : (b : Bool) (x y : ℕ) → (b ≡ false → x ≡ y)
    → (if b || false then 0 else x) ≡ (if b || false then 0 else y)
masked true x y same = refl
masked false x y same = same refl

-- a place whose sector isn't the extent's lies before it or behind it
apart_place : (extent : Extent) (k : ℕ) → has_sector extent (k / 512) ≡ false → (k < 512 * extent.start)
    ⊎ (512 * extent.start ≤ k) → (k < 512 * extent.start) ⊎ (512 * (extent.start + extent.count) ≤ k)
apart_place extent k not (inl before) = inl before
apart_place extent k not (inr from) =
    let first : extent.start ≤ k / 512 = omega (arith, from) in
    let past : extent.start + extent.count ≤ k / 512 = grind (arith, nat_tests, not, first) in
    inr (omega (arith, past))

outside_kept_bytes : (extent : Extent) (xs ys : List ℕ) → SameOutside extent xs ys
    → outside_of (extent ∷ []) xs ≡ outside_of (extent ∷ []) ys
outside_kept_bytes extent xs ys same = same_lists _ _ long each
  where
    long : length (outside_of (extent ∷ []) xs) ≡ length (outside_of (extent ∷ []) ys)
    long = length-outside (extent ∷ []) 0 xs ∙ (sym same.size ∙ sym (length-outside (extent ∷ []) 0 ys))

    each : (k d : ℕ) → k < length (outside_of (extent ∷ []) xs)
        → get_or (outside_of (extent ∷ []) xs) k d ≡ get_or (outside_of (extent ∷ []) ys) k d
    each k d within =
        let below : k < length xs = subst (λ n. k < n) (length-outside (extent ∷ []) 0 xs) within in
        let below' : k < length ys = subst (λ n. k < n) (sym same.size) below in
        get_or-outside extent 0 xs k d below
        ∙ (masked (has_sector extent ((0 + k) / 512)) (get_or xs k d) (get_or ys k d)
        (λ not. byte_kept extent xs ys same k d below
        (apart_place extent k (subst (λ n. has_sector extent (n / 512) ≡ false) (omega arith) not)
        (cases_lt k (512 * extent.start))))
        ∙ sym (get_or-outside extent 0 ys k d below'))

-- the image goes on telling its bytes, and those outside the extent stay
pub record Kept (extent : Extent) (old new : Option (List ℕ)) : Type 0 where
  pub tells : IsSome new
  pub outside : outside_of (extent ∷ []) (unwrap_or old []) ≡ outside_of (extent ∷ []) (unwrap_or new [])

pub outside_kept : (extent : Extent) (old new : Option (List ℕ)) → IsSome old
    → SameContentsOutside extent old new → Kept extent old new
outside_kept extent None new tells kept = absurd (cc)
outside_kept extent (Some xs) None tells kept = absurd kept
outside_kept extent (Some xs) (Some ys) tells kept =
    record { tells = refl; outside = outside_kept_bytes extent xs ys kept }
