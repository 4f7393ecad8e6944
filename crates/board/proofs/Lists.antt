-- One element of a list is replaced.
use Rattle.std.proofs.Common.{◌≡◌, ◌≢◌, ℕ, zero, suc, Bor, MutBor, List, [], ◌∷◌, Option, Some, None, refl, ap}
use Rattle.std.specs.Prelude.{slice_set, IfNone, IfSome, length}
use Rattle.std.specs.Slice.{IsItemAt}
use Rattle.std.specs.List.{IsItemAtMut, slice_get}
use Rattle.std.proofs.lemmas.List.{set-get_or}
use Rattle.std.proofs.lemmas.Option.{get_or_from_slice_get, slice_get_past, slice_get_read}

-- it is there
pub get_set : {X : Type 0} (xs : List X) (h : ℕ) (old new : X) → slice_get xs h ≡ Some old
    → slice_get (slice_set xs h new) h ≡ Some new
get_set [] h old new here = absurd (cc)
get_set (x ∷ xs) zero old new here = refl
get_set (x ∷ xs) (suc h) old new here = get_set xs h old new here

-- and the others are as they were
pub others_kept : {X : Type 0} (xs : List X) (h : ℕ) (new : X) (other : ℕ) → other ≢ h
    → slice_get (slice_set xs h new) other ≡ slice_get xs other
others_kept [] h new other differ = refl
others_kept (x ∷ xs) zero new zero differ = absurd (differ refl)
others_kept (x ∷ xs) zero new (suc other) differ = refl
others_kept (x ∷ xs) (suc h) new zero differ = refl
others_kept (x ∷ xs) (suc h) new (suc other) differ =
    others_kept xs h new other (λ same. differ (ap suc same))

pub get_set_other : {X : Type 0} (xs : List X) (h g : ℕ) (new : X) → h ≢ g
    → slice_get (slice_set xs h new) g ≡ slice_get xs g
get_set_other xs h g new apart = others_kept xs h new g (λ same. apart (cc (same)))

-- what stands in a place stays where it is put there again
pub set_same : {X : Type 0} (xs : List X) (h : ℕ) (old new : X) → slice_get xs h ≡ Some old → new ≡ old
    → slice_set xs h new ≡ xs
set_same xs h old new here same = rw (same, ← get_or_from_slice_get xs h old old here) (set-get_or xs h old)

-- where a slice has no such item, its list has none
pub none_there : {X : Type 0} (slots seen : List X) (i : ℕ) (found : Option (Bor X)) → slots ≡ seen
    → IsItemAt slots i found → IfNone found (slice_get seen i ≡ None)
none_there slots seen i None same at = rw (← same) (slice_get_past slots i at.3)
none_there slots seen i (Some found) same at = tt

-- and where it has one, that is its item there
pub some_there : {X : Type 0} (slots seen : List X) (i : ℕ) (found : Option (Bor X)) → slots ≡ seen
    → IsItemAt slots i found → IfSome found (λ x. slice_get seen i ≡ Some x.now)
some_there slots seen i None same at = tt
some_there slots seen i (Some x) same at =
    rw (← same) (slice_get_read slots (length slots) i x.now refl at.3.0 at.1)

-- an item that a list lends stands in its place
pub is_there : {X : Type 0} (xs : List X) (i : ℕ) (found : MutBor X) → IsItemAtMut xs i (Some found)
    → slice_get xs i ≡ Some found.now
is_there xs i found item = slice_get_read xs (length xs) i found.now refl item.3.0 item.1

-- and where it lends none, there is none
pub not_there : {X : Type 0} (xs : List X) (i : ℕ) → IsItemAtMut xs i None → slice_get xs i ≡ None
not_there xs i item = slice_get_past xs i item.3
