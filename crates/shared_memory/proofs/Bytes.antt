-- Bytes that were seen, and bytes that were stored, one after another.
use Rattle.std.proofs.Common.{◌≡◌, ◌∙◌, ℕ, zero, suc, ◌+◌, ◌^◌, ◌<◌, Bool, false, List, [], ◌∷◌, ◌++◌, length, get_or, take, drop, refl, sym, ap, subst, arith}
use Rattle.std.specs.List.{range_with_len}
use Rattle.std.proofs.Math.Nat.{mod-eq_of_lt}
use Rattle.std.proofs.lemmas.List.{take_more}
use Rattle.guest_memory.specs.Memory.{Inside, Memory, SameRange, put}
use Rattle.guest_memory.proofs.Ranges.{inside_part, inside_same, put-none, put-put, put_range, same_trans, take-plus}
use Rattle.shared_memory.specs.Bytes.{StoresByte, StoresEach}
use Rattle.shared_memory.specs.Sightings.{Sightings, Stores, memory, still}
use Rattle.shared_memory.proofs.Sightings.{interference_range, same_self}

-- ---- bytes that are stored

-- a byte that was stored as a number
pub byte_stored : (races : Bool) (old new : Sightings) (a x : ℕ) → x < 2 ^ 8 → Stores races old new a 1 x
    → StoresByte races old new a x
byte_stored races old new a x small s = record {
  extends = s.extends;
  before = s.before;
  interference = s.interference;
  stored = s.stored ∙ ap (λ y. put s.before a (y ∷ [])) (mod-eq_of_lt small);
}

pub byte_range : (races : Bool) (old new : Sightings) (a x : ℕ) → StoresByte races old new a x
    → SameRange (memory old) (memory new)
byte_range races old new a x s =
    same_trans (memory old) s.before (memory new) (interference_range races (memory old) s.before s.interference)
    (subst (SameRange s.before) (sym s.stored) (put_range s.before a (x ∷ [])))

-- one row behind another
pub each_join : (races : Bool) (old mid new : Sightings) (xs bs ys cs : List ℕ) → StoresEach races old mid xs bs
    → StoresEach races mid new ys cs → StoresEach races old new (xs ++ ys) (bs ++ cs)
each_join races old mid new [] [] ys cs h more = subst (λ (s : Sightings). StoresEach races s new ys cs) h more
each_join races old mid new [] (b ∷ bs) ys cs h more = absurd h
each_join races old mid new (x ∷ xs) [] ys cs h more = absurd h
each_join races old mid new (x ∷ xs) (b ∷ bs) ys cs h more = record {
  stored = h.stored;
  stores = h.stores;
  later = each_join races h.stored mid new xs bs ys cs h.later more;
}

-- and one byte
pub each_more : (races : Bool) (old mid new : Sightings) (addrs bytes : List ℕ) (i a x : ℕ) → i < length bytes
    → StoresEach races old mid (take i addrs) (take i bytes) → take 1 (drop i addrs) ≡ a ∷ [] → x ≡ get_or bytes i 0
    → StoresByte races mid new a x → StoresEach races old new (take (i + 1) addrs) (take (i + 1) bytes)
each_more races old mid new addrs bytes i a x below h at is one =
    let places : take (i + 1) addrs ≡ take i addrs ++ a ∷ [] =
    take-plus i 1 addrs ∙ ap (λ l. take i addrs ++ l) at in
    let stored : take (i + 1) bytes ≡ take i bytes ++ x ∷ [] =
    take_more bytes i 0 below ∙ ap (λ y. take i bytes ++ y ∷ []) (sym is) in
    let last : StoresEach races mid new (a ∷ []) (x ∷ []) = record { stored = new; stores = one; later = refl } in
    rw (places, stored) (each_join races old mid new (take i addrs) (take i bytes) (a ∷ []) (x ∷ []) h last)

-- a place of a run
pub range_place : (a n i : ℕ) → i < n → take 1 (drop i (range_with_len a n)) ≡ (a + i) ∷ []
range_place a zero i below = absurd (omega (arith, below))
range_place a (suc n) zero below = let same : a ≡ a + 0 = omega arith in ap (λ (x : ℕ). x ∷ []) same
range_place a (suc n) (suc i) below =
    let same : a + 1 + i ≡ a + suc i = omega arith in
    range_place (a + 1) n i (omega (arith, below)) ∙ ap (λ (x : ℕ). x ∷ []) same

-- In a memory that stands still one copy is byte after byte.
pub copied_each : (m : Memory) (a : ℕ) (bytes : List ℕ) → Inside m a (length bytes)
    → StoresEach false (still m) (still (put m a bytes)) (range_with_len a (length bytes)) bytes
copied_each m a [] inside = ap still (put-none m a)
copied_each m a (x ∷ bytes) inside =
    let first = put m a (x ∷ []) in
    let one : Inside m a (1 + length bytes) = inside_part inside (omega arith) (omega arith) in
    let rest : Inside first (a + 1) (length bytes) =
    inside_same m first (a + 1) (length bytes) (put_range m a (x ∷ [])) (inside_part inside (omega arith) (omega arith)) in
    record {
      stored = still first;
      stores = record { extends = tt; before = m; interference = refl; stored = refl };
      later = subst (λ (n : Memory). StoresEach false (still first) (still n) (range_with_len (a + 1) (length bytes)) bytes)
          (put-put m a (x ∷ []) bytes one) (copied_each first (a + 1) bytes rest);
    }
