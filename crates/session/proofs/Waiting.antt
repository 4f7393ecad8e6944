-- What waits of each slot's output, where that of one slot changes.
use Rattle.std.proofs.Common.{◌≡◌, ◌≢◌, ℕ, zero, suc, ◌<◌, List, ◌∷◌, length, Option, Some, refl, sym, ap, arith}
use Rattle.std.specs.Prelude.{slice_set, unwrap_or}
use Rattle.std.specs.List.{slice_get}
use Rattle.std.proofs.lemmas.List.{length-set, get_or-set_same}
use Rattle.std.proofs.lemmas.Option.{unwrap_or-slice_get, same_Some}
use Rattle.output_queue.specs.Waiting.{Waiting, none_waiting}
use Rattle.session.specs.Session.{KeepsOtherOutputs, waiting_at}

-- what waits of the others is the same
pub others_wait : (g slot : ℕ) (old new : List Waiting) → KeepsOtherOutputs slot old new → slot ≢ g
    → waiting_at g new ≡ waiting_at g old
others_wait g slot old new kept other =
    ap (λ (o : Option Waiting). unwrap_or o (none_waiting 0)) (kept g (λ same. other (sym same)))

pub set_there : (outputs : List Waiting) (h : ℕ) (new : Waiting) → h < length outputs
    → unwrap_or (slice_get (slice_set outputs h new) h) (none_waiting 0) ≡ new
set_there outputs h new fits =
    let fits' : h < length (slice_set outputs h new) = omega (arith, length-set outputs h new) in
    rw (unwrap_or-slice_get (slice_set outputs h new) h (none_waiting 0))
    (get_or-set_same outputs h new (none_waiting 0) fits)

pub limits_set : (outputs : List Waiting) (h : ℕ) (before after : Waiting) → slice_get outputs h ≡ Some before
    → after.limit ≡ before.limit → (slot : ℕ) →
    (unwrap_or (slice_get (slice_set outputs h after) slot) (none_waiting 0)).limit
    ≡ (unwrap_or (slice_get outputs slot) (none_waiting 0)).limit
limits_set (o ∷ outputs) zero before after here same zero = let is : o ≡ before =
    same_Some o before here in rw is same
limits_set (o ∷ outputs) (suc h) before after here same (suc slot) =
    limits_set outputs h before after here same slot
limits_set outputs h before after here same slot = refl

rebuilt : (l k : List ℕ) (m n : ℕ) → l ≡ k → m ≡ n
    → ◌≡◌ {A = Waiting} (record { bytes = l; limit = m }) (record { bytes = k; limit = n })
rebuilt l k m n p q = rw (p, q) refl

pub same_outlet : (a b : Waiting) → a.bytes ≡ b.bytes → a.limit ≡ b.limit → a ≡ b
same_outlet a b p q = rebuilt a.bytes b.bytes a.limit b.limit p q
