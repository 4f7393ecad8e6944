-- Bytes put at addresses one after another.
use Rattle.std.proofs.Common.{◌≡◌, ℕ, ◌≤◌, List, [], ◌∷◌, length, drop, refl, ap, ◌∙◌, arith, ◌++◌}
use Rattle.std.specs.Prelude.{All}
use Rattle.std.proofs.lemmas.List.{drop_all}
use Rattle.std.proofs.lemmas.List.Elements.{All-weaker}
use Rattle.guest_memory.specs.Memory.{Memory, SameRange, put}
use Rattle.guest_memory.proofs.Ranges.{inside_same}
use Rattle.chain.specs.declared.segment.Buffer.{Buffer}
use Rattle.chain.specs.Buffers.{Within}
use Rattle.chain.specs.Bytes.{scatter}

-- buffers stay inside a memory of the same addresses
pub within_same : (old new : Memory) (xs : List Buffer) → SameRange old new → All (Within old) xs
    → All (Within new) xs
within_same old new xs s h =
    All-weaker (Within old) (Within new) (λ b i. inside_same old new b.segment.addr b.segment.len s i) xs h

-- no byte is left
pub scatter_none : (m : Memory) (addrs : List ℕ) → scatter m addrs [] ≡ m
scatter_none m [] = refl
scatter_none m (a ∷ addrs) = refl

pub scatter_done : (m : Memory) (addrs bytes : List ℕ) (place i : ℕ) → length bytes ≤ i
    → scatter m (drop place addrs) (drop i bytes) ≡ m
scatter_done m addrs bytes place i h =
    ap (scatter m (drop place addrs)) (drop_all i bytes h) ∙ scatter_none m (drop place addrs)

-- the last byte
pub scatter-push : (m : Memory) (addrs bytes : List ℕ) (a x : ℕ) → length addrs ≡ length bytes
    → scatter m (addrs ++ a ∷ []) (bytes ++ x ∷ []) ≡ put (scatter m addrs bytes) a (x ∷ [])
scatter-push m [] [] a x e = refl
scatter-push m [] (y ∷ bytes) a x e = absurd (omega (arith, e))
scatter-push m (b ∷ addrs) [] a x e = absurd (omega (arith, e))
scatter-push m (b ∷ addrs) (y ∷ bytes) a x e =
    scatter-push (put m b (y ∷ [])) addrs bytes a x (omega (arith, e))
