-- A device writes parts of the writable list one after another: what they amount to, as one partial map.
use Rattle.std.proofs.Common.{◌≡◌, ℕ, zero, suc, ◌+◌, false, Option, Some, None, List, [], ◌∷◌, ◌++◌, length, map, drop, replicate, refl, sym, ap, ◌∙◌, arith}
use Rattle.std.specs.Prelude.{◌||◌}
use Rattle.std.proofs.lemmas.List.{length-replicate, length-append}
use Rattle.guest_memory.specs.Memory.{Memory, put}
use Rattle.chain.specs.Bytes.{scatter}
use Rattle.chain.specs.Service.{scattered, used_len, wrote}

-- n places that weren't written
abbrev pub unwritten : ℕ → List (Option ℕ)
unwritten n = replicate n None

-- nothing is written: the memory stays
pub scattered-unwritten : (m : Memory) (addrs : List ℕ) (n : ℕ) → scattered m addrs (unwritten n) ≡ m
scattered-unwritten m [] n = refl
scattered-unwritten m (a ∷ addrs) zero = refl
scattered-unwritten m (a ∷ addrs) (suc n) = scattered-unwritten m addrs n

-- no place, no byte
pub scattered-nil : (m : Memory) (addrs : List ℕ) → scattered m addrs [] ≡ m
scattered-nil m [] = refl
scattered-nil m (a ∷ addrs) = refl

-- a map in two parts
pub scattered-append : (m : Memory) (addrs : List ℕ) (front back : List (Option ℕ))
    → scattered m addrs (front ++ back) ≡ scattered (scattered m addrs front) (drop (length front) addrs) back
scattered-append m [] [] back = refl
scattered-append m [] (x ∷ front) back = refl
scattered-append m (a ∷ addrs) [] back = refl
scattered-append m (a ∷ addrs) (None ∷ front) back = scattered-append m addrs front back
scattered-append m (a ∷ addrs) (Some x ∷ front) back = scattered-append (put m a (x ∷ [])) addrs front back

-- every place of a run is written
pub scattered-run : (m : Memory) (addrs bytes : List ℕ)
    → scattered m addrs (map Some bytes) ≡ scatter m addrs bytes
scattered-run m [] bytes = refl
scattered-run m (a ∷ addrs) [] = refl
scattered-run m (a ∷ addrs) (x ∷ bytes) = scattered-run (put m a (x ∷ [])) addrs bytes

-- A run of bytes is written behind what was written so far.
pub scattered-then_run : (m : Memory) (addrs : List ℕ) (front : List (Option ℕ)) (bytes : List ℕ) (from : ℕ)
    → length front ≡ from
    → scatter (scattered m addrs front) (drop from addrs) bytes ≡ scattered m addrs (front ++ map Some bytes)
scattered-then_run m addrs front bytes from e =
    rw (← e) (sym (scattered-run (scattered m addrs front) (drop (length front) addrs) bytes)
    ∙ sym (scattered-append m addrs front (map Some bytes)))

-- Places are passed over: what was written so far stands.
pub scattered-then_unwritten : (m : Memory) (addrs : List ℕ) (front : List (Option ℕ)) (n : ℕ)
    → scattered m addrs (front ++ unwritten n) ≡ scattered m addrs front
scattered-then_unwritten m addrs front n =
    scattered-append m addrs front (unwritten n)
    ∙ scattered-unwritten (scattered m addrs front) (drop (length front) addrs) n

-- One byte is written at a later place.
pub scattered-then_byte : (m : Memory) (addrs : List ℕ) (front : List (Option ℕ)) (x n place : ℕ)
    → length front + n ≡ place
    → scatter (scattered m addrs front) (drop place addrs) (x ∷ [])
    ≡ scattered m addrs ((front ++ unwritten n) ++ Some x ∷ [])
scattered-then_byte m addrs front x n place e =
    let size : length (front ++ unwritten n) ≡ place = length-append front (unwritten n)
    ∙ ap (λ k. length front + k) (length-replicate n None) ∙ e in
    rw (← scattered-then_unwritten m addrs front n) (scattered-then_run m addrs (front
    ++ unwritten n) (x ∷ []) place size)

-- how much is written without a gap, and whether anything is
pub used_len-run : (bytes : List ℕ) (rest : List (Option ℕ))
    → used_len (map Some bytes ++ rest) ≡ length bytes + used_len rest
used_len-run [] rest = omega arith
used_len-run (x ∷ bytes) rest = let e = used_len-run bytes rest in omega (arith, e)

pub wrote-append : (front back : List (Option ℕ)) → wrote (front ++ back) ≡ (wrote front || wrote back)
wrote-append [] back = refl
wrote-append (None ∷ front) back = wrote-append front back
wrote-append (Some x ∷ front) back = refl

pub wrote-unwritten : (n : ℕ) → wrote (unwritten n) ≡ false
wrote-unwritten zero = refl
wrote-unwritten (suc n) = wrote-unwritten n
