-- Pending input on its way into a chain, byte after byte.
use Rattle.std.proofs.Common.{◌≡◌, ◌∙◌, ℕ, zero, suc, ◌+◌, ◌-◌, ◌^◌, ◌<◌, nat_lt, Bool, true, Some, List, [], ◌∷◌, ◌++◌, length, map, take, drop, refl, sym, ap, arith, length-append}
use Rattle.std.specs.Prelude.{min}
use Rattle.std.proofs.lemmas.List.{drop_min, length-take, take_min}
use Rattle.std.proofs.Math.Seq.{take-add}
use Rattle.guest_memory.specs.Memory.{Memory}
use Rattle.chain.specs.declared.segment.Buffer.{Buffer}
use Rattle.chain.specs.Buffers.{Good}
use Rattle.chain.specs.Bytes.{writable_of}
use Rattle.chain.specs.Service.{Given}
use Rattle.chain.proofs.Partial.{unwritten}
use Rattle.shared_memory.specs.Bytes.{StoresEach}
use Rattle.shared_memory.specs.Sightings.{Sightings, memory}
use Rattle.shared_memory.proofs.Bytes.{each_join}
use Rattle.chain_handler.specs.Device.{DoesRaced}
use Rattle.chain_handler.proofs.Doing.{fills}
use Rattle.chain_handler.proofs.Rows.{few_places}
use Rattle.console_device.specs.Device.{receive}

-- the first n of two lists
take-append : (n : ℕ) (xs ys : List ℕ) → take n (xs ++ ys) ≡ take n xs ++ take (n - length xs) ys
take-append zero [] ys = refl
take-append (suc n) [] ys = let e : suc n ≡ suc n - length {A = ℕ} [] = omega arith in ap (λ k. take k ys) e
take-append zero (x ∷ xs) ys = let e : 0 ≡ 0 - length (x ∷ xs) = omega arith in ap (λ k. take k ys) e
take-append (suc n) (x ∷ xs) ys =
    let e : n - length xs ≡ suc n - length (x ∷ xs) = omega arith in
    ap (λ (l : List ℕ). x ∷ l) (take-append n xs ys ∙ ap (λ k. take n xs ++ take k ys) e)

-- no more than there are
take_fewer : (k n : ℕ) (xs : List ℕ) → k ≡ min (length xs) n → take k xs ≡ take n xs
take_fewer k n xs h = let e : k ≡ min n (length xs) = omega (arith, h) in
    ap (λ j. take j xs) e ∙ take_min n xs

-- ---- the two parts of the ring

-- how many bytes of each part are stored in so many places
module _ (front back pending addrs : List ℕ) (places from_front from_back : ℕ) (all : places ≡ length addrs)
    (joined : front ++ back ≡ pending) (f : from_front ≡ min (length front) places)
    (b : from_back ≡ min (length back) (places - from_front)) where
  bytes_both : take from_front front ++ take from_back back ≡ take (length addrs) pending
  bytes_both =
      let some = take_fewer from_front places front f in
      let others : take from_back back ≡ take (places - length front) back =
      take_fewer from_back (places - length front) back (omega (arith, f, b)) in
      let parts : take from_front front ++ take from_back back ≡ take places (front ++ back) =
      rw (some, others) (sym (take-append places front back)) in
      parts ∙ ap (λ (l : List ℕ). take places l) joined ∙ ap (λ n. take n pending) all

  pub count_both : from_front + from_back ≡ length (take (length addrs) pending)
  count_both =
      let e : length front + length back ≡ length pending = sym (length-append front back) ∙ ap length joined in
      omega (arith, e, length-take (length addrs) pending, f, b, all)

  pub both_stored : (races : Bool) (old mid new : Sightings)
      → StoresEach races old mid (take (length (take from_front front)) (drop 0 addrs)) (take from_front front)
      → StoresEach races mid new (take (length (take from_back back)) (drop from_front addrs)) (take from_back back)
      → StoresEach races old new (take (from_front + from_back) addrs) (take (length addrs) pending)
  both_stored races old mid new first second =
      let one : length (take from_front front) ≡ from_front = omega (arith, length-take from_front front, f) in
      let two : length (take from_back back) ≡ from_back = omega (arith, length-take from_back back, b) in
      rw (take-add from_front from_back addrs, ← bytes_both)
      (each_join races old mid new (take from_front addrs) (take from_front front) (take from_back (drop from_front addrs))
      (take from_back back) (rw one at first) (rw two at second))

-- ---- a chain is received

-- no more than fit in a chain
pub few_received : (m : Memory) (buffers : List Buffer) (pending : List ℕ) (count : ℕ) → Good m buffers
    → count ≡ length (take (length (writable_of buffers)) pending) → count < 2 ^ 32
few_received m buffers pending count good is =
    omega (arith, is, length-take (length (writable_of buffers)) pending, few_places true buffers good.fits)

pub left_of_input : (count w : ℕ) (pending : List ℕ) → count ≡ length (take w pending) → drop count pending ≡ drop w pending
left_of_input count w pending is =
    ap (λ n. drop n pending) (is ∙ length-take w pending) ∙ drop_min w pending

-- A chain is received once the first bytes of pending input were stored in its first places.
pub receive_does : (races : Bool) (old new : Sightings) (buffers : List Buffer) (pending left : List ℕ) (count : ℕ)
    → Good (memory old) buffers → count ≡ length (take (length (writable_of buffers)) pending)
    → StoresEach races old new (take count (writable_of buffers)) (take (length (writable_of buffers)) pending)
    → left ≡ drop (length (writable_of buffers)) pending
    → DoesRaced receive races old new buffers pending left count (nat_lt 0 count)
receive_does races old new buffers pending left count good count_is stored left_is =
    let w = length (writable_of buffers) in
    let bytes = take w pending in
    let size = length-take w pending in
    let gap : w - length bytes ≡ w - length pending = omega (arith, size) in
    let filled : List ℕ → ℕ → Given (List ℕ) = λ t n. record { state = t; written = map Some bytes ++ unwritten n } in
    fills receive races old new buffers pending left bytes count (nat_lt 0 count) good (rw count_is at stored)
    (omega (arith, size)) (ap (filled left) gap ∙ ap (λ (t : List ℕ). filled t (w - length pending)) left_is) count_is
    (ap (nat_lt 0) count_is)
