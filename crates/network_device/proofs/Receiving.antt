-- A waiting frame on its way into a chain.
use Rattle.std.proofs.Common.{◌≡◌, ℕ, ◌+◌, ◌-◌, ◌≤◌, ◌<◌, ◌^◌, arith, Bool, true, List, ◌∷◌, ◌++◌, length, take, drop, Some, slice_get, refl, sym, ap, ◌∙◌}
use Rattle.std.proofs.Math.Seq.{take-add}
use Rattle.std.proofs.lemmas.Bool.{lt-ltb}
use Rattle.std.proofs.lemmas.List.{drop-drop, length-append}
use Rattle.guest_memory.specs.Memory.{Memory}
use Rattle.chain.specs.declared.segment.Buffer.{Buffer}
use Rattle.chain.specs.Buffers.{Good}
use Rattle.chain.specs.Bytes.{writable_of}
use Rattle.chain.proofs.Directions.{len_of-le, length-addresses_of}
use Rattle.chain_handler.proofs.Doing.{fills}
use Rattle.shared_memory.specs.Sightings.{Sightings, memory}
use Rattle.chain_handler.specs.Device.{DoesRaced}
use Rattle.shared_memory.specs.Bytes.{StoresEach}
use Rattle.shared_memory.proofs.Bytes.{each_join}
use Rattle.network_device.specs.Device.{counted, misfits, passing, receive}
use Rattle.network_device.specs.Header.{receive_header}
use Rattle.network_device.proofs.Fitting.{behind, front_fits}

-- a header and the two parts of a frame
pub three_rows : (races : Bool) (a b c d : Sightings) (addrs header front back : List ℕ) (at all : ℕ) → length header ≡ 12
    → at ≡ 12 + length front → all ≡ 12 + length front + length back
    → StoresEach races a b (take (length header) (drop 0 addrs)) header
    → StoresEach races b c (take (length front) (drop 12 addrs)) front
    → StoresEach races c d (take (length back) (drop at addrs)) back
    → StoresEach races a d (take all addrs) (header ++ (front ++ back))
three_rows races a b c d addrs header front back at all h at_is all_is first second third =
    let n = length front in
    let k = length back in
    let inner : drop n (drop 12 addrs) ≡ drop at addrs =
    drop-drop n 12 addrs ∙ (let e : 12 + n ≡ at = omega (arith, at_is) in ap (λ j. drop j addrs) e) in
    let later : StoresEach races b d (take (n + k) (drop 12 addrs)) (front ++ back) =
    rw (take-add n k (drop 12 addrs), inner) (each_join races b c d (take n (drop 12 addrs)) front (take k (drop at addrs)) back second third) in
    let whole : all ≡ 12 + (n + k) = omega (arith, all_is) in
    rw (whole, take-add 12 (n + k) addrs)
    (each_join races a b d (take 12 addrs) header (take (n + k) (drop 12 addrs)) (front ++ back) (rw h at first) later)

-- so many bytes are fewer than 2^32
pub small : (m : Memory) (buffers : List Buffer) (n : ℕ) → Good m buffers → n ≤ length (writable_of buffers)
    → n < 2 ^ 32
small m buffers n good le =
    let l = length-addresses_of true buffers in let t = len_of-le true buffers in let f = good.fits in
    omega (arith, l, t, f, le)

-- A chain gets a frame once header and frame were stored in its first places.
pub receive_raced : (races : Bool) (old new : Sightings) (buffers : List Buffer) (frames skipped left : List (List ℕ))
    (dropped more k len : ℕ) (front back : List ℕ) → Good (memory old) buffers → k ≡ misfits (length (writable_of buffers)) frames
    → skipped ≡ drop k frames → Some (front ++ back) ≡ slice_get skipped 0 → left ≡ drop 1 skipped
    → StoresEach races old new (take len (writable_of buffers)) (receive_header ++ (front ++ back))
    → len ≡ 12 + length front + length back → more ≡ counted dropped k
    → DoesRaced receive races old new buffers (passing frames dropped) (passing left more) len true
receive_raced races old new buffers frames skipped left dropped more k len front back good k_is s e l stored len_is count =
    let w = length (writable_of buffers) in
    let frame = front ++ back in
    let bytes = receive_header ++ frame in
    let fits = front_fits w frames skipped k front back k_is s e in
    let a = length-append front back in
    let h : length receive_header ≡ 12 = refl in
    let size : len ≡ length bytes = omega (arith, len_is, a, length-append receive_header frame, h) in
    let gap : w - length bytes ≡ w - (12 + length frame) = omega (arith, length-append receive_header frame, h) in
    fills receive races old new buffers (passing frames dropped) (passing left more) bytes len true good (rw size at stored)
    (omega (arith, size, len_is, fits))
    (record {
      frame = frame;
      later = left;
      first = ap (λ n. drop n frames) (sym k_is) ∙ sym s ∙ behind skipped frame (sym e)
          ∙ ap (λ (fs : List (List ℕ)). frame ∷ fs) (sym l);
      is = rw (count, k_is, gap) refl;
    })
    size (sym (lt-ltb 0 (length bytes) (omega (arith, size, len_is))))
