-- Bytes of the pool on their way into a chain.
use Rattle.std.proofs.Common.{◌≡◌, ℕ, ◌-◌, nat_lt, Bool, List, length, map, take, drop, Option, Some, None, refl, ap, ◌∙◌, arith}
use Rattle.std.specs.Prelude.{min}
use Rattle.std.proofs.lemmas.List.{length-map, length-replicate, length-append, length-take}
use Rattle.chain.specs.declared.segment.Buffer.{Buffer}
use Rattle.chain.specs.Buffers.{Good}
use Rattle.chain.specs.Bytes.{writable_of}
use Rattle.chain.specs.Service.{used_len}
use Rattle.chain.proofs.Partial.{unwritten, used_len-run}
use Rattle.chain_handler.proofs.Doing.{fills, used_len-none}
use Rattle.shared_memory.specs.Sightings.{Sightings, memory}
use Rattle.chain_handler.specs.Device.{DoesRaced}
use Rattle.shared_memory.specs.Bytes.{StoresEach}
use Rattle.entropy_device.specs.Device.{entropy, filled}

-- each place is accounted for, and as many as were filled are counted
pub length-filled : (pool : List ℕ) (w : ℕ) → length (filled pool w).written ≡ w
length-filled pool w =
    length-append (map Some (take w pool)) (unwritten (w - length pool))
    ∙ (let e = length-map (take w pool) Some in let f = length-replicate {A = Option ℕ} (w - length pool) None in
    let t = length-take w pool in omega (arith, e, f, t))

pub used_len-filled : (pool : List ℕ) (w : ℕ) → used_len (filled pool w).written ≡ min w (length pool)
used_len-filled pool w =
    used_len-run (take w pool) (unwritten (w - length pool))
    ∙ (let f = used_len-none (w - length pool) in let t = length-take w pool in omega (arith, f, t))

-- A chain is filled once the pool's first bytes were stored in its first places.
pub filled_raced : (races : Bool) (old new : Sightings) (buffers : List Buffer) (pool left : List ℕ) (count : ℕ)
    → Good (memory old) buffers → count ≡ length (take (length (writable_of buffers)) pool)
    → StoresEach races old new (take count (writable_of buffers)) (take (length (writable_of buffers)) pool)
    → left ≡ drop (length (writable_of buffers)) pool
    → DoesRaced entropy races old new buffers pool left count (nat_lt 0 count)
filled_raced races old new buffers pool left count good count_is stored left_is =
    let w = length (writable_of buffers) in
    let bytes = take w pool in
    let gap : w - length bytes ≡ w - length pool = omega (arith, length-take w pool) in
    fills entropy races old new buffers pool left bytes count (nat_lt 0 count) good (rw count_is at stored)
    (omega (arith, length-take w pool)) (rw (left_is, gap) refl) count_is (ap (nat_lt 0) count_is)
