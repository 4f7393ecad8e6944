-- Numbers that are read of a copy of bytes.
use Rattle.std.proofs.Common.{◌≡◌, ℕ, ◌+◌, ◌*◌, ◌<◌, ◌≤◌, ◌∙◌, List, ap, arith, length, take, drop}
use Rattle.std.specs.Prelude.{slice_index}
use Rattle.std.proofs.lemmas.List.{places}
use Rattle.guest_memory.specs.Memory.{Memory, Inside, num, part_of}
use Rattle.guest_memory.proofs.Ranges.{length-part_of, num_in_part}

-- a byte of two that are taken of some
byte_of : (bytes : List ℕ) (j k i : ℕ) → i ≡ j + k → k < 2 → i < length bytes
    → slice_index (take 2 (drop j bytes)) k ≡ slice_index bytes i
byte_of bytes j k i at few within = grind (arith, places)

-- two bytes of a copy of n are the number that stands there
pub number_of_two : (m : Memory) (addr n j v : ℕ) (bytes : List ℕ) → Inside m addr n → bytes ≡ part_of m addr n
    → j + 2 ≤ n → v ≡ slice_index bytes j + slice_index bytes (j + 1) * 256 → v ≡ num m (addr + j) 2
number_of_two m addr n j v bytes inside are within read =
    let long : length bytes ≡ n = ap (λ (bs : List ℕ). length bs) are ∙ length-part_of m addr n inside in
    let low = byte_of bytes j 0 j (omega arith) (omega arith) (omega (arith, long, within)) in
    let high = byte_of bytes j 1 (j + 1) (omega arith) (omega arith) (omega (arith, long, within)) in
    num_in_part m addr n j 2 2 v bytes are inside within (omega arith) (omega (arith, read, low, high))
