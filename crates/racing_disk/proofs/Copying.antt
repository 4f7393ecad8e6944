-- A copy of the first places of the readable list, from the first buffer.
use Rattle.std.proofs.Common.{◌≡◌, ◌∙◌, ℕ, zero, suc, ◌+◌, ◌-◌, ◌<◌, ◌≤◌, false, Bool, List, [], ◌∷◌, length, get_or, take, drop, refl, sym, ap, arith}
use Rattle.std.specs.Prelude.{All, IsSomeAnd, slice_index_or}
use Rattle.std.specs.List.{flat_map, range_with_len, slice_get}
use Rattle.std.proofs.lemmas.List.{take-append-le, take_all}
use Rattle.std.proofs.lemmas.List.Elements.{All-head}
use Rattle.std.proofs.lemmas.List.FromFn.{length-range_with_len}
use Rattle.std.proofs.lemmas.Slice.{take-put_mid}
use borrow.Rule.Slice.PartMut.{put_mid}
use Rattle.guest_memory.specs.Memory.{Inside, Memory, part_of}
use Rattle.guest_memory.proofs.Ranges.{inside_part, inside_same, length-part_of}
use Rattle.chain.specs.declared.segment.Buffer.{Buffer}
use Rattle.chain.specs.declared.segment.Segment.{Segment}
use Rattle.chain.specs.Buffers.{Within}
use Rattle.chain.specs.Bytes.{addresses, addresses_of}
use Rattle.chain.proofs.Contents.{length-put_mid}
use Rattle.shared_memory.specs.Sightings.{Sightings, Loads, memory}
use Rattle.shared_memory.proofs.Sightings.{loads_range, loads_trans, seen_last, seen_sooner}
use Rattle.shared_memory.specs.Bytes.{AreBytesSeen}
use Rattle.chain_handler.proofs.Seeing.{bytes_later, part_seen, seen_append}

take_range : (a n k : ℕ) → k ≤ n → take k (range_with_len a n) ≡ range_with_len a k
take_range a n zero fits = refl
take_range a zero (suc k) fits = absurd (omega (arith, fits))
take_range a (suc n) (suc k) fits = ap (λ l. a ∷ l) (take_range (a + 1) n k (omega (arith, fits)))

-- what it has of the readable list stands first in that
first_addresses : (b : Buffer) (buffers : List Buffer) (n : ℕ) → b.writable ≡ false → n ≤ b.segment.len
    → take n (addresses_of false (b ∷ buffers)) ≡ range_with_len b.segment.addr n
first_addresses b buffers n readable fits =
    let long = length-range_with_len b.segment.addr b.segment.len in
    rw readable
    (take-append-le n (addresses b.segment) (addresses_of false buffers) (omega (arith, long, fits))
    ∙ take_range b.segment.addr b.segment.len n fits)

-- the first buffer is readable, and has so many bytes
abbrev pub HasFirst : List Buffer → ℕ → Type 0
HasFirst buffers n = IsSomeAnd (slice_get buffers 0) (λ first. (first.writable ≡ false) × (n ≤ first.segment.len))

pub first_inside : (m : Memory) (buffers : List Buffer) (n : ℕ) (blank : Buffer) → HasFirst buffers n
    → All (Within m) buffers → Inside m (slice_index_or buffers 0 blank).segment.addr n
first_inside m [] n blank has inside = absurd has
first_inside m (b ∷ buffers) n blank has inside =
    inside_part (All-head (Within m) b buffers inside) (omega arith) (omega (arith, has.1))

-- one access reads the first bytes from it
pub first_seen : (races : Bool) (old next : Sightings) (buffers : List Buffer) (n : ℕ) (blank : Buffer) (bytes : List ℕ)
    → HasFirst buffers n → All (Within (memory old)) buffers → Loads races old next
    → bytes ≡ part_of (memory next) (slice_index_or buffers 0 blank).segment.addr n
    → AreBytesSeen old next (take n (addresses_of false buffers)) bytes
first_seen races old next [] n blank bytes has inside loads is = absurd has
first_seen races old next (b ∷ buffers) n blank bytes has inside loads is =
    rw (first_addresses b buffers n has.0 has.1, is)
    (part_seen old next (memory next) b.segment.addr n (seen_last races old next loads)
    (inside_same (memory old) (memory next) b.segment.addr n (loads_range races old next loads)
    (first_inside (memory old) (b ∷ buffers) n blank has inside)))
