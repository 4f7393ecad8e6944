-- The two lists of a chain (2.7.4), and bytes put at addresses one after another.
use Rattle.std.specs.Prelude.{ℕ, ◌+◌, ◌-◌, nat_lt, Bool, true, false, if◌then◌else◌, List, [], ◌∷◌, sum_by}
use Rattle.std.specs.List.{flat_map, range_with_len}
use Rattle.guest_memory.specs.Memory.{Memory, part_of, put}
use Rattle.chain.specs.declared.segment.Segment.{Segment}
use Rattle.chain.specs.declared.segment.Buffer.{Buffer}

-- the segments of the buffers with WRITE (true), or of those without it (false), in order
abbrev pub segments_of : Bool → List Buffer → List Segment
segments_of writable [] = []
segments_of true (b ∷ buffers) =
    if b.writable then b.segment ∷ segments_of true buffers else segments_of true buffers
segments_of false (b ∷ buffers) = if b.writable then segments_of false buffers else b.segment
    ∷ segments_of false buffers

-- the addresses of a segment's bytes, in order
abbrev pub addresses : Segment → List ℕ
addresses s = range_with_len s.addr s.len

-- the readable list: the bytes of all buffers without WRITE, in order
abbrev pub readable_of : Memory → List Buffer → List ℕ
readable_of m buffers = flat_map (λ s. part_of m s.addr s.len) (segments_of false buffers)

-- the address of each byte of all buffers of one direction, in order
abbrev pub addresses_of : Bool → List Buffer → List ℕ
addresses_of writable buffers = flat_map addresses (segments_of writable buffers)

-- the writable list: the address of each byte of all buffers with WRITE, in order
abbrev pub writable_of : List Buffer → List ℕ
writable_of buffers = addresses_of true buffers

-- how many bytes the buffers of one direction have
abbrev pub len_of : Bool → List Buffer → ℕ
len_of writable buffers = sum_by (λ s. s.len) (segments_of writable buffers)

-- what is left of the segment that a place lies in, from that place on
abbrev pub rest_at : List Segment → ℕ → Segment
rest_at [] place = record { addr = 0; len = 0 }
rest_at (s ∷ segments) place =
    if nat_lt place s.len then record { addr = s.addr + place; len = s.len - place } else rest_at
    segments (place - s.len)

-- what is left of the segment that a place of the readable list lies in, and of the writable list
abbrev pub readable_rest : List Buffer → ℕ → Segment
readable_rest buffers place = rest_at (segments_of false buffers) place

abbrev pub writable_rest : List Buffer → ℕ → Segment
writable_rest buffers place = rest_at (segments_of true buffers) place

-- the memory with one byte after another put at one address after another, as far as both lists go; so
-- where two addresses agree the later byte stands
abbrev pub scatter : Memory → List ℕ → List ℕ → Memory
scatter m [] bytes = m
scatter m (a ∷ addrs) [] = m
scatter m (a ∷ addrs) (x ∷ bytes) = scatter (put m a (x ∷ [])) addrs bytes
