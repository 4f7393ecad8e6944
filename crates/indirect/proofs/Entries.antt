-- The descriptors of a table, one after another.
use Rattle.std.proofs.Common.{◌≡◌, ℕ, ◌+◌, ◌*◌, ◌≤◌, List, [], ◌∷◌, ◌++◌, ap, ◌∙◌, arith, append_assoc, length, take, drop}
use Rattle.std.proofs.lemmas.List.FromFn.{map-range_with_len_more}
use Rattle.byteorder.specs.Endian.{little_number}
use Rattle.guest_memory.specs.Memory.{Memory, num, part_of}
use Rattle.guest_memory.proofs.Ranges.{length-part_of, num_in_part}
use Rattle.chain.specs.declared.segment.Buffer.{Buffer}
use Rattle.chain.specs.Buffers.{Admits, AdmitsAll}
use Rattle.chain.proofs.Admitting.{AdmitsAll-push}
use Rattle.indirect.specs.declared.descriptor.Descriptor.{Descriptor}
use Rattle.indirect.specs.Descriptors.{StandsIn, split_descriptor, split_table, packed_buffer, packed_buffers}

-- the descriptor at 16 times an index is that of the index
pub entry_is : (m : Memory) (addr offset i : ℕ) (d : Descriptor) → d ≡ split_descriptor m (addr + offset)
    → offset ≡ 16 * i → d ≡ split_table m addr i
entry_is m addr offset i d e k = e ∙ ap (λ j. split_descriptor m (addr + j)) k

-- a packed table's buffers, one more
pub packed_buffers-more : (m : Memory) (addr n : ℕ) → packed_buffers m addr (n + 1) ≡ packed_buffers m addr n
    ++ packed_buffer m (addr + 16 * n) ∷ []
packed_buffers-more m addr n =
    map-range_with_len_more (λ i. packed_buffer m (addr + 16 * i)) 0 n n (omega arith)

-- the buffers so far of a packed table
pub record Gathered (m : Memory) (addr : ℕ) (before : List Buffer) (n : ℕ)
    (buffers : List Buffer) : Type 0 where
  pub admitted : AdmitsAll m before (packed_buffers m addr n)
  pub named : buffers ≡ before ++ packed_buffers m addr n

pub gathered_step : (m : Memory) (addr : ℕ) (before buffers after : List Buffer) (n : ℕ) (b : Buffer)
    → b ≡ packed_buffer m (addr + 16 * n)
    → Admits m buffers b → after ≡ buffers ++ b ∷ [] → Gathered m addr before n buffers
    → Gathered m addr before (n + 1) after
gathered_step m addr before buffers after n b e a pushed g =
    let more = packed_buffers-more m addr n in
    record {
      admitted = rw more (AdmitsAll-push m before (packed_buffers m addr n) (packed_buffer m (addr + 16 * n))
          g.admitted (rw (e, g.named) at a));
      named = rw (more, pushed, e, g.named)
          (append_assoc before (packed_buffers m addr n) (packed_buffer m (addr + 16 * n) ∷ []));
    }

pub packed_entry_is : (m : Memory) (addr offset i : ℕ) (b : Buffer) → b ≡ packed_buffer m (addr + offset)
    → offset ≡ 16 * i → b ≡ packed_buffer m (addr + 16 * i)
packed_entry_is m addr offset i b e k = e ∙ ap (λ j. packed_buffer m (addr + j)) k

-- a number that was read of bytes is that of the memory which they are a range of
pub number_in : (bytes : List ℕ) (at k v rest : ℕ) → at + k ≤ length bytes → k ≤ rest
    → v ≡ little_number k (take rest (drop at bytes)) → StandsIn bytes at (λ m a. v ≡ num m a k)
number_in bytes at k v rest within room read = λ m a n inside are.
    num_in_part m a n at k rest v bytes are inside
    (omega (arith, within, ap length are, length-part_of m a n inside)) room read

-- and the one so many bytes behind
pub number_behind : (bytes : List ℕ) (at j k v rest : ℕ) → at + j + k ≤ length bytes → k ≤ rest
    → v ≡ little_number k (take rest (drop (at + j) bytes)) → StandsIn bytes at (λ m a. v ≡ num m (a + j) k)
number_behind bytes at j k v rest within room read = λ m a n inside are.
    let place : a + (at + j) ≡ a + at + j = omega arith in
    number_in bytes (at + j) k v rest within room read m a n inside are ∙ ap (λ (b : ℕ). num m b k) place

-- the bytes of a range, by another name of its length
pub lent_by : (m : Memory) (a n k : ℕ) (bytes : List ℕ) → bytes ≡ part_of m a n → n ≡ k
    → bytes ≡ part_of m a k
lent_by m a n k bytes lent same = lent ∙ ap (λ (n : ℕ). part_of m a n) same
