-- Descriptors as they stand in guest memory: 16 bytes in the split (2.7.5) or the packed layout (2.8.13).
use Rattle.std.specs.Prelude.{ℕ, ◌+◌, ◌*◌, ◌≡◌, Bool, not, ◌==◌, if◌then◌else◌, Some, None, List, map, bit_and}
use Rattle.std.specs.List.{range_with_len}
use Rattle.guest_memory.specs.Memory.{Memory, Inside, num, part_of}
use Rattle.chain.specs.Buffers.{buffer_of}
use Rattle.chain.specs.declared.segment.Buffer.{Buffer}
use Rattle.indirect.specs.declared.descriptor.Descriptor.{Descriptor}

-- VIRTQ_DESC_F_NEXT: the descriptor goes on in a next one
abbrev pub next_flag : ℕ
next_flag = 1

-- VIRTQ_DESC_F_WRITE: the device writes the descriptor's buffer
abbrev pub write_flag : ℕ
write_flag = 2

-- VIRTQ_DESC_F_INDIRECT: the descriptor's buffer is a table of descriptors
abbrev pub indirect_flag : ℕ
indirect_flag = 4

-- whether a word of flags has the given one
abbrev pub has_flag : ℕ → ℕ → Bool
has_flag flags flag = not (bit_and flags flag == 0)

-- the descriptor of these fields, which goes on at the next index if its flags have NEXT
abbrev pub descriptor_of : ℕ → ℕ → ℕ → ℕ → Descriptor
descriptor_of addr len flags next = record {
  buffer = buffer_of addr len (has_flag flags write_flag);
  indirect = has_flag flags indirect_flag;
  next = if has_flag flags next_flag then Some next else None;
}

-- the descriptor at address a in the split layout: addr, len, flags, next
abbrev pub split_descriptor : Memory → ℕ → Descriptor
split_descriptor m a =
    let flags = num m (a + 12) 2 in
    record {
      buffer = buffer_of (num m a 8) (num m (a + 8) 4) (has_flag flags write_flag);
      indirect = has_flag flags indirect_flag;
      next = if has_flag flags next_flag then Some (num m (a + 14) 2) else None;
    }

-- the buffer of the descriptor at address a in the packed layout: addr, len, id, flags
abbrev pub packed_buffer : Memory → ℕ → Buffer
packed_buffer m a = buffer_of (num m a 8) (num m (a + 8) 4) (has_flag (num m (a + 14) 2) write_flag)

-- the i-th descriptor of the split table at an address
abbrev pub split_table : Memory → ℕ → ℕ → Descriptor
split_table m addr i = split_descriptor m (addr + 16 * i)

-- the buffers of the first n descriptors of the packed table at an address
abbrev pub packed_buffers : Memory → ℕ → ℕ → List Buffer
packed_buffers m addr n = map (λ i. packed_buffer m (addr + 16 * i)) (range_with_len 0 n)

-- wherever these bytes are a range of a memory, the fact holds of that memory and of the address of the i-th
-- byte
abbrev pub StandsIn : List ℕ → ℕ → (Memory → ℕ → Type 0) → Type 0
StandsIn bytes i Fact = (m : Memory) (a n : ℕ) → Inside m a n → bytes ≡ part_of m a n → Fact m (a + i)
