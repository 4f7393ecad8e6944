-- The buffers of a chain, and which of them a memory admits (2.7.4, 2.7.5.2).
use Rattle.std.specs.Prelude.{ℕ, ◌+◌, ◌^◌, ◌<◌, ◌≤◌, Bool, List, [], ◌∷◌, ◌++◌, length, sum_by, All}
use Rattle.guest_memory.specs.Memory.{Memory, Inside}
use Rattle.chain.specs.declared.segment.Buffer.{Buffer}
use Rattle.chain.specs.declared.fault.Fault.{Fault}
use Rattle.chain.specs.declared.fault.Fault.TheVariants.{TooMany, Range, TooLong}

-- a buffer of len bytes from address addr on, to be written by the device or to be read
abbrev pub buffer_of : ℕ → ℕ → Bool → Buffer
buffer_of addr len writable = record { segment = record { addr = addr; len = len }; writable = writable }

-- every byte of the buffer lies in the memory
abbrev pub Within : Memory → Buffer → Type 0
Within m b = Inside m b.segment.addr b.segment.len

-- how many bytes buffers have in all, to be read or to be written
abbrev pub total_len : List Buffer → ℕ
total_len buffers = sum_by (λ b. b.segment.len) buffers

-- buffers that a chain may hold: each inside the memory, at most 256, and at most 2^32 - 1 bytes in all
pub record Good (m : Memory) (buffers : List Buffer) : Type 0 where
  pub inside : All (Within m) buffers
  pub few : length buffers ≤ 256
  pub fits : total_len buffers < 2 ^ 32

-- the buffer b may be put behind these buffers
pub record Admits (m : Memory) (buffers : List Buffer) (b : Buffer) : Type 0 where
  pub inside : Within m b
  pub room : length buffers < 256
  pub fits : total_len buffers + b.segment.len < 2 ^ 32

-- each of the buffers more may be put behind those before it, where the first stands behind these
abbrev pub AdmitsAll : Memory → List Buffer → List Buffer → Type 0
AdmitsAll m buffers [] = Unit {0}
AdmitsAll m buffers (b ∷ more) = Admits m buffers b × AdmitsAll m (buffers ++ b ∷ []) more

-- the buffer b may not be put behind these buffers, and this is the first cause: it isn't inside the
-- memory; else 256 buffers are there; else the bytes of all would be more than 2^32 - 1
abbrev pub Refuses : Memory → List Buffer → Buffer → Fault → Type 0
Refuses m buffers b Range = ¬ Within m b
Refuses m buffers b TooMany = Within m b × (256 ≤ length buffers)
Refuses m buffers b TooLong = Within m b × (length buffers < 256)
    × (2 ^ 32 ≤ total_len buffers + b.segment.len)
Refuses m buffers b _ = ⊥
