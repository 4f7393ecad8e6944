-- What a chain keeps of the buffers that it holds.
use Rattle.std.specs.Prelude.{◌≡◌, ℕ, ◌+◌, ◌^◌, ◌<◌, ◌≤◌, Bool, List, length, take, get_or, All, false, true}
use Rattle.chain.specs.declared.segment.Buffer.{Buffer}
use Rattle.chain.specs.declared.buffers.Start.{Start}
use Rattle.chain.specs.Buffers.{total_len}
use Rattle.chain.specs.Bytes.{len_of}

-- how many bytes of each direction come before the buffer i
abbrev pub start_at : List Buffer → ℕ → Start
start_at buffers i = record {
  readable = len_of false (take i buffers);
  writable = len_of true (take i buffers);
}

-- how many come before the next buffer, where one of len bytes comes behind
abbrev pub start_behind : Start → ℕ → Bool → Start
start_behind s len true = record { readable = s.readable; writable = s.writable + len }
start_behind s len false = record { readable = s.readable + len; writable = s.writable }

-- The buffers of a chain are the first so many of its room. The start of each is kept, and that of one behind
-- them; the sum of the lengths fits, and no buffer passes the last address.
pub record IsHeld (room : List Buffer) (filled : ℕ) (starts : List Start) : Type 0 where
  pub whole : length room ≡ 256
  pub few : filled ≤ 256
  pub starts_are : (i : ℕ) (d : Start) → i ≤ filled → get_or starts i d ≡ start_at (take filled room) i
  pub total_is : len_of false (take filled room) + len_of true (take filled room)
      ≡ total_len (take filled room)
  pub fits : total_len (take filled room) < 2 ^ 32
  pub addressable : All (λ b. b.segment.addr + b.segment.len ≤ 2 ^ 64) (take filled room)
