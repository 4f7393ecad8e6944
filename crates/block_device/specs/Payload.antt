-- The bytes behind the header of a chain, as they lie in memory.
use Rattle.std.specs.Prelude.{ℕ, ◌≤◌, List, length, All}
use Rattle.guest_memory.specs.Memory.{Memory}
use Rattle.chain.specs.declared.segment.Buffer.{Buffer}
use Rattle.chain.specs.Buffers.{Within}
use Rattle.chain.specs.Bytes.{readable_of}
use Rattle.block_device.specs.Request.{payload_of}

-- the payload
abbrev pub payload_in : Memory → List Buffer → List ℕ
payload_in m buffers = payload_of (readable_of m buffers)

-- the chain lies in memory, and has a whole header
pub record HasPayload (m : Memory) (buffers : List Buffer) : Type 0 where
  pub inside : All (Within m) buffers
  pub header : 16 ≤ length (readable_of m buffers)
