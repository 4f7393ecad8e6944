-- What the host is told of a chain, by the one copy that its request was judged by.
use Rattle.std.specs.Prelude.{◌≡◌, ℕ, ◌+◌, ◌-◌, false, List, [], ◌∷◌, length, drop}
use Rattle.chain.specs.declared.segment.Buffer.{Buffer}
use Rattle.chain.specs.declared.segment.Segment.{Segment}
use Rattle.chain.specs.Bytes.{len_of, writable_of}
use Rattle.block_device.specs.declared.device.BlockDevice.{BlockDevice}
use Rattle.block_device.specs.declared.request.Request.{Request}
use Rattle.racing_disk.specs.Judging.{IsJudgedBy}

-- The device leaves the chain of these buffers, which has a place for its status, for this request: so it was judged by these
-- readable bytes.
pub record IsLeft (device : BlockDevice) (readable : List ℕ) (buffers : List Buffer) (request : Request)
    (runs : List Segment) : Type 0 where
  pub room : ℕ
  pub all : length (writable_of buffers) ≡ room + 1
  pub judged : IsJudgedBy device readable room request runs

-- by some readable bytes, one for each place
pub record WasLeft (device : BlockDevice) (buffers : List Buffer) (request : Request) (runs : List Segment) : Type 0 where
  pub readable : List ℕ
  pub long : length readable ≡ len_of false buffers
  pub left : IsLeft device readable buffers request runs

-- the chain of these buffers has its status at this address, the last of its writable list, which is so long (5.2.6)
pub record HasStatus (buffers : List Buffer) (status writable : ℕ) : Type 0 where
  pub long : writable ≡ length (writable_of buffers)
  pub last : drop (writable - 1) (writable_of buffers) ≡ status ∷ []
