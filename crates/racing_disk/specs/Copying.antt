-- What a device copied of a chain's readable list (2.7.4), which its guest may write meanwhile.
use Rattle.std.specs.Prelude.{◌≡◌, ℕ, false, List, take, drop}
use Rattle.byteorder.specs.Endian.{little_number}
use Rattle.chain.specs.declared.segment.Buffer.{Buffer}
use Rattle.chain.specs.Bytes.{addresses_of}
use Rattle.shared_memory.specs.Sightings.{Sightings}
use Rattle.shared_memory.specs.Bytes.{AreBytesSeen}

-- Each of these is a byte of the readable list as it stood at its place's address at some access. Of a place that is
-- copied once there is one such byte, whatever the guest writes.
abbrev pub IsCopy : Sightings → Sightings → List Buffer → List ℕ → Type 0
IsCopy old new buffers readable = AreBytesSeen old new (addresses_of false buffers) readable

-- the fields of a header (5.2.6) that was copied: the type in 4 bytes, 4 that are reserved, the sector in 8
pub record IsHeader (old new : Sightings) (buffers : List Buffer) (kind sector : ℕ) : Type 0 where
  pub bytes : List ℕ
  pub copy : AreBytesSeen old new (take 16 (addresses_of false buffers)) bytes
  pub kind_is : kind ≡ little_number 4 bytes
  pub sector_is : sector ≡ little_number 8 (drop 8 bytes)

-- what is behind the header was copied, and it is so
pub record HasPayload (old new : Sightings) (buffers : List Buffer) (Is : List ℕ → Type 0) : Type 0 where
  pub payload : List ℕ
  pub copy : AreBytesSeen old new (drop 16 (addresses_of false buffers)) payload
  pub is : Is payload
