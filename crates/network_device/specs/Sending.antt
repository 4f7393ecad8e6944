-- The frame of a chain that goes out, whose guest may write meanwhile (5.1.6.2).
use Rattle.std.specs.Prelude.{◌≡◌, ℕ, false, List, [], ◌∷◌, ◌++◌, drop}
use Rattle.chain.specs.declared.segment.Buffer.{Buffer}
use Rattle.chain.specs.Bytes.{addresses_of}
use Rattle.shared_memory.specs.Sightings.{Sightings}
use Rattle.shared_memory.specs.Bytes.{AreBytesSeen}
use Rattle.network_device.specs.Header.{header_len}

-- It is what stands behind the header, each byte as it was read once.
pub record IsSent (old new : Sightings) (buffers : List Buffer) (frames more : List (List ℕ)) : Type 0 where
  pub frame : List ℕ
  pub seen : AreBytesSeen old new (drop header_len (addresses_of false buffers)) frame
  pub sent : more ≡ frames ++ frame ∷ []
