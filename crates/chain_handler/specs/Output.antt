-- Bytes of a chain that go out.
use Rattle.std.specs.Prelude.{◌≡◌, ℕ, List, ◌++◌}
use Rattle.shared_memory.specs.Bytes.{AreBytesSeen}
use Rattle.shared_memory.specs.Sightings.{Sightings}

-- A byte for each of these addresses went out, in their order, behind what stood there before. Each stood at its address at
-- some access.
pub record IsPutOut (old new : Sightings) (addrs before after : List ℕ) : Type 0 where
  pub bytes : List ℕ
  pub seen : AreBytesSeen old new addrs bytes
  pub out : after ≡ before ++ bytes
