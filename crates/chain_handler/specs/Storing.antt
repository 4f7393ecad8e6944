-- What a device writes in the places of a chain, in whatever parts.
use Rattle.std.specs.Prelude.{ℕ, Bool, Option, List}
use Rattle.shared_memory.specs.Sightings.{Sightings}
use Rattle.chain_handler.specs.Device.{Part, StoresParts}

-- what is written at these addresses was stored in some parts, as `DoesRaced` asks of a device
pub record StoresSome (races : Bool) (old new : Sightings) (addrs : List ℕ) (written : List (Option ℕ)) : Type 0 where
  pub parts : List Part
  pub stores : StoresParts races old parts new addrs written
