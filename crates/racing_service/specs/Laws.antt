-- What the laws say of a service: of a guest that stands still, by chain's definitions, and what a look saw of a ring.
use Rattle.std.specs.Prelude.{◌≡◌, false, List, [], ◌∷◌}
use Rattle.guest_memory.specs.Memory.{Memory}
use Rattle.chain.specs.declared.state.RingState.{RingState}
use Rattle.chain.specs.Service.{Device, Kind, Site, IsService, Spent}
use Rattle.split_ring.specs.Ring.{on_offer}
use Rattle.packed_ring.specs.Ring.{is_available}
use Rattle.shared_memory.specs.Sightings.{Sightings, SeenAs, memory}
use Rattle.racing_service.specs.Service.{Round, Standing}

-- where a service stands, by what the memory was seen as last
abbrev pub site_of : {Ring State : Type 0} → Standing Ring State → Site Ring State
site_of a = record { memory = memory a.sightings; ring = a.ring; state = a.state }

-- services one after another: each round is one, which ends where no chain is on offer or none is wanted
abbrev pub AreServices : {Ring State : Type 0} → Kind Ring → Device State → Site Ring State → List (Round Ring State)
    → Site Ring State → Type 0
AreServices kind device a [] b = b ≡ a
AreServices kind device a (r ∷ rounds) b = IsService kind device a (site_of r.after) Spent r.wanted
    × AreServices kind device (site_of r.after) rounds b

-- the available idx (2.7.6) was seen as the place of the next chain, no earlier than old and no later than new
pub record SeesNoHead (old new : Sightings) (ring : RingState) : Type 0 where
  pub where_read : Memory
  pub seen : SeenAs old new where_read
  pub none : on_offer where_read ring ≡ 0

-- the descriptor at the next place was seen, and wasn't available (2.8.1)
pub record SeesNoList (old new : Sightings) (ring : RingState) : Type 0 where
  pub where_read : Memory
  pub seen : SeenAs old new where_read
  pub none : is_available where_read ring ≡ false
