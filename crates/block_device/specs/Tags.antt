-- Operations in flight of one disk, each in a tag of its own. How many tags there are was chosen as the disk was made.
use Rattle.std.specs.Prelude.{ℕ, suc, ◌+◌, ◌*◌, ◌<◌, ⊤, Bool, Option, Some, None, is_some, List, [], ◌∷◌, map}
use Rattle.std.specs.List.{list_any}
use Rattle.std.specs.Option.{option_map}
use Rattle.guest_memory.specs.Memory.{Memory, Inside}
use Rattle.chain.specs.declared.segment.Segment.{Segment}
use Rattle.block_device.specs.declared.operation.Operation.{Operation}
use Rattle.block_device.specs.Operation.{LiesInside}
use Rattle.block_device.specs.declared.hosting.Flight.{Flight}

-- a chain in flight, and the runs of its operation; T is what its queue gives it back by
pub record InFlight (T : Type 0) : Type 0 where
  pub flight : Flight T
  pub runs : List Segment

-- the chain in flight, the runs of whose operation stand in its tag's room
abbrev pub in_room : {T : Type 0} → Option (Flight T) → List Segment → Option (InFlight T)
in_room None runs = None
in_room (Some flight) runs = Some (record { flight = flight; runs = runs })

-- ---- which tags are taken

-- the lowest free one
abbrev pub free_tag : {A : Type 0} → List (Option A) → Option ℕ
free_tag [] = None
free_tag (None ∷ tags) = Some 0
free_tag (Some here ∷ tags) = option_map suc (free_tag tags)

-- the tags in flight as a set of bits: bit n is set where tag n is taken
abbrev pub taken_bits : {A : Type 0} → List (Option A) → ℕ
taken_bits [] = 0
taken_bits (None ∷ tags) = 2 * taken_bits tags
taken_bits (Some here ∷ tags) = 1 + 2 * taken_bits tags

-- whether anything is in flight
abbrev pub is_any : {A : Type 0} → List (Option A) → Bool
is_any tags = list_any is_some tags

-- so many free tags
abbrev pub freed : {A : Type 0} → List (Option A) → List (Option A)
freed tags = map (λ tag. None) tags

-- ---- what is in a tag

abbrev pub flight_in : {T : Type 0} → Option (InFlight T) → Option (Flight T)
flight_in None = None
flight_in (Some here) = Some here.flight

-- what the host is asked to do by this tag, and where its bytes lie
abbrev pub operation_in : {T : Type 0} → Option (InFlight T) → Option Operation
operation_in None = None
operation_in (Some here) = Some here.flight.operation

abbrev pub runs_in : {T : Type 0} → Option (InFlight T) → List Segment
runs_in None = []
runs_in (Some here) = here.runs

abbrev pub token_in : {T : Type 0} → Option (InFlight T) → Option T
token_in None = None
token_in (Some here) = Some here.flight.token

abbrev pub tokens_of : {T : Type 0} → List (Option (InFlight T)) → List (Option T)
tokens_of tags = map token_in tags

-- ---- what holds of it between two calls

-- The chain's status has a place in the memory, and nothing that the host is told lies outside the guest's memory or its
-- disk of so many sectors.
pub record IsHeld {T : Type 0} (capacity : ℕ) (m : Memory) (here : InFlight T) : Type 0 where
  pub status : Inside m here.flight.status 1
  pub some : 0 < here.flight.writable
  pub inside : LiesInside capacity m here.flight.operation here.runs

abbrev pub TagIsHeld : {T : Type 0} → ℕ → Memory → Option (InFlight T) → Type 0
TagIsHeld capacity m None = ⊤
TagIsHeld capacity m (Some here) = IsHeld capacity m here
