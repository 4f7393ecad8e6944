-- Chains of a queue that are in flight, each with a tag of its own (2.7.8, 2.8.2): they are given back in any order, while
-- the queue is served further.
use Rattle.std.specs.Prelude.{◌≡◌, ◌↔◌, ℕ, ◌+◌, ◌-◌, ◌≤◌, ⊤, Bool, Option, Some, None, List, All, sum_by}
use Rattle.guest_memory.specs.Memory.{Memory, SameRange}
use Rattle.chain.specs.Service.{Entry}
use Rattle.shared_memory.specs.Sightings.{Sightings, memory}
use Rattle.racing_service.specs.Queue.{RacingKind}

-- a tag is free, or the queue may have the chain that its token names
abbrev pub TagFits : {Ring Token : Type 0} → (Ring → Token → Type 0) → Ring → Option Token → Type 0
TagFits Fits queue None = ⊤
TagFits Fits queue (Some token) = Fits queue token

-- how many places the chain of a tag takes
abbrev pub tag_places : {Token : Type 0} → (Token → Entry) → Option Token → ℕ
tag_places entry_of None = 0
tag_places entry_of (Some token) = (entry_of token).places

-- The chains of these tags are in flight: their places lie between the next used entry and the next chain.
pub record AreAhead {Ring Token : Type 0} (entry_of : Token → Entry) (Fits : Ring → Token → Type 0) (ahead_of : Ring → ℕ)
    (queue : Ring) (tags : List (Option Token)) : Type 0 where
  pub each : All (TagFits Fits queue) tags
  pub places : sum_by (tag_places entry_of) tags ≤ ahead_of queue

-- a queue may have the chains that it might have before, no others, and its next chain is as many places ahead
pub record Stays {Ring Token : Type 0} (Fits : Ring → Token → Type 0) (ahead_of : Ring → ℕ) (old new : Ring) : Type 0 where
  pub fits : (token : Token) → Fits old token ↔ Fits new token
  pub ahead : ahead_of new ≡ ahead_of old

-- What a kind of queue has to be for that: only a launch puts a chain in flight, only a landing takes one back, and what is
-- stored leaves the memory's range.
pub record FlightLaws {Ring Token : Type 0} (kind : RacingKind Ring) (entry_of : Token → Entry)
    (IsAhead Fits : Ring → Token → Type 0) (ahead_of : Ring → ℕ) : Type 0 where
  pub opened : (m : Memory) (queue : Ring) → Stays Fits ahead_of queue (kind.still.opened m queue)
  pub past : (queue : Ring) (entry : Entry) → Stays Fits ahead_of queue (kind.still.past queue entry)
  pub stopped : (queue : Ring) → Stays Fits ahead_of queue (kind.still.stopped queue)
  pub shut : (queue : Ring) → Stays Fits ahead_of queue (kind.still.shut queue)
  pub ahead_fits : (queue : Ring) (token : Token) → IsAhead queue token → Fits queue token
  pub launched_fits : (queue : Ring) (entry : Entry) (token : Token) → Fits queue token
      → Fits (kind.still.launched queue entry) token
  pub launched_ahead : (queue : Ring) (token : Token) → Fits (kind.still.launched queue (entry_of token)) token
      → ahead_of (kind.still.launched queue (entry_of token)) ≡ ahead_of queue + (entry_of token).places
  pub landed_fits : (queue : Ring) (entry : Entry) (token : Token) → Fits queue token
      → Fits (kind.still.landed queue entry) token
  pub landed_ahead : (queue : Ring) (token : Token) → Fits queue token
      → ahead_of (kind.still.landed queue (entry_of token)) ≡ ahead_of queue - (entry_of token).places
  pub is_ahead : (queue : Ring) (token : Token) → Fits queue token → (entry_of token).places ≤ ahead_of queue
      → IsAhead queue token
  pub given_range : (races : Bool) (old new : Sightings) (queue : Ring) (entry : Entry) (len : ℕ) (wrote : Bool)
      → kind.IsGiven races old new queue entry len wrote → SameRange (memory old) (memory new)
  pub closed_range : (races : Bool) (old new : Sightings) (queue : Ring) (wanted : Bool)
      → kind.IsClosed races old new queue wanted → SameRange (memory old) (memory new)
