-- The operations that began with an event as text, put one after another.
use Rattle.std.specs.Prelude.{◌≡◌, ◌≢◌, ℕ, ◌<◌, Bool, true, false, if◌then◌else◌, Option, None, Some, List, [], ◌∷◌, ◌++◌}
use Rattle.std.specs.Int.{bit_at}
use Rattle.std.specs.List.{flat_map}
use Rattle.block_device.specs.Flights.{InFlight}
use Rattle.board.specs.Slot.{BoardSlot}
use Rattle.trace.specs.Asked.{Begun, begun_field, other_begun, sign_before}
use Rattle.trace.specs.Sends.{Sends}
use Rattle.replay.specs.Running.{tags_of}
use Rattle.replay.specs.Telling.{begun_from}

-- some of them, the first of all or behind others
abbrev pub begun_text : Bool → List Begun → List ℕ
begun_text is_first [] = []
begun_text is_first (one ∷ others) =
    (sign_before is_first ++ begun_field one) ++ flat_map other_begun others

-- the lowest tag was taken out of a set, and these are left
pub record TakesOne (tags tag others : ℕ) : Type 0 where
  pub small : tag < 64
  pub there : bit_at tags tag ≡ 1
  pub lowest : (other : ℕ) → other < tag → bit_at tags other ≡ 0
  pub gone : bit_at others tag ≡ 0
  pub kept : (other : ℕ) → other ≢ tag → bit_at others other ≡ bit_at tags other
  pub fewer : others < tags

abbrev pub is_nil : List Begun → Bool
is_nil [] = true
is_nil (one ∷ others) = false

-- some of them were put, and whether none was put yet is known
pub record PutsBegun (begun : List Begun) (is_first is_none : Bool) (before after waiting waiting' : Option (List ℕ))
    : Type 0 where
  pub sent : Sends before after waiting (begun_text is_first begun) waiting'
  pub none : is_none ≡ (if is_nil begun then is_first else false)

-- those of the further disk that is named, beside what stayed of it
abbrev pub further_from : Option ℕ → List (Option InFlight) → Option BoardSlot → List Begun
further_from None stayed slot = []
further_from (Some n) stayed slot = begun_from (Some n) 0 stayed (tags_of (Some n) slot)
