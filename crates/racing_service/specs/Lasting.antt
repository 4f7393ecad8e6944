-- Chains in flight last in both kinds of racing ring.
use Rattle.std.specs.Prelude.{ℕ, ◌<◌, ◌≤◌, Bool, true, false}
use Rattle.std.proofs.Common.{refl, sym, subst}
use Rattle.guest_memory.specs.Memory.{SameRange}
use Rattle.guest_memory.proofs.Ranges.{same_trans}
use Rattle.chain.specs.declared.state.RingState.{RingState}
use Rattle.split_ring.specs.Kind as split
use Rattle.split_ring.specs.declared.ring.Token as split_tokens
use Rattle.packed_ring.specs.Kind as packed
use Rattle.packed_ring.specs.declared.ring.Token as packed_tokens
use Rattle.shared_memory.specs.Sightings.{Sightings, memory}
use Rattle.shared_memory.proofs.Sightings.{loads_range, same_self, stores_range}
use Rattle.racing_ring.specs.Split as racing
use Rattle.racing_ring.specs.Packed as racing_lists
use Rattle.racing_service.specs.Flights.{FlightLaws}
use Rattle.racing_service.specs.Queue.{racing_packed, racing_split}

-- any head is one of a split ring
abbrev pub SplitFits : RingState → split_tokens.Token → Type 0
SplitFits ring token = Unit {0}

-- a list has a descriptor at least, and not more than the ring
abbrev pub PackedFits : RingState → packed_tokens.Token → Type 0
PackedFits ring token = (0 < token.length) × (token.length ≤ ring.setup.size)

abbrev pub places_ahead : RingState → ℕ
places_ahead ring = ring.ahead

split_given : (races : Bool) (old new : Sightings) (ring : RingState) (head len : ℕ)
    → racing.IsGiven races old new ring head len → SameRange (memory old) (memory new)
split_given races old new ring head len g =
    same_trans (memory old) (memory g.between) (memory new) (stores_range races old g.between _ _ _ g.entry)
    (stores_range races g.between new _ _ _ g.idx)

event_range : (event_idx races : Bool) (old new : Sightings) (ring : RingState)
    → racing.StoresEvent event_idx races old new ring → SameRange (memory old) (memory new)
event_range false races old new ring s =
    subst (λ (l : Sightings). SameRange (memory old) (memory l)) (sym s) (same_self (memory old))
event_range true races old new ring s = stores_range races old new _ _ _ s

split_closed : (races : Bool) (old new : Sightings) (ring : RingState) (wanted : Bool)
    → racing.IsClosed races old new ring wanted → SameRange (memory old) (memory new)
split_closed races old new ring wanted c =
    let closing = c.closing in
    same_trans (memory old) (memory closing.flagged) (memory new)
    (stores_range races old closing.flagged _ _ _ closing.flags)
    (same_trans (memory closing.flagged) (memory c.written) (memory new)
    (event_range ring.setup.event_idx races closing.flagged c.written ring closing.event)
    (loads_range races c.written new c.reads))

packed_given : (races : Bool) (old new : Sightings) (ring : RingState) (id len : ℕ) (wrote : Bool)
    → racing_lists.IsGiven races old new ring id len wrote → SameRange (memory old) (memory new)
packed_given races old new ring id len wrote g = stores_range races old new _ _ _ g.at_once

packed_closed : (races : Bool) (old new : Sightings) (ring : RingState) (wanted : Bool)
    → racing_lists.IsClosed races old new ring wanted → SameRange (memory old) (memory new)
packed_closed races old new ring wanted c =
    same_trans (memory old) (memory c.written) (memory new) (stores_range races old c.written _ _ _ c.closing)
    (loads_range races c.written new c.reads)

pub split_lasts : FlightLaws racing_split (λ (token : split_tokens.Token). split.entry_of token.head)
    split.IsAhead SplitFits places_ahead
split_lasts = record {
  opened = λ m ring. record { fits = λ token. (λ f. f, λ f. f); ahead = refl };
  past = λ ring entry. record { fits = λ token. (λ f. f, λ f. f); ahead = refl };
  stopped = λ ring. record { fits = λ token. (λ f. f, λ f. f); ahead = refl };
  shut = λ ring. record { fits = λ token. (λ f. f, λ f. f); ahead = refl };
  ahead_fits = λ ring token ahead. tt;
  launched_fits = λ ring entry token f. f;
  launched_ahead = λ ring token f. refl;
  landed_fits = λ ring entry token f. f;
  landed_ahead = λ ring token f. refl;
  is_ahead = λ ring token f some. record { some = some };
  given_range = λ races old new ring entry len wrote g. split_given races old new ring entry.id len g.1;
  closed_range = split_closed;
}

pub packed_lasts : FlightLaws racing_packed
    (λ (token : packed_tokens.Token). packed.entry_of token.id token.length) packed.IsAhead PackedFits
    places_ahead
packed_lasts = record {
  opened = λ m ring. record { fits = λ token. (λ f. f, λ f. f); ahead = refl };
  past = λ ring entry. record { fits = λ token. (λ f. f, λ f. f); ahead = refl };
  stopped = λ ring. record { fits = λ token. (λ f. f, λ f. f); ahead = refl };
  shut = λ ring. record { fits = λ token. (λ f. f, λ f. f); ahead = refl };
  ahead_fits = λ ring token ahead. (ahead.least, ahead.most);
  launched_fits = λ ring entry token f. f;
  launched_ahead = λ ring token f. refl;
  landed_fits = λ ring entry token f. f;
  landed_ahead = λ ring token f. refl;
  is_ahead = λ ring token f some. record { least = f.0; most = f.1; some = some };
  given_range = λ races old new ring entry len wrote g. packed_given races old new ring entry.id len wrote g;
  closed_range = packed_closed;
}
