-- What may happen to a negotiation, one after another, and what holds whatever happens.
use Rattle.std.specs.Prelude.{◌≡◌, ◌==◌, true, false, ℕ, Bool, List, [], ◌∷◌, All}
use Rattle.negotiation.specs.Sets.{Has}
use Rattle.negotiation.specs.Status.{features_ok}
use Rattle.negotiation.specs.Negotiation.{NegotiationState, IsSettled, fresh, with_status_written, with_features_written, with_needs_reset}

-- the driver writes the status or a word of features, the device asks for a reset, or it is reset
pub data Change : Type 0 where
  StatusWritten : ℕ → Change
  FeaturesWritten : ℕ → ℕ → Change
  ResetAsked : Change
  WasReset : Change

-- the state after a change
abbrev pub changed : Change → NegotiationState → NegotiationState
changed (StatusWritten value) s = with_status_written value s
changed (FeaturesWritten selector word) s = with_features_written selector word s
changed ResetAsked s = with_needs_reset s
changed WasReset s = fresh s.offered

-- the state after a list of changes
abbrev pub after : List Change → NegotiationState → NegotiationState
after [] s = s
after (change ∷ later) s = after later (changed change s)

-- whether a change is a reset, which a write of 0 to the status is too
abbrev pub is_reset : Change → Bool
is_reset (StatusWritten value) = value == 0
is_reset (FeaturesWritten selector word) = false
is_reset ResetAsked = false
is_reset WasReset = true

-- from one state to another each status bit that was set still is, the same features are offered, and
-- features that were settled are the same
pub record Keeps (old new : NegotiationState) : Type 0 where
  pub status : Has new.status old.status
  pub offered : new.offered ≡ old.offered
  pub settled : Has old.status features_ok → new.accepted ≡ old.accepted

-- whatever happens after reset, FEATURES_OK is set only for features that are all offered and have VERSION_1
abbrev pub OnlyOfferedFeaturesSettle : Type 0
OnlyOfferedFeaturesSettle = (offered : ℕ) (changes : List Change) → IsSettled (after changes (fresh offered))

-- whatever happens but a reset, no status bit is cleared and settled features stay
abbrev pub OnlyResetClears : Type 0
OnlyResetClears =
    (s : NegotiationState) (changes : List Change) → All (λ change. is_reset change ≡ false) changes
    → Keeps s (after changes s)
