-- What a device and its driver settle before the device works: the device status (2.1) and the features
-- (2.2), in the order that a driver's initialization has (3.1.1).
use Rattle.std.specs.Prelude.{◌≡◌, ◌&&◌, ◌||◌, ◌==◌, ◌+◌, if◌then◌else◌, not, ℕ, Bool, Option, Some, None}
use Rattle.std.specs.Int.RustNames.{bit_and, bit_or}
use Rattle.negotiation.specs.declared.features.Features.{Features}
use Rattle.negotiation.specs.declared.status.Status.{Status}
use Rattle.negotiation.specs.Features.{feature_bits, version_1, with_feature_word}
use Rattle.negotiation.specs.Sets.{has, lacks, Has}
use Rattle.negotiation.specs.Status.{status_bits, acknowledge, driver, driver_ok, features_ok, device_needs_reset, failed, unnamed}

-- the device status, the features that the device offers, and those that the driver accepts
pub record NegotiationState : Type 0 where
  pub status : ℕ
  pub offered : ℕ
  pub accepted : ℕ

-- the same three as a program keeps them
abbrev pub state_of : Status → Features → Features → NegotiationState
state_of status offered accepted =
    record { status = status_bits status; offered = feature_bits offered; accepted = feature_bits accepted }

-- after reset no status bit is set and no feature is accepted (2.4.1)
abbrev pub fresh : ℕ → NegotiationState
fresh offered = record { status = 0; offered = offered; accepted = 0 }

-- whether the device can work with the features that the driver accepts: it offers each of them, and
-- VERSION_1 is among them (2.2.2, 6.2)
abbrev pub is_acceptable : NegotiationState → Bool
is_acceptable s = has s.offered s.accepted && has s.accepted version_1

-- the bits that a write to the status may set: all that are the driver's, but FEATURES_OK only where the
-- device can work with the accepted features (2.1.1, 3.1.1)
abbrev pub settable_of : NegotiationState → ℕ
settable_of s = acknowledge + driver + driver_ok + failed + (if is_acceptable s then features_ok else 0)

-- a write to the status: 0 resets, and any other value sets those of its bits that may be set, and clears
-- none (2.1.1, 4.2.2)
abbrev pub with_status_written : ℕ → NegotiationState → NegotiationState
with_status_written value s =
    if value == 0 then fresh s.offered
    else record s { status = bit_or s.status (bit_and value (settable_of s)) }

-- a write of one word of the accepted features, which does nothing once FEATURES_OK is set (3.1.1)
abbrev pub with_features_written : ℕ → ℕ → NegotiationState → NegotiationState
with_features_written selector word s =
    if has s.status features_ok then s
    else record s { accepted = with_feature_word selector word s.accepted }

-- the device asks to be reset (2.1.2)
abbrev pub with_needs_reset : NegotiationState → NegotiationState
with_needs_reset s = record s { status = bit_or s.status device_needs_reset }

-- the features that both sides go by: those accepted once FEATURES_OK is set, and none before
abbrev pub negotiated_of : NegotiationState → ℕ
negotiated_of s = if has s.status features_ok then s.accepted else 0

-- whether the device may consume buffers: the driver is ready, the features are settled, and neither side
-- has given up (2.1.2)
abbrev pub is_live : NegotiationState → Bool
is_live s =
    has s.status driver_ok && has s.status features_ok && lacks s.status failed
    && lacks s.status device_needs_reset

-- FEATURES_OK is set only for features that are all offered and have VERSION_1 (2.2.2, 6.2), and each bit of
-- the status that is set has a name (2.1)
pub record IsSettled (s : NegotiationState) : Type 0 where
  pub offered : Has s.status features_ok → Has s.offered s.accepted
  pub version_1 : Has s.status features_ok → Has s.accepted version_1
  pub named : bit_and s.status unnamed ≡ 0

-- whether status and features may stand so
abbrev pub can_stand : NegotiationState → Bool
can_stand s = lacks s.status unnamed && (not (has s.status features_ok) || is_acceptable s)

-- status and features as they stand, if they may
abbrev pub standing : NegotiationState → Option NegotiationState
standing s = if can_stand s then Some s else None
