-- Both laws, first of one change, and then of a list of them.
use Rattle.std.proofs.Common.{◌≡◌, ◌∙◌, ◌==◌, sym, refl, ℕ, Bool, true, false, List, [], ◌∷◌, arith, if◌then◌else◌}
use Rattle.std.specs.List.{All}
use Rattle.std.proofs.lemmas.Grind.{common_steps}
use Rattle.std.proofs.lemmas.List.Elements.{All-head, All-tail}
use Rattle.std.proofs.lemmas.Nat.{and_or_apart}
use Rattle.std.specs.Int.RustNames.{bit_and, bit_or}
use Rattle.negotiation.specs.Sets.{has, Has}
use Rattle.negotiation.specs.Status.{features_ok, device_needs_reset, unnamed}
use Rattle.negotiation.specs.Features.{with_feature_word}
use Rattle.negotiation.specs.Negotiation.{NegotiationState, IsSettled, fresh, settable_of, with_needs_reset}
use Rattle.negotiation.specs.History.{Change, StatusWritten, FeaturesWritten, ResetAsked, WasReset, changed, after, is_reset, Keeps}
use Rattle.negotiation.proofs.BitLemmas.{Has-bit_or, Has-self, Has-trans}
use Rattle.negotiation.proofs.StatusLemmas.{settled_after_write}

-- ---- FEATURES_OK is set only for features that are all offered and have VERSION_1

IsSettled-fresh : (offered : ℕ) → IsSettled (fresh offered)
IsSettled-fresh offered =
    record { offered = λ set. omega arith; version_1 = λ set. omega arith; named = refl }

IsSettled-needs_reset : (s : NegotiationState) → IsSettled s → IsSettled (with_needs_reset s)
IsSettled-needs_reset s h =
    let same : bit_and s.status features_ok ≡ bit_and (bit_or s.status device_needs_reset) features_ok =
    sym (and_or_apart features_ok s.status device_needs_reset refl) in
    record {
      offered = λ set. h.offered (same ∙ set);
      version_1 = λ set. h.version_1 (same ∙ set);
      named = and_or_apart unnamed s.status device_needs_reset refl ∙ h.named;
    }

-- the test for FEATURES_OK is right where it says no
unset : (s : NegotiationState) → has s.status features_ok ≡ false → Has s.status features_ok → ⊥
unset s e set = grind (arith, common_steps)

-- a write of the status, by whether its value is 0
settled_by_status : (zero_written : Bool) (s : NegotiationState) (value : ℕ) → IsSettled s
    → IsSettled (if zero_written then fresh s.offered else
    record s { status = bit_or s.status (bit_and value (settable_of s)) })
settled_by_status true s value h = IsSettled-fresh s.offered
settled_by_status false s value h = settled_after_write s value h

-- a write of features, by whether FEATURES_OK is set
settled_by_features : (stands : Bool) (s : NegotiationState) (accepted : ℕ)
    → has s.status features_ok ≡ stands → IsSettled s
    → IsSettled (if stands then s else record s { accepted = accepted })
settled_by_features true s accepted e h = h
settled_by_features false s accepted e h =
    record {
      offered = λ set. absurd (unset s e set);
      version_1 = λ set. absurd (unset s e set);
      named = h.named;
    }

IsSettled-changed : (change : Change) (s : NegotiationState) → IsSettled s → IsSettled (changed change s)
IsSettled-changed (StatusWritten value) s h = settled_by_status (value == 0) s value h
IsSettled-changed (FeaturesWritten selector word) s h =
    settled_by_features (has s.status features_ok) s (with_feature_word selector word s.accepted) refl h
IsSettled-changed ResetAsked s h = IsSettled-needs_reset s h
IsSettled-changed WasReset s h = IsSettled-fresh s.offered

IsSettled-after : (changes : List Change) (s : NegotiationState) → IsSettled s → IsSettled (after changes s)
IsSettled-after [] s h = h
IsSettled-after (change ∷ later) s h = IsSettled-after later (changed change s) (IsSettled-changed change s h)

pub only_offered_features_settle : (offered : ℕ) (changes : List Change)
    → IsSettled (after changes (fresh offered))
only_offered_features_settle offered changes =
    IsSettled-after changes (fresh offered) (IsSettled-fresh offered)

-- ---- only a reset clears

Keeps-self : (s : NegotiationState) → Keeps s s
Keeps-self s = record { status = Has-self s.status; offered = refl; settled = λ set. refl }

Keeps-trans : (a b c : NegotiationState) → Keeps a b → Keeps b c → Keeps a c
Keeps-trans a b c first second = record {
  status = Has-trans c.status b.status a.status second.status first.status;
  offered = second.offered ∙ first.offered;
  settled = λ set. second.settled (Has-trans b.status a.status features_ok first.status set)
      ∙ first.settled set;
}

-- bits are set, and the rest stays
Keeps-bit_or : (s : NegotiationState) (bits : ℕ) → Keeps s (record s { status = bit_or s.status bits })
Keeps-bit_or s bits = record { status = Has-bit_or s.status bits; offered = refl; settled = λ set. refl }

kept_by_status : (zero_written : Bool) (s : NegotiationState) (bits : ℕ) → zero_written ≡ false
    → Keeps s (if zero_written then fresh s.offered else record s { status = bit_or s.status bits })
kept_by_status true s bits e = cc
kept_by_status false s bits e = Keeps-bit_or s bits

kept_by_features : (stands : Bool) (s : NegotiationState) (accepted : ℕ) → has s.status features_ok ≡ stands
    → Keeps s (if stands then s else record s { accepted = accepted })
kept_by_features true s accepted e = Keeps-self s
kept_by_features false s accepted e =
    record { status = Has-self s.status; offered = refl; settled = λ set. absurd (unset s e set) }

Keeps-changed : (change : Change) (s : NegotiationState) → is_reset change ≡ false
    → Keeps s (changed change s)
Keeps-changed (StatusWritten value) s h = kept_by_status (value == 0) s (bit_and value (settable_of s)) h
Keeps-changed (FeaturesWritten selector word) s h =
    kept_by_features (has s.status features_ok) s (with_feature_word selector word s.accepted) refl
Keeps-changed ResetAsked s h = Keeps-bit_or s device_needs_reset
Keeps-changed WasReset s h = cc

pub only_reset_clears : (s : NegotiationState) (changes : List Change)
    → All (λ change. is_reset change ≡ false) changes → Keeps s (after changes s)
only_reset_clears s [] h = Keeps-self s
only_reset_clears s (change ∷ later) h =
    Keeps-trans s (changed change s) (after later (changed change s))
    (Keeps-changed change s (All-head (λ c. is_reset c ≡ false) change later h))
    (only_reset_clears (changed change s) later (All-tail (λ c. is_reset c ≡ false) change later h))
