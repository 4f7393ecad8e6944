-- What a write to the status keeps.
use Rattle.std.proofs.Common.{◌≡◌, ◌∙◌, ◌+◌, ◌==◌, ◌&&◌, sym, refl, ℕ, Bool, true, false, IsTrue, arith, if◌then◌else◌}
use Rattle.std.proofs.lemmas.Grind.{common_steps}
use Rattle.std.proofs.lemmas.Nat.{and_assoc}
use Rattle.std.proofs.lemmas.Bool.{eqb-true}
use Rattle.std.specs.Int.RustNames.{bit_and, bit_or}
use Rattle.negotiation.specs.Sets.{has, Has}
use Rattle.negotiation.specs.Status.{features_ok, unnamed}
use Rattle.negotiation.specs.Features.{version_1}
use Rattle.negotiation.specs.Negotiation.{NegotiationState, IsSettled, is_acceptable, settable_of}
use Rattle.negotiation.proofs.BitLemmas.{bit_and-bit_or-masked}

-- the bits that may be set, by whether the features are acceptable
abbrev settable_if : Bool → ℕ
settable_if b = 135 + (if b then 8 else 0)

-- of a written value only the low eight bits count: all that may be set are among them
pub with_features_ok : (value : ℕ) → bit_and (bit_and value 255) 143 ≡ bit_and value 143
with_features_ok value = and_assoc 143 value 255

pub without_features_ok : (value : ℕ) → bit_and (bit_and value 255) 135 ≡ bit_and value 135
without_features_ok value = and_assoc 135 value 255

pub ruleset low_bits = (with_features_ok, without_features_ok)

-- a test of equal numbers
eqb_from : (m n : ℕ) → m ≡ n → (m == n) ≡ true
eqb_from m n e = grind (arith, common_steps)

-- FEATURES_OK is set after a write only where it was before, or the features are acceptable
may_stand : (status value : ℕ) (a b : Bool)
    → (Has status features_ok → (IsTrue a) × (IsTrue b))
    → Has (bit_or status (bit_and value (settable_if (a && b)))) features_ok
    → (IsTrue a) × (IsTrue b)
may_stand status value true true before after = (refl, refl)
may_stand status value true false before after =
    before (sym (bit_and-bit_or-masked 8 135 status value refl) ∙ after)
may_stand status value false b before after =
    before (sym (bit_and-bit_or-masked 8 135 status value refl) ∙ after)

-- no bit without a name may be set
settable_named : (b : Bool) → bit_and (settable_if b) unnamed ≡ 0
settable_named true = refl
settable_named false = refl

-- a write to the status leaves the features settled
pub settled_after_write : (s : NegotiationState) (value : ℕ) → IsSettled s
    → IsSettled (record s { status = bit_or s.status (bit_and value (settable_of s)) })
settled_after_write s value h =
    let tests : Has s.status features_ok → (IsTrue (has s.offered s.accepted))
    × (IsTrue (has s.accepted version_1))
    = λ set. (eqb_from _ _ (h.offered set), eqb_from _ _ (h.version_1 set)) in
    let stands = may_stand s.status value (has s.offered s.accepted) (has s.accepted version_1) tests in
    record {
      offered = λ set. eqb-true _ _ (stands set).0;
      version_1 = λ set. eqb-true _ _ (stands set).1;
      named = bit_and-bit_or-masked unnamed (settable_of s) s.status value (settable_named (is_acceptable s))
          ∙ h.named;
    }

-- the same, of the numbers that a write gives one after another
pub settled_by_write : (status offered accepted value written new : ℕ) (s : NegotiationState)
    → s ≡ record { status = status; offered = offered; accepted = accepted }
    → IsSettled (record { status = status; offered = offered; accepted = accepted })
    → written ≡ bit_and value (settable_of s) → new ≡ bit_or status written
    → IsSettled (record { status = new; offered = offered; accepted = accepted })
settled_by_write status offered accepted value written new s is settled masked set =
    rw (set, masked, is) (settled_after_write
    (record { status = status; offered = offered; accepted = accepted }) value settled)
