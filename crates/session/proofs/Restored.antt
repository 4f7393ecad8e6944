-- A restore of a slot of which nothing is paused, as the step and the call of its event.
use Rattle.std.proofs.Common.{◌≡◌, ℕ, ◌≤◌, List, [], length, None, Result, Ok, Err, ◌↔◌, refl, subst}
use Rattle.std.specs.Prelude.{IsErrOf}
use Rattle.board.specs.declared.event.EventKind.TheVariants.{Restore}
use Rattle.board.specs.declared.reply.Reply.TheVariants as reply
use Rattle.board.specs.declared.saved.RestoreRefusal.{RestoreRefusal}
use Rattle.board.specs.declared.saved.RestoreRefusal.TheVariants as refusal
use Rattle.board.specs.Restoring.{restore_reply}
use Rattle.board.specs.World.{Answers, KeepsOthers, extents_of}
use Rattle.board.proofs.Hosts.{restore_answered}
use Rattle.session.specs.declared.response.Response.{Response}
use Rattle.session.specs.declared.response.Response.TheVariants.{Answered}
use Rattle.session.specs.Pausing.{IsEventCall}
use Rattle.session.specs.Restoring.{restore_response}
use Rattle.session.specs.Session.{IsIdle, SessionState, world_of}
use Rattle.session.proofs.Exact.{step_call}
use Rattle.session.proofs.Slots.{slots_step}

-- where nothing is paused it is answered what the board's is
restore_told : (A : Type 0) (r : Result (Unit {0}) RestoreRefusal)
    → Answered (restore_reply r) ≡ restore_response {A = A} None r
restore_told A (Ok done) = refl
restore_told A (Err refusal.BadSlot) = refl
restore_told A (Err refusal.Busy) = refl
restore_told A (Err (refusal.Fault why)) = refl

-- it is never refused for a range
never_range : (A : Type 0) (r : Result (Unit {0}) RestoreRefusal) → restore_reply {A = A} r ≡ reply.BadRange → ⊥
never_range A (Ok done) is = cc (is)
never_range A (Err refusal.BadSlot) is = cc (is)
never_range A (Err refusal.Busy) is = cc (is)
never_range A (Err (refusal.Fault why)) is = cc (is)

-- and a slot that isn't there is told by its own answer
missing_by : (A : Type 0) (P : Type 0) (r : Result (Unit {0}) RestoreRefusal)
    → IsErrOf r refusal.BadSlot ↔ P → (restore_reply {A = A} r ≡ reply.BadSlot) ↔ P
missing_by A P (Ok done) missing = (λ is. absurd (cc (is)), λ p. let never = missing.1 p in absurd (cc (never)))
missing_by A P (Err refusal.BadSlot) missing = (λ is. missing.0 refl, λ p. refl)
missing_by A P (Err refusal.Busy) missing =
    (λ is. absurd (cc (is)), λ p. let never = missing.1 p in absurd (cc (never)))
missing_by A P (Err (refusal.Fault why)) missing =
    (λ is. absurd (cc (is)), λ p. let never = missing.1 p in absurd (cc (never)))

module _ (A : Type 0) (old new : SessionState) (slot : ℕ) (bytes : List ℕ) (r : Result (Unit {0}) RestoreRefusal)
    (answers : Answers {A = A} (world_of old) (record { slot = slot; what = Restore bytes }) (restore_reply r) [] []
    (world_of new)) (others : KeepsOthers slot old.slots new.slots)
    (extents : extents_of new.slots ≡ extents_of old.slots) (rest : new ≡ record old { slots = new.slots })
    (missing : IsErrOf r refusal.BadSlot ↔ (length old.slots ≤ slot)) where
  pub restored : IsIdle slot old → length old.paused ≡ length old.slots
      → IsEventCall {A = A} old slot (Restore bytes) (restore_response None r) new
  restored idle many =
      subst (λ (told : Response A). IsEventCall {A = A} old slot (Restore bytes) told new) (restore_told A r)
      (step_call old new slot (Restore bytes) (restore_reply r) many idle (λ state. refl)
      (slots_step old new (record { slot = slot; what = Restore bytes }) (restore_reply r) answers others extents rest
      (λ limit found after waiting left reply. tt) (restore_answered A r) (never_range A r)
      (missing_by A _ r missing)))
