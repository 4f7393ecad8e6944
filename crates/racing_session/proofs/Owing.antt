-- What is due stays so until it is served, and a service makes no other queue due.
use Rattle.std.proofs.Common.{◌≡◌, ◌∙◌, ℕ, Bool, true, false, List, Result, inl, inr, refl, ap, subst}
use Rattle.std.specs.Prelude.{◌⊎◌}
use Rattle.chain.specs.declared.budget.Progress as chain
use Rattle.chain.specs.declared.budget.Progress.TheVariants as progress
use Rattle.racing_hosted_disk.specs.declared.look.LookLimits.{LookLimits}
use Rattle.racing_guest.specs.declared.reply.GuestQueue.{GuestQueue}
use Rattle.racing_guest.specs.declared.reply.GuestQueue.TheVariants.{Block, Receive, Transmit}
use Rattle.racing_guest.specs.declared.reply.Reply.{Reply}
use Rattle.racing_guest.specs.declared.reply.Reply.TheVariants.{Done, More, Busy, NoMemory}
use Rattle.racing_session.specs.declared.due.Due.{Due}
use Rattle.racing_session.specs.declared.progress.Progress.{Progress}
use Rattle.racing_session.specs.declared.progress.Refusal.{Refusal}
use Rattle.racing_session.specs.Due.{due_after, due_by, is_due, none_due, with_due}
use Rattle.racing_session.specs.Session.{Between, GoesOn, RacingSession, ServesIf}

-- ---- it stays

stays_with : (queue other : GuestQueue) (due : Due) → is_due queue due ≡ true → is_due queue (with_due other due) ≡ true
stays_with Block Block due is = refl
stays_with Block Receive due is = is
stays_with Block Transmit due is = is
stays_with Receive Block due is = is
stays_with Receive Receive due is = refl
stays_with Receive Transmit due is = is
stays_with Transmit Block due is = is
stays_with Transmit Receive due is = is
stays_with Transmit Transmit due is = refl

pub stays_after : (queue : GuestQueue) (reply : Reply) (due : Due) → is_due queue due ≡ true
    → is_due queue (due_after reply due) ≡ true
stays_after queue Done due is = is
stays_after queue (More other) due is = stays_with queue other due is
stays_after queue Busy due is = is
stays_after queue NoMemory due is = stays_with queue Transmit due is

pub stays_by : (queue other : GuestQueue) (so_far : chain.Progress) (due : Due) → is_due queue due ≡ true
    → is_due queue (due_by other so_far due) ≡ true
stays_by queue other progress.Done due is = is
stays_by queue other progress.More due is = stays_with queue other due is

-- ---- a service that was due

only : (queue other : GuestQueue) (due : Due) → is_due queue (with_due other due) ≡ true
    → (is_due queue due ≡ true) ⊎ (queue ≡ other)
only Block Block due is = inr refl
only Block Receive due is = inl is
only Block Transmit due is = inl is
only Receive Block due is = inl is
only Receive Receive due is = inr refl
only Receive Transmit due is = inl is
only Transmit Block due is = inl is
only Transmit Receive due is = inl is
only Transmit Transmit due is = inr refl

none : (queue : GuestQueue) → is_due queue none_due ≡ false
none Block = refl
none Receive = refl
none Transmit = refl

-- it leaves its own queue due, or none
left : (was : Bool) (limits : LookLimits) (limit : ℕ) (served queue : GuestQueue) (before after : Between) (reply : Reply)
    (due : Due) → ServesIf was limits limit served before after reply → is_due queue (due_after reply due) ≡ true
    → (is_due queue due ≡ true) ⊎ ((queue ≡ served) × (was ≡ true))
left false limits limit served queue before after reply due serves is =
    inl (subst (λ r. is_due queue (due_after r due) ≡ true) serves.1 is)
left true limits limit served queue before after Done due serves is = inl is
left true limits limit served queue before after (More other) due serves is =
    by (only queue other due is)
  where
    by : (is_due queue due ≡ true) ⊎ (queue ≡ other) → (is_due queue due ≡ true) ⊎ ((queue ≡ served) × (true ≡ true))
    by (inl here) = inl here
    by (inr here) = inr (here ∙ serves.0, refl)
left true limits limit served queue before after Busy due serves is = absurd serves
left true limits limit Block queue before after NoMemory due serves is = absurd serves
left true limits limit Receive queue before after NoMemory due serves is = absurd serves
left true limits limit Transmit queue before after NoMemory due serves is =
    by (only queue Transmit due is)
  where
    by : (is_due queue due ≡ true) ⊎ (queue ≡ Transmit) → (is_due queue due ≡ true) ⊎ ((queue ≡ Transmit) × (true ≡ true))
    by (inl here) = inl here
    by (inr here) = inr (here, refl)

was_due : (queue served : GuestQueue) (due : Due) → (queue ≡ served) × (is_due served due ≡ true) → is_due queue due ≡ true
was_due queue served due is = ap (λ q. is_due q due) is.0 ∙ is.1

pub no_other : (queue : GuestQueue) (stood : List ℕ) (old new : RacingSession) (answer : Result Progress Refusal)
    → GoesOn stood old new answer
    → is_due queue new.due ≡ true → is_due queue old.due ≡ true
no_other queue stood old new answer goes is =
    third (left old.due.transmit old.limits old.output.limit Transmit queue _ _ goes.reply_transmit second_due goes.transmit
    (subst (λ (s : RacingSession). is_due queue s.due ≡ true) goes.rest is))
  where
    first_due : Due
    first_due = due_after goes.reply_block none_due

    second_due : Due
    second_due = due_after goes.reply_receive first_due

    first : (is_due queue none_due ≡ true) ⊎ ((queue ≡ Block) × (old.due.block ≡ true)) → is_due queue old.due ≡ true
    first (inl here) = absurd (cc (here, none queue))
    first (inr here) = was_due queue Block old.due here

    second : (is_due queue first_due ≡ true) ⊎ ((queue ≡ Receive) × (old.due.receive ≡ true)) → is_due queue old.due ≡ true
    second (inl here) =
        first (left old.due.block old.limits old.output.limit Block queue _ _ goes.reply_block none_due goes.block here)
    second (inr here) = was_due queue Receive old.due here

    third : (is_due queue second_due ≡ true) ⊎ ((queue ≡ Transmit) × (old.due.transmit ≡ true)) → is_due queue old.due ≡ true
    third (inl here) =
        second (left old.due.receive old.limits old.output.limit Receive queue _ _ goes.reply_receive first_due goes.receive
        here)
    third (inr here) = was_due queue Transmit old.due here
