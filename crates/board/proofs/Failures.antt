-- The number of the image's failures never falls in an event of a slot.
use Rattle.std.proofs.Common.{◌≡◌, inl, inr, ◌≤◌, ap, arith}
use Rattle.board.specs.declared.event.EventKind.{EventKind}
use Rattle.board.specs.Image.{Health}
use Rattle.board.specs.Outcome.{Outcome}
use Rattle.board.specs.Slot.{SlotState}
use Rattle.board.specs.World.{MayGive, MayGiveOverImage}
use Rattle.board.proofs.OnHost.{failing_over_image}
use Rattle.board.proofs.Refusals.{Failed, FailedImage, Unput, Unread, Unsent, was_refused}

same_failures : (old new : Health) → new ≡ old → old.failures ≤ new.failures
same_failures old new same = let is : new.failures ≡ old.failures = ap (λ (h : Health). h.failures) same in
    omega arith

over_image_failures : {A : Type 0} (state : SlotState) (what : EventKind A) (old new : Health)
    (outcome : Outcome A) → MayGiveOverImage state what old new outcome → old.failures ≤ new.failures
over_image_failures state what old new outcome (inl served) = let same : new.failures ≡ old.failures =
    served.failures in omega arith
over_image_failures state what old new outcome (inr refused) =
    elim (was_refused state what old new outcome refused) [
      | Failed block h ↦ omega (arith, h.failures)
      | FailedImage n disk asked is by h ↦ omega (arith, h.failures)
      | Unsent console puts h ↦ same_failures old new h.image
      | Unput console puts h ↦ same_failures old new h.image
      | Unread is h ↦ same_failures old new h.image
    ]

pub given_failures : {A : Type 0} (state : SlotState) (what : EventKind A) (old new : Health)
    (outcome : Outcome A) → MayGive state what old new outcome → old.failures ≤ new.failures
given_failures state what old new outcome h =
    elim (failing_over_image state what old new outcome h) [
      | inl given ↦ over_image_failures state what old new outcome given
      | inr same ↦ same_failures old new same
    ]
