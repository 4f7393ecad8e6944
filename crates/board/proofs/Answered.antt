-- An event without a budget is answered: what the board handles is the turn that it takes.
use Rattle.std.proofs.Common.{◌≡◌, ◌≢◌, if◌then◌else◌, inl, inr, Bool, true, false, ℕ, Some, None, List, refl, sym, subst, ◌∙◌}
use Rattle.chain.specs.declared.budget.Budget.{Budget}
use Rattle.chain.specs.declared.budget.Progress.TheVariants as progress
use Rattle.chain.specs.Service.{Ending, Refused}
use Rattle.board.specs.declared.event.SlotWindow.{SlotWindow}
use Rattle.mmio_window.specs.declared.stage.Stage.TheVariants.{First}
use Rattle.mmio_window.specs.Serving.{Notified}
use Rattle.mmio_window.specs.Window.{queue_at}
use Rattle.mmio_window.proofs.Pieces.{notified_once}
use Rattle.mmio_window.proofs.Services.{notified_as, notified_not_refused}
use Rattle.console_device.specs.Device.{transmit_fitting, transmit_within}
use Rattle.console_device.proofs.Pieces.{fitting_within}
use Rattle.board.specs.declared.event.Event.{Event}
use Rattle.board.specs.declared.event.EventKind.{EventKind}
use Rattle.board.specs.declared.event.EventKind.TheVariants.{Write}
use Rattle.board.specs.declared.pause.Service.TheVariants.{Transmit}
use Rattle.board.specs.declared.pause.Turn.TheVariants.{Answered}
use Rattle.board.specs.declared.reply.Reply.{Reply}
use Rattle.board.specs.declared.reply.Reply.TheVariants.{Done}
use Rattle.board.specs.Machine.{task_at, with_write}
use Rattle.board.specs.Hosting.{has_part}
use Rattle.board.specs.Pausing.{Begins, TakesTurn, asked_by, asked_over_image}
use Rattle.board.specs.Slot.{SlotState}
use Rattle.board.specs.Task.{Task, Nothing, Serve, PutOut}
use Rattle.board.specs.Within.{BeginsWithin, BeginsWithinOverImage, IsSentPiece, PutsOutWithin, SendsWithin, TakesWithin, TransmitsWithin, TurnWithin, reply_at}
use Rattle.board.specs.World.{World, Handles}
use Rattle.board.proofs.Seats.{step_there}
use Rattle.board.proofs.Whole.{came, whole}

-- a turn that answered an event is the event's step
pub handled : {A : Type 0} (event : Event A) (budget : Budget) (old new : World) (reply : Reply A)
    (block console : ℕ) (out out' : List ℕ)
    → TakesTurn (Begins event.what budget) old event.slot (Answered reply) block console out out' new
    → Handles old event reply block console out out' new
handled event budget old new reply block console out out' t = record {
  output = t.output;
  step = step_there old new event _ t.taken.state t.taken.there (record {
    outcome = came t.taken.after reply t.output;
    given = whole event.what budget t.taken.state old.health new.health t.taken.after t.output
        reply t.taken.comes;
    recorded = rw (t.taken.block_is, t.taken.console_is) refl;
    slots = t.taken.slots;
    disturbed = t.taken.disturbed;
    outside = t.taken.outside;
  });
  appended = t.appended;
}

-- ---- within a limit

unrefused_reply : (A : Type 0) (ending : Ending) → ending ≢ Refused → reply_at {A = A} ending ≡ Done
unrefused_reply A Refused n = absurd (n refl)
unrefused_reply A _ n = refl

sent_whole : {A : Type 0} (limit : ℕ) (budget : Budget) (mid new : SlotState) (waiting left : List ℕ)
    (reply : Reply A) → reply ≡ Done
    → IsSentPiece limit First budget progress.Done mid new waiting left
    → TransmitsWithin limit mid new waiting left reply
sent_whole {A} limit budget mid new waiting left reply done h =
    let queue = queue_at 1 mid.console in
    let once : Notified (transmit_fitting (Some limit)) 1 queue h.served.ending mid.memory new.memory
    mid.console new.console waiting left =
    notified_once (transmit_fitting (Some limit)) budget 1 queue h.served.ending mid.memory new.memory
    mid.console new.console waiting left h.served.notified in
    let own = notified_as (transmit_fitting (Some limit)) (transmit_within (Some limit)) (λ out sent. sent
    ≡ out) (fitting_within (Some limit)) 1 queue h.served.ending mid.memory new.memory mid.console
    new.console waiting left waiting refl once in
    record {
      ending = h.served.ending;
      notified = rw own.alike at own.notified;
      is = h.is;
      replied = done ∙ sym (unrefused_reply A h.served.ending
          (notified_not_refused (transmit_fitting (Some limit)) (λ out readable w lacks. lacks) 1 queue
          h.served.ending mid.memory new.memory mid.console new.console waiting left once));
    }

transmit_ended : {A : Type 0} (limit : ℕ) (budget : Budget) (mid new : SlotState)
    (waiting left : List ℕ) (reply : Reply A)
    → SendsWithin limit (record { service = Transmit; taken = None }) First budget mid new waiting left
    (Answered reply) → TransmitsWithin limit mid new waiting left reply
transmit_ended limit budget mid new waiting left reply (inl (done, h)) =
    sent_whole limit budget mid new waiting left reply done h
transmit_ended limit budget mid new waiting left reply (inr (lacks, h)) = record {
  ending = Refused;
  notified = notified_once (transmit_within (Some limit)) budget 1 (queue_at 1 mid.console) Refused mid.memory
      new.memory mid.console new.console waiting left h.refused;
  is = h.is;
  replied = lacks;
}

write_ended : {A : Type 0} (limit : ℕ) (state : SlotState) (window : SlotWindow) (offset width value : ℕ)
    (budget : Budget) (new : SlotState) (waiting left : List ℕ) (reply : Reply A) (task : Task)
    → task_at window offset width value state ≡ task
    → TurnWithin limit (asked_by task) (Write window offset width value) budget state new waiting
    left (Answered reply)
    → TakesWithin limit state (Write window offset width value) new waiting left reply
write_ended limit state window offset width value budget new waiting left reply (Serve Transmit) is h =
    subst (λ (t : Task). PutsOutWithin limit t (with_write window offset width value state) new waiting
    left reply) (sym is)
    (transmit_ended limit budget (with_write window offset width value state) new waiting left reply h)
write_ended limit state window offset width value budget new waiting left reply Nothing is h = h
write_ended limit state window offset width value budget new waiting left reply (PutOut byte) is h = h
write_ended limit state window offset width value budget new waiting left reply _ is h = rw is tt

ended_over_image : {A : Type 0} (limit : ℕ) (what : EventKind A) (budget : Budget) (state new : SlotState)
    (waiting left : List ℕ) (reply : Reply A)
    → BeginsWithinOverImage limit what budget state new waiting left (Answered reply)
    → TakesWithin limit state what new waiting left reply
ended_over_image limit (Write window offset width value) budget state new waiting left reply h =
    write_ended limit state window offset width value budget new waiting left reply
    (task_at window offset width value state) refl h
ended_over_image limit _ budget state new waiting left reply h = tt

ended_by : {A : Type 0} (limit : ℕ) (part : Bool) (what : EventKind A) (budget : Budget)
    (state new : SlotState) (waiting left : List ℕ) (reply : Reply A)
    → TurnWithin limit (if part then None else asked_over_image what state) what budget state new waiting left
    (Answered reply)
    → TakesWithin limit state what new waiting left reply
ended_by limit true what budget state new waiting left reply h = h
ended_by limit false what budget state new waiting left reply h =
    ended_over_image limit what budget state new waiting left reply h

pub ended_within : {A : Type 0} (limit : ℕ) (what : EventKind A) (budget : Budget) (state new : SlotState)
    (waiting left : List ℕ) (reply : Reply A)
    → BeginsWithin limit what budget state new waiting left (Answered reply)
    → TakesWithin limit state what new waiting left reply
ended_within limit what budget state new waiting left reply h =
    ended_by limit (has_part state.host what state) what budget state new waiting left reply h
