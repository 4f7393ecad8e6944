-- A write to the console of a guest that stands still, for which its output has no room, begins with one event of its slot and of
-- its outlet.
use Rattle.std.proofs.Common.{◌≡◌, ◌≢◌, ◌∙◌, ◌⊎◌, inl, inr, ℕ, zero, suc, ◌+◌, ◌<◌, ◌++◌, false, Option, Some, None, List, [], length, refl, sym, ap, subst, arith}
use Rattle.chain.specs.Service.{Refused, Spent}
use Rattle.mmio_window.specs.declared.action.Action.{Action}
use Rattle.mmio_window.specs.declared.action.Action.TheVariants as action
use Rattle.mmio_window.specs.declared.queue.Queue.{Queue}
use Rattle.mmio_window.specs.Serving.{Notified, ending_of}
use Rattle.mmio_window.specs.Soundness.{IsSound}
use Rattle.mmio_window.specs.Window.{queue_at}
use Rattle.mmio_window.specs.Writing.{action_of}
use Rattle.console_device.specs.Config.{emergency_write}
use Rattle.console_device.specs.Console.{Console}
use Rattle.console_device.specs.Device.{exact_transmit, transmit_within}
use Rattle.shared_memory.specs.Sightings.{Sightings, memory}
use Rattle.racing_service.specs.declared.service.Limits.{Limits}
use Rattle.racing_hosted_disk.specs.declared.look.LookLimits.{LookLimits}
use Rattle.racing_guest.specs.declared.reply.GuestWindow.TheVariants as guest_window
use Rattle.racing_guest.specs.declared.reply.Reply.TheVariants as answer
use Rattle.racing_guest.specs.Console.{FindsNoRoom, RacingConsole, TransmitsUpTo, with_console_written}
use Rattle.racing_guest.specs.Guest.{IsSoundGuest, RacingGuest, WritesGuest, service_limits}
use Rattle.board.specs.declared.event.EventKind.TheVariants.{Write}
use Rattle.board.specs.declared.event.SlotWindow.TheVariants as window
use Rattle.board.specs.declared.reply.Reply.{Reply}
use Rattle.board.specs.declared.reply.Reply.TheVariants.{Done, NoMemory}
use Rattle.board.specs.Machine.{at_rest}
use Rattle.board.specs.Slot.{SlotState}
use Rattle.board.specs.Task.{Finishes, task_of}
use Rattle.board.specs.Within.{IsPuttingOut, PutsOutWithin}
use Rattle.standing_guest.specs.Event.{BeginsRefused, NotifiedStands}
use Rattle.standing_guest.specs.Slot.{slot_of}
use Rattle.standing_guest.proofs.Console.{IsBehind, no_more, same, transmits_alike, unchanged, write_gives}
use Rattle.standing_guest.proofs.Notifying.{notified_too}
use Rattle.standing_guest.proofs.Refusing.{BeginsLeft, begins_left}
use Rattle.standing_guest.proofs.Writing.{written_sound}

none_below : (n limit : ℕ) → limit < n + 1 → n < limit → ⊥
none_below n limit over below = absurd (omega (arith, over, below))

module _ (A : Type 0) where
  -- what a write leaves to be done, with the outlet, and what the call is beyond it
  pub record BeginsTaskRefused (limit : ℕ) (what : Action) (ready after : SlotState) (out out' : List ℕ) : Type 0 where
    pub first : SlotState
    pub reply : Reply A
    pub output : List ℕ
    pub within : PutsOutWithin limit (task_of window.Console what) ready first out (out ++ output) reply
    pub served : reply ≢ NoMemory → Finishes {A = A} (task_of window.Console what) ready at_rest at_rest
        (record { state = first; reply = reply; output = output })
    pub may : reply ≡ NoMemory → IsPuttingOut (task_of window.Console what)
    pub whole : (reply ≡ Done → NotifiedStands window.Console what ready.memory first)
        → (reply ≡ NoMemory) × (after ≡ first) × (out' ≡ out ++ output)

  module _ (limits : Limits) (limit : ℕ) (old new : Sightings) (guest after : RacingGuest) (console : RacingConsole)
      (sound : IsSound (memory old) console.window) (block : after.block ≡ guest.block) (out out' : List ℕ) where
    abbrev ready : SlotState
    ready = slot_of (memory old) (record { block = guest.block; console = console })

    -- nothing was refused yet
    spent_first : (b : BeginsLeft (Some limit) (memory old) (memory new) console.window after.console.window out out')
        → b.ending ≡ Spent → BeginsTaskRefused limit (action.Notify 1) ready (slot_of (memory new) after) out out'
    spent_first b spent =
        let device = transmit_within (Some limit) in
        let notified : Notified device 1 (queue_at 1 console.window) (ending_of None) (memory old) b.memory console.window
        b.window out b.waiting = rw spent at b.notified in
        let also = notified_too device exact_transmit (IsBehind out) (transmits_alike (Some limit) out) None 1
        (queue_at 1 console.window) (memory old) b.memory console.window b.window out b.waiting [] (no_more out) notified in
        record {
          first = record ready { memory = b.memory; console = b.window };
          reply = Done;
          output = also.state;
          within = record {
            ending = Spent;
            notified = subst (λ (waiting : List ℕ). Notified device 1 (queue_at 1 console.window) Spent (memory old) b.memory
                console.window b.window out waiting) also.alike notified;
            is = refl;
            replied = refl;
          };
          served = λ ample. record {
            notified = record { ending = Spent; notified = also.notified };
            is = refl;
            image = refl;
          };
          may = λ none. cc;
          whole = λ stands.
              let all = b.whole (λ is. stands refl) in
              let no : Spent ≡ Refused = sym spent ∙ all.0 in
              cc;
        }

    -- it was
    refused_first : (b : BeginsLeft (Some limit) (memory old) (memory new) console.window after.console.window out out')
        → b.ending ≡ Refused → after.console.device ≡ console.device
        → BeginsTaskRefused limit (action.Notify 1) ready (slot_of (memory new) after) out out'
    refused_first b refused rest =
        let device = transmit_within (Some limit) in
        let notified : Notified device 1 (queue_at 1 console.window) Refused (memory old) b.memory console.window b.window out
        b.waiting = rw refused at b.notified in
        record {
          first = record ready { memory = b.memory; console = b.window };
          reply = NoMemory;
          output = b.output.output;
          within = record {
            ending = Refused;
            notified = subst (λ (waiting : List ℕ). Notified device 1 (queue_at 1 console.window) Refused (memory old) b.memory
                console.window b.window out waiting) b.output.behind notified;
            is = refl;
            replied = refl;
          };
          served = λ ample. absurd (ample refl);
          may = λ none. tt;
          whole = λ stands.
              let all = b.whole (λ spent. let no : Spent ≡ Refused = sym spent ∙ refused in cc) in (
                refl,
                same A limits (Some limit) old new guest after console sound block b.memory b.window console.device.pending
                    all.1 all.2 (ap (λ (c : Console). c.cols) rest) (ap (λ (c : Console). c.rows) rest)
                    (ap (λ (c : Console). c.pending) rest),
                all.3 ∙ b.output.behind,
              );
        }

    sent_by : (b : BeginsLeft (Some limit) (memory old) (memory new) console.window after.console.window out out')
        → (b.ending ≡ Spent) ⊎ (b.ending ≡ Refused) → after.console.device ≡ console.device
        → BeginsTaskRefused limit (action.Notify 1) ready (slot_of (memory new) after) out out'
    sent_by b (inl spent) rest = spent_first b spent
    sent_by b (inr refused) rest = refused_first b refused rest

    sent : (found : Option Queue) → queue_at 1 console.window ≡ found
        → TransmitsUpTo false limits (Some limit) found old new console.window after.console.window out out'
        → after.console.device ≡ console.device
        → BeginsTaskRefused limit (action.Notify 1) ready (slot_of (memory new) after) out out'
    sent None at up rest = absurd up
    sent (Some queue) at up rest =
        let b = begins_left (Some limit) limits old new console.window after.console.window queue out out' sound at up in
        sent_by b b.so rest

    refused : (what : Action) → FindsNoRoom false limits (Some limit) old new console after.console out out' what
        → BeginsTaskRefused limit what ready (slot_of (memory new) after) out out'
    refused (action.Notify zero) finds = absurd finds
    refused (action.Notify (suc zero)) finds = sent (queue_at 1 console.window) refl finds.transmits finds.rest
    refused (action.Notify (suc (suc q))) finds = absurd finds
    refused (action.ConfigWrite offset width value) finds =
        let there : offset ≡ emergency_write = finds.0 in
        let nothing = unchanged A limits (Some limit) old new guest after console sound block finds.1.0 in
        let over : limit < length out + 1 = finds.1.1.1 in
        let out_same : out' ≡ out ++ [] = finds.1.1.0 ∙ no_more out in
        record {
          first = ready;
          reply = NoMemory;
          output = [];
          within = rw there (record {
            stays = refl;
            fits = λ room. absurd (none_below (length out) limit over room);
            refused = λ full. (sym (no_more out), refl);
          });
          served = λ ample. absurd (ample refl);
          may = λ none. rw there tt;
          whole = λ stands. (refl, nothing, out_same);
        }
    refused action.Reset finds = absurd finds
    refused action.None finds = absurd finds

  pub console_refused : (offset width value : ℕ) (limits : LookLimits) (limit : ℕ) (old new : Sightings)
      (before after : RacingGuest) (out out' : List ℕ) → IsSoundGuest (memory old) before
      → WritesGuest guest_window.Console offset width value false limits (Some limit) old new before after out out'
      answer.NoMemory
      → BeginsRefused {A = A} limit (slot_of (memory old) before) (Write window.Console offset width value)
      (slot_of (memory new) after) out out'
  console_refused offset width value limits limit old new before after out out' sound w =
      let console = with_console_written offset width value (memory old) before.console in
      let begun = refused (service_limits limits) limit old new before after console
      (written_sound offset width value (memory old) before.console.window sound.console) w.1 out out'
      (action_of offset width value before.console.window) w.0 in
      record {
        first = begun.first;
        reply = begun.reply;
        output = begun.output;
        event = record {
          output = begun.output;
          behind = refl;
          within = begun.within;
          served = λ ample. write_gives A (memory old) before offset width value
              (record { state = begun.first; reply = begun.reply; output = begun.output }) (begun.served ample);
          refused = begun.may;
        };
        whole = begun.whole;
      }
