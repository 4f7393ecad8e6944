-- A call of the console of a guest that stands still begins with one event of its slot.
use Rattle.std.proofs.Common.{◌≡◌, ◌∙◌, ℕ, zero, suc, ◌%◌, ◌^◌, ◌++◌, Bool, true, false, Option, None, List, [], ◌∷◌, refl, ap, append_assoc}
use Rattle.std.specs.Prelude.{◌==◌, ◌&&◌}
use Rattle.guest_memory.specs.Memory.{Memory}
use Rattle.chain.specs.declared.budget.Progress.TheVariants as progress
use Rattle.chain.specs.Service.{Given}
use Rattle.mmio_window.specs.declared.action.Action.{Action}
use Rattle.mmio_window.specs.declared.action.Action.TheVariants as action
use Rattle.mmio_window.specs.Serving.{ending_of}
use Rattle.mmio_window.specs.Soundness.{IsSound}
use Rattle.mmio_window.specs.Window.{WindowState, queue_at}
use Rattle.mmio_window.specs.Writing.{action_of}
use Rattle.console_device.specs.Config.{emergency_write}
use Rattle.console_device.specs.Console.{Console}
use Rattle.console_device.specs.Device.{exact_transmit, receive, transmit_within, transmitted}
use Rattle.console_device.specs.Input.{fitting}
use Rattle.block_device.specs.Tags.{is_any}
use Rattle.shared_memory.specs.Sightings.{Sightings, memory}
use Rattle.racing_service.specs.declared.service.Limits.{Limits}
use Rattle.racing_guest.specs.Console.{ActsOnConsole, PutsOutIf, RacingConsole, Receives, Transmits, with_console_written, with_size, with_typed}
use Rattle.racing_guest.specs.declared.reply.GuestWindow.TheVariants as guest_window
use Rattle.racing_guest.specs.declared.reply.Reply.TheVariants as answer
use Rattle.racing_guest.specs.Guest.{IsSoundGuest, RacingGuest, TakesInput, WritesGuest, service_limits}
use Rattle.racing_guest.specs.Reply.{NothingHappens}
use Rattle.racing_hosted_disk.specs.declared.look.LookLimits.{LookLimits}
use Rattle.board.specs.declared.event.EventKind.TheVariants.{Input, Resize, Write}
use Rattle.board.specs.declared.event.SlotWindow.TheVariants as window
use Rattle.board.specs.declared.reply.Reply.{Reply}
use Rattle.board.specs.declared.reply.Reply.TheVariants.{Done, Took}
use Rattle.board.specs.Backing.{tags_in}
use Rattle.board.specs.Hosting.{is_block_task}
use Rattle.board.specs.Machine.{GivesOverImage, IsNext, at_rest, task_at, with_write}
use Rattle.board.specs.Outcome.{Outcome}
use Rattle.board.specs.Slot.{SlotState}
use Rattle.board.specs.Task.{Finishes, IsReceiveService, task_of}
use Rattle.standing_guest.specs.Event.{BeginsWith, IsEvent, NotifiedStands, ReceiveStands}
use Rattle.standing_guest.specs.Slot.{slot_of}
use Rattle.standing_guest.proofs.Notifying.{begins_notified, first_is_left, notified_too, second_is_left}
use Rattle.standing_guest.proofs.Writing.{written_sound}
use Rattle.standing_guest.proofs.Simulating.{AnswersAlike, Simulates}

-- ---- what goes out goes out behind what was there

abbrev pub IsBehind : List ℕ → List ℕ → List ℕ → Type 0
IsBehind out s t = s ≡ out ++ t

put_out : (out s t readable : List ℕ) (w : ℕ) (given : Given (List ℕ)) → s ≡ out ++ t → given ≡ transmitted s readable w
    → AnswersAlike exact_transmit (IsBehind out) t readable w given
put_out out s t readable w given alike is = record {
  state = t ++ readable;
  gives = ap (λ (g : Given (List ℕ)). record { state = t ++ readable; written = g.written }) is;
  alike = ap (λ (g : Given (List ℕ)). g.state) is ∙ ap (λ (x : List ℕ). x ++ readable) alike
      ∙ append_assoc out t readable;
}

pub transmits_alike : (limit : Option ℕ) (out : List ℕ) → Simulates (transmit_within limit) exact_transmit (IsBehind out)
transmits_alike limit out = record {
  takes = λ s t alike. refl;
  gives = λ s t readable w given alike gives. put_out out s t readable w given alike gives.0;
}

pub no_more : (out : List ℕ) → out ≡ out ++ []
no_more [] = refl
no_more (x ∷ out) = ap (λ (xs : List ℕ). x ∷ xs) (no_more out)

-- ---- an event of the console

pub and_false : (b : Bool) → (b && false) ≡ false
and_false true = refl
and_false false = refl

no_block : (what : Action) → is_block_task (task_of window.Console what) ≡ false
no_block (action.Notify zero) = refl
no_block (action.Notify (suc zero)) = refl
no_block (action.Notify (suc (suc q))) = refl
no_block (action.ConfigWrite offset width value) = by (offset == emergency_write) refl
  where
    by : (b : Bool) → (offset == emergency_write) ≡ b
        → is_block_task (task_of window.Console (action.ConfigWrite offset width value)) ≡ false
    by true put = rw put refl
    by false other = rw other refl
no_block _ = refl

module _ (A : Type 0) where
  -- what is left to be done behind a write is all that comes of it
  pub write_gives : (m : Memory) (guest : RacingGuest) (offset width value : ℕ) (outcome : Outcome A)
      → Finishes (task_at window.Console offset width value (slot_of m guest))
      (with_write window.Console offset width value (slot_of m guest)) at_rest at_rest outcome
      → IsNext (slot_of m guest) (Write window.Console offset width value) outcome
  write_gives m guest offset width value outcome finishes =
      let state = slot_of m guest in
      record {
        after = at_rest;
        gives = record {
          gives = rw (and_false (is_any (tags_in state.host)), no_block (action_of offset width value state.console)) finishes;
          image = refl;
        };
      }

  pub input_gives : (m : Memory) (guest : RacingGuest) (bytes : List ℕ) (outcome : Outcome A)
      → GivesOverImage (slot_of m guest) (Input bytes) at_rest at_rest outcome
      → IsNext (slot_of m guest) (Input bytes) outcome
  input_gives m guest bytes outcome gives =
      record {
        after = at_rest;
        gives = record { gives = rw (and_false (is_any (tags_in (slot_of m guest).host))) gives; image = refl };
      }

  pub resize_gives : (m : Memory) (guest after : RacingGuest) (cols rows : ℕ)
      → after ≡ record guest { console = with_size cols rows guest.console }
      → IsEvent {A = A} (slot_of m guest) (Resize cols rows) (slot_of m after) Done []
  resize_gives m guest after cols rows is =
      record {
        after = at_rest;
        gives = record {
          gives = rw (and_false (is_any (tags_in (slot_of m guest).host)))
              (record { alike = ap (λ (g : RacingGuest). record { state = slot_of m g; reply = Done; output = [] }) is; image = refl });
          image = refl;
        };
      }

  -- ---- what the console does then

  -- a service of the receive queue, behind which the call is no more where the queue rests
  pub record BeginsReceiving (ready after : SlotState) (reply : Reply A) : Type 0 where
    pub first : SlotState
    pub service : IsReceiveService ready reply at_rest at_rest (record { state = first; reply = reply; output = [] })
    pub whole : ReceiveStands ready.memory first → after ≡ first

  -- what a write leaves to be done, and what the call is beyond it
  pub record BeginsTask (what : Action) (ready after : SlotState) (out out' : List ℕ) : Type 0 where
    pub first : SlotState
    pub output : List ℕ
    pub finishes : Finishes {A = A} (task_of window.Console what) ready at_rest at_rest
        (record { state = first; reply = Done; output = output })
    pub whole : NotifiedStands window.Console what ready.memory first → (after ≡ first) × (out' ≡ out ++ output)

  module _ (limits : Limits) (limit : Option ℕ) (old new : Sightings) (guest after : RacingGuest) (console : RacingConsole)
      (sound : IsSound (memory old) console.window) (block : after.block ≡ guest.block) where
    -- the slot as its console finds it
    abbrev ready : SlotState
    ready = slot_of (memory old) (record { block = guest.block; console = console })

    pub same : (m : Memory) (w : WindowState) (pending : List ℕ) → memory new ≡ m → after.console.window ≡ w
        → after.console.device.cols ≡ console.device.cols → after.console.device.rows ≡ console.device.rows
        → after.console.device.pending ≡ pending
        → slot_of (memory new) after ≡ record ready { memory = m; console = w; pending = pending }
    same m w pending memories windows cols rows pends = rw (memories, windows, block, cols, rows, pends) refl

    -- nothing is done
    pub unchanged : NothingHappens old new console after.console progress.Done → slot_of (memory new) after ≡ ready
    unchanged n =
        same (memory old) console.window console.device.pending (ap memory n.memory)
        (ap (λ (c : RacingConsole). c.window) n.device) (ap (λ (c : RacingConsole). c.device.cols) n.device)
        (ap (λ (c : RacingConsole). c.device.rows) n.device) (ap (λ (c : RacingConsole). c.device.pending) n.device)

    pub received : (reply : Reply A) → Receives false limits old new console after.console progress.Done
        → BeginsReceiving ready (slot_of (memory new) after) reply
    received reply r =
        let b = begins_notified receive limits.rounds 0 first_is_left limits.budget old new console.window
        after.console.window console.device.pending after.console.device.pending sound r.notified in
        record {
          first = record ready { memory = b.memory; console = b.window; pending = b.state };
          service = record {
            notified = record { ending = ending_of b.met; notified = b.notified };
            is = refl;
            image = refl;
          };
          whole = λ served.
              let all = b.stands served in
              same b.memory b.window b.state all.0 all.1 (ap (λ (c : Console). c.cols) r.rest)
              (ap (λ (c : Console). c.rows) r.rest) all.2;
        }

    module _ (out out' : List ℕ) where
      sent : Transmits false limits old new console after.console progress.Done limit out out'
          → BeginsTask (action.Notify 1) ready (slot_of (memory new) after) out out'
      sent t =
          let device = transmit_within limit in
          let b = begins_notified device limits.rounds 1 second_is_left limits.budget old new console.window
          after.console.window out out' sound t.notified in
          let also = notified_too device exact_transmit (IsBehind out) (transmits_alike limit out) b.met 1
          (queue_at 1 console.window) (memory old) b.memory console.window b.window out b.state [] (no_more out) b.notified in
          record {
            first = record ready { memory = b.memory; console = b.window };
            output = also.state;
            finishes = record {
              notified = record { ending = ending_of b.met; notified = also.notified };
              is = refl;
              image = refl;
            };
            whole = λ served.
                let all = b.stands served in (
                  same b.memory b.window console.device.pending all.0 all.1 (ap (λ (c : Console). c.cols) t.rest)
                      (ap (λ (c : Console). c.rows) t.rest) (ap (λ (c : Console). c.pending) t.rest),
                  all.2 ∙ also.alike,
                );
          }

      -- nothing else is done, but that this may go out
      record IsPut (output : List ℕ) : Type 0 where
        pub nothing : NothingHappens old new console after.console progress.Done
        pub put : out' ≡ out ++ output

      at_rest_then : (output : List ℕ) → IsPut output → (slot_of (memory new) after ≡ ready) × (out' ≡ out ++ output)
      at_rest_then output p = (unchanged p.nothing, p.put)

      no_output : NothingHappens old new console after.console progress.Done → out' ≡ out → IsPut []
      no_output n same = record { nothing = n; put = same ∙ no_more out }

      acted : (what : Action) → ActsOnConsole false limits limit old new console after.console out out' what progress.Done
          → BeginsTask what ready (slot_of (memory new) after) out out'
      acted (action.Notify zero) acts =
          let r = received Done acts.0 in
          record {
            first = r.first;
            output = [];
            finishes = r.service;
            whole = λ served. (r.whole served, acts.1 ∙ no_more out);
          }
      acted (action.Notify (suc zero)) acts = sent acts
      acted (action.Notify (suc (suc q))) acts = record {
        first = ready;
        output = [];
        finishes = record { alike = refl; image = refl };
        whole = λ served. at_rest_then [] (no_output acts.0 acts.1);
      }
      acted (action.ConfigWrite offset width value) acts = by (offset == emergency_write) refl acts.1
        where
          by : (b : Bool) → (offset == emergency_write) ≡ b → PutsOutIf b (value % 2 ^ 8) limit out out'
              → BeginsTask (action.ConfigWrite offset width value) ready (slot_of (memory new) after) out out'
          by true put puts = record {
            first = ready;
            output = value % 2 ^ 8 ∷ [];
            finishes = rw put (record { alike = refl; image = refl });
            whole = λ served. at_rest_then (value % 2 ^ 8 ∷ []) (record { nothing = acts.0; put = puts.0 });
          }
          by false other puts = record {
            first = ready;
            output = [];
            finishes = rw other (record { alike = refl; image = refl });
            whole = λ served. at_rest_then [] (no_output acts.0 puts);
          }
      acted action.Reset acts = record {
        first = ready;
        output = [];
        finishes = record { alike = refl; image = refl };
        whole = λ served. at_rest_then [] (no_output acts.0 acts.1);
      }
      acted action.None acts = record {
        first = ready;
        output = [];
        finishes = record { alike = refl; image = refl };
        whole = λ served. at_rest_then [] (no_output acts.0 acts.1);
      }

  -- ---- the calls

  pub console_written : (offset width value : ℕ) (limits : LookLimits) (limit : Option ℕ) (old new : Sightings)
      (before after : RacingGuest) (out out' : List ℕ) → IsSoundGuest (memory old) before
      → WritesGuest guest_window.Console offset width value false limits limit old new before after out out' answer.Done
      → BeginsWith {A = A} (slot_of (memory old) before) (Write window.Console offset width value) Done
      (slot_of (memory new) after) out out'
  console_written offset width value limits limit old new before after out out' sound w =
      let console = with_console_written offset width value (memory old) before.console in
      let begun = acted (service_limits limits) limit old new before after console
      (written_sound offset width value (memory old) before.console.window sound.console) w.1 out out'
      (action_of offset width value before.console.window) w.0 in
      record {
        first = begun.first;
        output = begun.output;
        event = write_gives (memory old) before offset width value
            (record { state = begun.first; reply = Done; output = begun.output }) begun.finishes;
        whole = begun.whole;
      }

  pub console_typed : (bytes : List ℕ) (limits : LookLimits) (old new : Sightings) (before after : RacingGuest)
      → IsSoundGuest (memory old) before → TakesInput bytes false limits old new before after progress.Done
      → BeginsWith {A = A} (slot_of (memory old) before) (Input bytes) (Took (fitting before.console.device.pending bytes))
      (slot_of (memory new) after) [] []
  console_typed bytes limits old new before after sound t =
      let console = with_typed bytes before.console in
      let reply = Took (fitting before.console.device.pending bytes) in
      let r = received (service_limits limits) None old new before after console sound.console t.rest reply t.receives in
      record {
        first = r.first;
        output = [];
        event = input_gives (memory old) before bytes (record { state = r.first; reply = reply; output = [] }) r.service;
        whole = λ served. (r.whole served, refl);
      }
