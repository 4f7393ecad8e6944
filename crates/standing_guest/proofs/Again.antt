-- A queue that is served again is served as by a notification: a write of its number to QueueNotify.
use Rattle.std.proofs.Common.{◌≡◌, ◌∙◌, ℕ, Bool, true, false, Option, Some, None, List, refl, sym, ap, subst}
use Rattle.std.specs.Prelude.{if◌then◌else◌, is_some}
use Rattle.chain.specs.declared.budget.Progress.TheVariants as progress
use Rattle.negotiation.specs.Features.{notification_data}
use Rattle.negotiation.specs.Negotiation.{negotiated_of}
use Rattle.negotiation.specs.Sets.{has}
use Rattle.mmio_window.specs.declared.action.Action.TheVariants as action
use Rattle.mmio_window.specs.declared.queue.Queue.{Queue}
use Rattle.mmio_window.specs.Configuration.{narrowed}
use Rattle.mmio_window.specs.Window.{WindowState, queue_at}
use Rattle.mmio_window.specs.Writing.{action_of}
use Rattle.shared_memory.specs.Sightings.{Sightings, memory}
use Rattle.console_device.specs.Console.{Console}
use Rattle.racing_hosted_disk.specs.declared.look.LookLimits.{LookLimits}
use Rattle.block_device.specs.Tags.{is_any}
use Rattle.racing_guest.specs.declared.reply.GuestQueue.{GuestQueue}
use Rattle.racing_guest.specs.declared.reply.GuestQueue.TheVariants as queues
use Rattle.racing_guest.specs.declared.reply.Reply.TheVariants as answer
use Rattle.racing_guest.specs.Block.{NotifiesBlock, WritesBlock}
use Rattle.racing_guest.specs.Console.{ActsOnConsole, RacingConsole, Receives, Transmits}
use Rattle.racing_guest.specs.Guest.{IsServedAgain, IsSoundGuest, RacingGuest, service_limits}
use Rattle.board.specs.declared.reply.Reply.TheVariants.{Done}
use Rattle.standing_guest.specs.Event.{BeginsWith, notification}
use Rattle.standing_guest.specs.Slot.{IsOwnDisk, slot_of}
use Rattle.standing_guest.proofs.Block.{block_written}
use Rattle.standing_guest.proofs.Console.{and_false, console_written}

-- the write's action
named : (halved : Bool) (q : ℕ) → narrowed 2 q ≡ q → (if halved then narrowed 2 q else q) ≡ q
named true q same = same
named false q same = refl

rings : (q : ℕ) (w : WindowState) → narrowed 2 q ≡ q
    → action_of 0x050 4 q w ≡ (if is_some (queue_at q w) then action.Notify q else action.None)
rings q w same =
    ap (λ (n : ℕ). if is_some (queue_at n w) then action.Notify n else action.None)
    (named (has (negotiated_of w.negotiation) notification_data) q same)

module _ (limits : LookLimits) (old new : Sightings) (before after : RacingGuest) where
  block_again : (found : Option Queue) → queue_at 0 before.block.window ≡ found
      → NotifiesBlock false limits found old new before.block after.block progress.Done
      → WritesBlock 0x050 4 0 false limits old new before.block after.block progress.Done
  block_again None at n = rw (rings 0 before.block.window refl, at) n
  block_again (Some queue) at n =
      rw (rings 0 before.block.window refl, at) (subst
      (λ (found : Option Queue). NotifiesBlock false limits found old new before.block after.block progress.Done) (sym at) n)

  same_console : (a b : RacingConsole) → a.window ≡ b.window → a.device ≡ b.device → a ≡ b
  same_console a b window device =
      ap (λ (w : WindowState). record a { window = w }) window ∙ ap (λ (d : Console). record b { device = d }) device

  module _ (limit : Option ℕ) (out out' : List ℕ) where
    abbrev Acts : ℕ → Type 0
    Acts q =
        ActsOnConsole false (service_limits limits) limit old new before.console after.console out out'
        (action_of 0x050 4 q before.console.window) progress.Done

    receive_again : (found : Option Queue) → queue_at 0 before.console.window ≡ found
        → Receives false (service_limits limits) old new before.console after.console progress.Done → out' ≡ out → Acts 0
    receive_again None at r none =
        let n = (rw at at r.notified).1 in
        let device = r.rest ∙ ap (λ (bytes : List ℕ). record before.console.device { pending = bytes }) n.state in
        rw (rings 0 before.console.window refl, at) (
          record { memory = n.memory; device = same_console after.console before.console n.window device; done = refl },
          none,
        )
    receive_again (Some queue) at r none = rw (rings 0 before.console.window refl, at) (r, none)

    transmit_again : (found : Option Queue) → queue_at 1 before.console.window ≡ found
        → Transmits false (service_limits limits) old new before.console after.console progress.Done limit out out' → Acts 1
    transmit_again None at t =
        let n = (rw at at t.notified).1 in
        rw (rings 1 before.console.window refl, at) (
          record { memory = n.memory; device = same_console after.console before.console n.window t.rest; done = refl },
          n.state,
        )
    transmit_again (Some queue) at t = rw (rings 1 before.console.window refl, at) t

  -- a notification doesn't wait for what is in flight
  pub again_begins : (A : Type 0) (limit : Option ℕ) (out out' : List ℕ) (queue : GuestQueue) → IsSoundGuest (memory old) before
      → IsOwnDisk before → IsServedAgain false limits limit old new before after out out' queue answer.Done
      → BeginsWith {A = A} (slot_of (memory old) before) (notification queue) Done (slot_of (memory new) after) out out'
  again_begins A limit out out' queues.Block sound own s =
      block_written A 0x050 4 0 limits old new before after out out' sound own (and_false (is_any before.block.disk.tags)) s.1.0
      s.1.1 (block_again (queue_at 0 before.block.window) refl s.0)
  again_begins A limit out out' queues.Receive sound own s =
      console_written A 0x050 4 0 limits limit old new before after out out' sound
      (receive_again limit out out' (queue_at 0 before.console.window) refl s.0 s.1.1, s.1.0)
  again_begins A limit out out' queues.Transmit sound own s =
      console_written A 0x050 4 1 limits limit old new before after out out' sound
      (transmit_again limit out out' (queue_at 1 before.console.window) refl s.0, s.1)
