-- A register of a guest's window is read, or refused.
use Rattle.std.proofs.Common.{◌≡◌, inl, ℕ, false, true, Result, Ok, Err, refl, arith}
use Rattle.board.specs.declared.event.EventKind.TheVariants.{Read}
use Rattle.board.specs.declared.reply.Reply.{Reply}
use Rattle.board.specs.declared.reply.Reply.TheVariants.{Value, BadSlot}
use Rattle.session.specs.declared.refusal.Refusal.{Refusal}
use Rattle.session.specs.declared.refusal.Refusal.TheVariants as refusal
use Rattle.session.specs.declared.response.Response.TheVariants.{Answered, Busy}
use Rattle.session.specs.Answering.{Means, value_response}
use Rattle.session.specs.Pausing.{IsToldCall}
use Rattle.session.specs.Session.{IsStep}
use Rattle.session.proofs.Exact.{Refuses, busy_call, only_paused, step_call, told_call}
use Rattle.session.proofs.Ranges.{register_read}
use Rattle.session.proofs.Unchanged.{missing}
use Rattle.session.proofs.session.Session.read.Goals as goal
use Rattle.session.proofs.session.Session.read.Goals.{in-Some, in-None}

pub returns-then-is_paused : goal.returns-then-is_paused
returns-then-is_paused g c =
    let old = c.args.self.now in
    let says =
    told_call {A = g.row.A.Denot} old old c.args.slot (Read c.args.window c.args.offset c.args.width) Busy
    value_response (Err refusal.Busy) (λ value. refl) (inl refl) (rw (← c.self.view_is) c.self.invariant.1)
    (busy_call old c.args.slot (Read c.args.window c.args.offset c.args.width)
    (λ idle. let is : true ≡ false = c.if-is_paused.ensures.idle.1 idle in absurd (cc (is)))) in
    record {
      call = says.0;
      bad_slot = says.1.bad_slot;
      busy = only_paused {A = g.row.A.Denot} old c.args.slot (Read c.args.window c.args.offset c.args.width)
          refl (λ state. refl) says.1.busy;
    }

-- where nothing of the slot is paused
told : (g : _) (c : goal.Joined-read g) (reply : Reply g.row.A.Denot) (result : Result ℕ Refusal)
    → Means value_response result (Answered reply)
    → IsStep {A = g.row.A.Denot} c.args.self.now
    (record { slot = c.args.slot; what = Read c.args.window c.args.offset c.args.width }) reply
    c.args.self.now
    → IsToldCall {A = g.row.A.Denot} c.args.self.now c.args.slot
    (Read c.args.window c.args.offset c.args.width) (Means value_response result) c.args.self.now
    × Refuses {A = g.row.A.Denot} c.args.self.now c.args.slot
    (Read c.args.window c.args.offset c.args.width) result
told g c reply result means step =
    let old = c.args.self.now in
    told_call old old c.args.slot (Read c.args.window c.args.offset c.args.width) (Answered reply)
    value_response result (λ value. refl) means (rw (← c.self.view_is) c.self.invariant.1)
    (step_call old old c.args.slot (Read c.args.window c.args.offset c.args.width) reply
    (rw (← c.self.view_is) c.self.invariant.1) (c.if-is_paused.ensures.idle.0 refl) (λ state. refl) step)

pub returns : goal.returns
returns g c =
    elim c.match-read.branch [
      | in-Some w ↦ rw (w.result-is)
          (let value = w.in-Some.value in
          let says = told g c (Value value) (Ok value) refl
          (rw (← c.self.view_is)
          (register_read _ _ c.args.slot c.args.window c.args.offset c.args.width value
          (rw (w.in-Some.is) at (c.read.ensures.value refl)))) in
          record {
            call = says.0;
            bad_slot = says.1.bad_slot;
            busy = only_paused {A = g.row.A.Denot} c.args.self.now c.args.slot
                (Read c.args.window c.args.offset c.args.width) refl (λ state. refl) says.1.busy;
          })
      | in-None w ↦ rw (w.result-is)
          (let says = told g c BadSlot (Err refusal.BadSlot) refl
          (rw (← c.self.view_is) (missing _ _ (grind (arith, w.in-None.is, c.read.ensures.there)))) in
          record {
            call = says.0;
            bad_slot = says.1.bad_slot;
            busy = only_paused {A = g.row.A.Denot} c.args.self.now c.args.slot
                (Read c.args.window c.args.offset c.args.width) refl (λ state. refl) says.1.busy;
          })
    ]
