-- Which replies an event may get, and what it then puts out.
use Rattle.std.proofs.Common.{◌≡◌, inl, inr, ℕ, Bool, true, false, List, [], ◌++◌, Option, Some, None, refl, sym, ◌∙◌, ap, subst, append-nil}
use Rattle.std.specs.Prelude.{MatchOption}
use Rattle.std.specs.List.{slice_get}
use Rattle.chain.specs.declared.budget.Budget.{Budget}
use Rattle.board.specs.declared.event.Event.{Event}
use Rattle.board.specs.declared.event.EventKind.{EventKind}
use Rattle.board.specs.declared.event.EventKind.TheVariants.{Write, MemRead, MemWrite, Input, Host, Device}
use Rattle.board.specs.declared.event.DeviceEvent.TheVariants as device
use Rattle.board.specs.declared.pause.Turn.{Turn}
use Rattle.board.specs.declared.pause.Turn.TheVariants as turn
use Rattle.board.specs.declared.reply.Reply.{Reply}
use Rattle.board.specs.declared.reply.Reply.TheVariants.{BadSlot, BadRange}
use Rattle.board.specs.declared.reply.Record.{Record}
use Rattle.board.specs.Image.{Health}
use Rattle.board.specs.Outcome.{Outcome}
use Rattle.board.specs.Replies.{MayReply}
use Rattle.board.specs.declared.pause.Pause.{Pause}
use Rattle.hosted_disk.specs.Disk.{HostedDisk}
use Rattle.board.specs.Hosting.{LooksOrGives, OwnGives, notifies_block, waits_now}
use Rattle.board.specs.Pausing.{Begins, TurnsTo, asked, asked_over_image}
use Rattle.board.specs.Slot.{SlotState}
use Rattle.board.specs.World.{World, Answers, MayGive, MayGiveBy, MayGiveOverImage, MissingStep, SlotStep}
use Rattle.board.proofs.Replies.{given_replies, of_read, of_write}
use Rattle.session.specs.declared.response.Response.TheVariants.{More, Busy, Idle}
use Rattle.session.specs.Pacing.{response_to}
use Rattle.session.specs.Answering.{Suits, SuitsCall}
use Rattle.session.proofs.Parts.{asks_nothing}

-- ---- which replies an event may get

may_suit : {A : Type 0} (what : EventKind A) (r : Reply A) → MayReply what r → Suits what r
may_suit what BadSlot may = tt
may_suit what r may = may

pub given_suits : {A : Type 0} (state : SlotState) (what : EventKind A) (old new : Health)
    (outcome : Outcome A) → MayGive state what old new outcome → Suits what outcome.reply
given_suits state what old new outcome h =
    may_suit what outcome.reply (given_replies state what old new outcome h)

suits_bad_slot : {A : Type 0} (what : EventKind A) → Suits what BadSlot
suits_bad_slot what = tt

suits_at : {A : Type 0} (old : World) (event : Event A) (written : Record A) (new : World)
    (o : Option SlotState) → MatchOption o (MissingStep old event.slot written new)
    (λ s. SlotStep old event.slot s event.what written new) → Suits event.what written.reply
suits_at {A} old event written new None step =
    rw (ap (λ (r : Record A). r.reply) step.recorded) (suits_bad_slot event.what)
suits_at {A} old event written new (Some s) step =
    rw (ap (λ (r : Record A). r.reply) step.recorded)
    (given_suits s event.what old.health new.health step.outcome step.given)

-- an event gets one of its replies
pub suits : {A : Type 0} {old : World} {event : Event A} {reply : Reply A} {before after : List ℕ}
    {new : World} → Answers old event reply before after new → Suits event.what reply
suits {A} {old} {event} {reply} {before} {after} {new} answers =
    rw (← answers.replied) (suits_at old event answers.written new
    (slice_get old.slots event.slot) answers.step)

-- ---- what is refused for its range puts nothing out

silent_over_image : {A : Type 0} (state : SlotState) (what : EventKind A) (old new : Health)
    (outcome : Outcome A)
    → MayReply what BadRange → MayGiveOverImage state what old new outcome → outcome.output ≡ []
silent_over_image {A} state (MemRead addr len) old new outcome may (inl served) =
    of_read (λ (o : Outcome A). o.output ≡ []) state addr len outcome served.alike.alike refl refl
silent_over_image {A} state (MemRead addr len) old new outcome may (inr unread) =
    ap (λ (o : Outcome A). o.output) unread.unchanged
silent_over_image {A} state (MemWrite addr bytes) old new outcome may (inl served) =
    of_write (λ (o : Outcome A). o.output ≡ []) state addr bytes outcome served.alike.alike refl refl
silent_over_image state (MemWrite addr bytes) old new outcome may (inr never) = absurd never
silent_over_image state what old new outcome may h = absurd may

module _ {A : Type 0} (Beside : Outcome A → Type 0) (state : SlotState) (what : EventKind A)
    (outcome : Outcome A) (silent : Beside outcome → outcome.output ≡ []) where
  silent_looks : (rings : Bool) → LooksOrGives Beside rings state what outcome → outcome.output ≡ []
  silent_looks true h = ap (λ (o : Outcome A). o.output) h.1
  silent_looks false h = silent h

  silent_own : (waits : Bool) → OwnGives Beside waits state what outcome → outcome.output ≡ []
  silent_own true h = ap (λ (o : Outcome A). o.output) h
  silent_own false h = silent_looks (notifies_block what state) h

silent_by : {A : Type 0} (host : Option HostedDisk) (state : SlotState) (what : EventKind A) (old new : Health)
    (outcome : Outcome A) → MayReply what BadRange → MayGiveBy host state what old new outcome
    → outcome.output ≡ []
silent_by None state what old new outcome may h = silent_over_image state what old new outcome may h
silent_by (Some disk) state (Host said) old new outcome may h = absurd may
silent_by {A} (Some disk) state what old new outcome may h =
    silent_own (λ (o : Outcome A). MayGiveOverImage state what old old o) state what outcome
    (silent_over_image state what old old outcome may) (waits_now what state.host) h.gives

given_silent : {A : Type 0} (state : SlotState) (what : EventKind A) (old new : Health) (outcome : Outcome A)
    → MayReply what BadRange → MayGive state what old new outcome → outcome.output ≡ []
given_silent state what old new outcome may h = silent_by state.host state what old new outcome may h

silent_at : {A : Type 0} (old : World) (event : Event A) (written : Record A) (new : World)
    (o : Option SlotState) → MatchOption o (MissingStep old event.slot written new)
    (λ s. SlotStep old event.slot s event.what written new) → written.reply ≡ BadRange → written.output ≡ []
silent_at {A} old event written new None step is = ap (λ (r : Record A). r.output) step.recorded
silent_at {A} old event written new (Some s) step is =
    ap (λ (r : Record A). r.output) step.recorded
    ∙ given_silent s event.what old.health new.health step.outcome
    (subst (λ (r : Reply A). MayReply event.what r) (sym (ap (λ (r : Record A). r.reply) step.recorded) ∙ is)
    (given_replies s event.what old.health new.health step.outcome step.given)) step.given

-- so the output stays
pub silent : {A : Type 0} {old : World} {event : Event A} {reply : Reply A} {before after : List ℕ}
    {new : World} → Answers old event reply before after new → reply ≡ BadRange → after ≡ before
silent {A} {old} {event} {reply} {before} {after} {new} answers is =
    answers.appended
    ∙ (ap (λ (bytes : List ℕ). before
    ++ bytes) (silent_at old event answers.written new (slice_get old.slots event.slot) answers.step
    (answers.replied ∙ is))
    ∙ append-nil before)

-- an event that asks for no service doesn't pause
pub never_paused : {A : Type 0} (o : Option Pause) (what : EventKind A) (budget : Budget) (state : SlotState)
    (before after : Health) (new : SlotState) (output : List ℕ) (pause : Pause) → o ≡ None
    → TurnsTo (MayGive state what before after) o what budget state before after new output (turn.More pause)
    → ⊥
never_paused None what budget state before after new output pause is h = h
never_paused (Some other) what budget state before after new output pause is h = absurd (cc (is))

pub asks_none : {A : Type 0} (what : EventKind A) (budget : Budget) (state : SlotState) (before after : Health)
    (new : SlotState) (output : List ℕ) (pause : Pause) → asked_over_image what state ≡ None
    → Begins what budget state before after new output (turn.More pause) → ⊥
asks_none what budget state before after new output pause none h =
    never_paused (asked what state) what budget state before after new output pause
    (asks_nothing what state none) h

pub paused_suits : {A : Type 0} (what : EventKind A) (budget : Budget) (state : SlotState)
    (before after : Health) (new : SlotState) (output : List ℕ) (t : Turn A) → More ≡ response_to t
    → Begins what budget state before after new output t → SuitsCall what More
paused_suits (Write window offset width value) budget state before after new output (turn.More pause) told h =
    tt
paused_suits (Input bytes) budget state before after new output (turn.More pause) told h = tt
paused_suits (Device n (device.Write offset width value)) budget state before after new output (turn.More pause) told h =
    tt
paused_suits (Device n (device.Supply bytes)) budget state before after new output (turn.More pause) told h = tt
paused_suits (Device n (device.Receive frame)) budget state before after new output (turn.More pause) told h = tt
paused_suits (Device n device.DropSent) budget state before after new output (turn.More pause) told h = tt
paused_suits what budget state before after new output (turn.Answered reply) told h = absurd (cc (told))
paused_suits what budget state before after new output (turn.More pause) told h =
    asks_none what budget state before after new output pause refl h

-- a turn is neither busy nor idle
pub never_busy : {A : Type 0} (t : Turn A) → response_to t ≡ Busy → ⊥
never_busy (turn.Answered reply) is = cc (is)
never_busy (turn.More pause) is = cc (is)

pub never_idle : {A : Type 0} (t : Turn A) → response_to t ≡ Idle → ⊥
never_idle (turn.Answered reply) is = cc (is)
never_idle (turn.More pause) is = cc (is)
