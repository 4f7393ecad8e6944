-- When each refusal of a call comes.
use Rattle.std.proofs.Common.{◌≡◌, ◌⊎◌, ◌↔◌, inl, inr, ℕ, ◌<◌, ◌≤◌, Bool, true, false, List, length, Option, Some, None, refl, sym, ◌∙◌, ap, subst, arith}
use Rattle.std.specs.Prelude.{◌&&◌, ◌||◌, is_some, nat_lt, if◌then◌else◌, IsErrOf, IsSomeAnd, Result, Ok, Err}
use Rattle.std.specs.List.{slice_get}
use Rattle.std.specs.Option.{option_and_then, option_map_or}
use Rattle.std.proofs.lemmas.Bool.Decides.{nat_tests}
use Rattle.std.proofs.lemmas.Option.{slice_get_cases, slice_get_within, same_Some}
use Rattle.guest_memory.specs.Memory.{Inside}
use Rattle.board.specs.declared.event.Event.{Event}
use Rattle.board.specs.declared.event.EventKind.{EventKind}
use Rattle.board.specs.declared.event.EventKind.TheVariants.{Device, Host, Restore}
use Rattle.block_device.specs.declared.operation.HostEvent.{HostEvent}
use Rattle.board.specs.declared.pause.Pause.{Pause}
use Rattle.board.specs.declared.pause.Turn.{Turn}
use Rattle.board.specs.declared.pause.Turn.TheVariants as turn
use Rattle.board.specs.declared.reply.Reply.{Reply}
use Rattle.board.specs.declared.reply.Reply.TheVariants as reply
use Rattle.board.specs.declared.reply.Record.{Record}
use Rattle.block_device.specs.Tags.{is_any}
use Rattle.hosted_disk.specs.Told.{has_effect}
use Rattle.hosted_disk.specs.Disk.{HostedDisk}
use Rattle.board.specs.Backing.{tags_in}
use Rattle.board.specs.Hosting.{HostOrGives, OwnGives, ToldGives, has_part, must_wait, told_in, waits_now}
use Rattle.board.specs.Image.{Health}
use Rattle.board.specs.Outcome.{Outcome, replies}
use Rattle.board.specs.Pausing.{Begins, asked, asked_over_image}
use Rattle.board.specs.Restoring.{RestoresUnless}
use Rattle.board.specs.Slot.{BoardSlot, SlotState, state_of}
use Rattle.board.specs.Within.{MayPutOut}
use Rattle.board.specs.World.{MayGive, MayGiveBy, MayGiveOverImage, MayLackMemory}
use Rattle.board.proofs.Alone.{slot_step}
use Rattle.board.specs.Waiting.{waits_beside}
use Rattle.board.proofs.Waiting.{waited, waits_for_any}
use Rattle.session.specs.declared.progress.Progress.{Progress}
use Rattle.session.specs.declared.progress.Progress.TheVariants as progress
use Rattle.session.specs.declared.refusal.Refusal.{Refusal}
use Rattle.session.specs.declared.refusal.Refusal.TheVariants as refusal
use Rattle.session.specs.declared.response.Response.{Response}
use Rattle.session.specs.declared.response.Response.TheVariants.{Answered, More, Busy, Idle}
use Rattle.session.specs.declared.handed.Handed.{Handed}
use Rattle.session.specs.Answering.{Means, RefusalMeans, handed_by, handed_response, served_response}
use Rattle.session.specs.Operations.{HoldsUp, IsSpare}
use Rattle.session.specs.Pacing.{Handle, response_to}
use Rattle.session.specs.Pausing.{ComesTo, IsBegun, IsEventCall, IsToldCall, IsWhole}
use Rattle.session.specs.Session.{AnswersInPlace, IsIdle, IsOutside, IsStep, SessionState, world_of}
use Rattle.session.proofs.Access.{found_at}
use Rattle.session.proofs.Calls.{call_of_step, called_busy}
use Rattle.session.proofs.Devices.{waiting_asks, waiting_gives}
use Rattle.session.proofs.Parts.{asks_nothing}
use Rattle.session.proofs.Steps.{lacks_puts}
use Rattle.session.proofs.Suiting.{asks_none, never_busy, never_idle, never_paused}
use Rattle.session.proofs.Unchanged.{shown_at}

-- ---- what waits for what is in flight, and what finds nothing in flight

both_true : (a b : Bool) → (a && b) ≡ true → (a ≡ true) × (b ≡ true)
both_true true true is = (refl, refl)
both_true true false is = absurd (cc)
both_true false b is = absurd (cc)

busy_by : {A : Type 0} (state : SlotState) (what : EventKind A) (old new : Health) (outcome : Outcome A)
    → MayGive state what old new outcome → outcome.reply ≡ reply.Busy → waits_for_any what state ≡ true
busy_by state what old new outcome h is = (waited state.host state what old new outcome h is).0.waits

-- what the host says waits for nothing
said_free : {A : Type 0} (found : HostEvent) (what : EventKind A) → told_in what ≡ Some found
    → must_wait what ≡ true → ⊥
said_free found (Host said) is waits = cc
said_free found what is waits = cc

waits_gives : {A : Type 0} (Beside : Outcome A → Type 0) (state : SlotState) (what : EventKind A)
    (outcome : Outcome A) (said : Option HostEvent) → told_in what ≡ said → waits_now what state.host ≡ true
    → HostOrGives Beside said state what outcome → outcome.reply ≡ reply.Busy
waits_gives {A} Beside state what outcome None own holds h =
    ap (λ (o : Outcome A). o.reply)
    (subst (λ (waits : Bool). OwnGives Beside waits state what outcome) holds h)
waits_gives Beside state what outcome (Some said) is holds h =
    absurd (said_free said what is (both_true (is_any (tags_in state.host)) (must_wait what) holds).1)

own_waits_by : {A : Type 0} (host : Option HostedDisk) (state : SlotState) (what : EventKind A) (old new : Health)
    (outcome : Outcome A) → state.host ≡ host → waits_now what state.host ≡ true
    → MayGiveBy host state what old new outcome → outcome.reply ≡ reply.Busy
own_waits_by {A} None state what old new outcome is holds h =
    let none : waits_now {A = A} what None ≡ true = ap (waits_now what) (sym is) ∙ holds in absurd (cc (none))
own_waits_by {A} (Some disk) state what old new outcome is holds h =
    waits_gives (λ (o : Outcome A). MayGiveOverImage state what old old o) state what outcome (told_in what) refl
    holds h.gives

-- the same for what is in flight of a further disk
beside_gives : {A : Type 0} (state : SlotState) (what : EventKind A) (old new : Health) (outcome : Outcome A)
    → waits_beside what state ≡ true → MayGiveOverImage state what old new outcome → outcome.reply ≡ reply.Busy
beside_gives {A} state (Restore bytes) old new outcome waits (inl served) =
    ap (λ (o : Outcome A). o.reply)
    (subst (λ (works : Bool). RestoresUnless works state bytes outcome) waits served.alike.alike)
beside_gives state (Restore bytes) old new outcome waits (inr never) = absurd never
beside_gives state (Device n what) old new outcome waits h = waiting_gives n what state old new outcome waits h
beside_gives state _ old new outcome waits h = absurd (cc (waits))

beside_own : {A : Type 0} (state : SlotState) (what : EventKind A) (old : Health) (outcome : Outcome A)
    → waits_now what state.host ≡ false → waits_beside what state ≡ true
    → HostOrGives (λ (o : Outcome A). MayGiveOverImage state what old old o) (told_in what) state what outcome
    → outcome.reply ≡ reply.Busy
beside_own {A} state (Restore bytes) old outcome free waits h =
    beside_gives state (Restore bytes) old old outcome waits
    (subst (λ (w : Bool). OwnGives (λ (o : Outcome A). MayGiveOverImage state (Restore bytes) old old o) w state
    (Restore bytes) outcome) free h)
beside_own {A} state (Device n what) old outcome free waits h =
    beside_gives state (Device n what) old old outcome waits
    (subst (λ (w : Bool). OwnGives (λ (o : Outcome A). MayGiveOverImage state (Device n what) old old o) w state
    (Device n what) outcome) free h)
beside_own state _ old outcome free waits h = absurd (cc (waits))

beside_waits_by : {A : Type 0} (host : Option HostedDisk) (state : SlotState) (what : EventKind A) (old new : Health)
    (outcome : Outcome A) → waits_now what state.host ≡ false → waits_beside what state ≡ true
    → MayGiveBy host state what old new outcome → outcome.reply ≡ reply.Busy
beside_waits_by None state what old new outcome free waits h = beside_gives state what old new outcome waits h
beside_waits_by (Some disk) state what old new outcome free waits h =
    beside_own state what old outcome free waits h.gives

waits_by : {A : Type 0} (host : Option HostedDisk) (state : SlotState) (what : EventKind A) (old new : Health)
    (outcome : Outcome A) → state.host ≡ host → waits_for_any what state ≡ true
    → MayGiveBy host state what old new outcome → outcome.reply ≡ reply.Busy
waits_by host state what old new outcome is holds h = by_own (waits_now what state.host) refl holds
  where
    by_own : (own : Bool) → waits_now what state.host ≡ own → (own || waits_beside what state) ≡ true
        → outcome.reply ≡ reply.Busy
    by_own true now either = own_waits_by host state what old new outcome is now h
    by_own false free beside = beside_waits_by host state what old new outcome free beside h

-- and so no service of it begins
held_part : {A : Type 0} (host : Option HostedDisk) (state : SlotState) (what : EventKind A)
    → state.host ≡ host → waits_now what state.host ≡ true → has_part host what state ≡ true
held_part {A} None state what is holds =
    let none : waits_now {A = A} what None ≡ true = ap (waits_now what) (sym is) ∙ holds in absurd (cc (none))
held_part {A} (Some disk) state what is holds = rw holds (by_told (told_in what))
  where
    by_told : (said : Option HostEvent) → (is_some said || true) ≡ true
    by_told None = refl
    by_told (Some said) = refl

own_asks : {A : Type 0} (state : SlotState) (what : EventKind A) → waits_now what state.host ≡ true
    → asked what state ≡ None
own_asks state what holds = rw (held_part state.host state what refl holds) refl

beside_asks : {A : Type 0} (state : SlotState) (what : EventKind A) → waits_beside what state ≡ true
    → asked what state ≡ None
beside_asks {A} state (Restore bytes) waits = asks_nothing {A = A} (Restore bytes) state refl
beside_asks {A} state (Device n what) waits =
    asks_nothing {A = A} (Device n what) state (waiting_asks n what state waits)
beside_asks state _ waits = absurd (cc (waits))

held_asks : {A : Type 0} (state : SlotState) (what : EventKind A) → waits_for_any what state ≡ true
    → asked what state ≡ None
held_asks state what holds = by_own (waits_now what state.host) refl holds
  where
    by_own : (own : Bool) → waits_now what state.host ≡ own → (own || waits_beside what state) ≡ true
        → asked what state ≡ None
    by_own true now either = own_asks state what now
    by_own false free beside = beside_asks state what beside

-- where there is nothing to do for what the host says
module _ {A : Type 0} (state : SlotState) (outcome : Outcome A) where
  abbrev Rests : Type 0
  Rests = outcome.reply ≡ reply.Idle

  idles : outcome ≡ replies state reply.Idle → {P : Type 0} → P → Rests ↔ P
  idles h p = (λ is. p, λ q. ap (λ (o : Outcome A). o.reply) h)

  is_done : outcome.reply ≡ reply.Done → {P : Type 0} → (P → ⊥) → Rests ↔ P
  is_done done never = (λ is. absurd (cc (done, is)), λ p. absurd (never p))

  told_rests : (effect : Bool) (said : HostEvent) → ToldGives effect said state outcome → Rests ↔ (effect ≡ false)
  told_rests false said h = idles h refl
  told_rests true said h = is_done (ap (λ (o : Outcome A). o.reply) h.1) (λ none. absurd (cc none))

  pub rests_by : (host : Option HostedDisk) (said : HostEvent) (old new : Health) → state.host ≡ host
      → MayGiveBy host state (Host said) old new outcome → Rests ↔ IsSpare said state.host
  rests_by None said old new is (inl served) =
      idles served.alike.alike (ap (λ (host : Option HostedDisk). option_map_or (has_effect said) host false) is)
  rests_by None said old new is (inr never) = absurd never
  rests_by (Some disk) said old new is h = told_rests (option_map_or (has_effect said) state.host false) said h.gives

-- ---- the refusal that a response says

abbrev pub refusal_of : {A : Type 0} → Response A → Option Refusal
refusal_of (Answered reply.BadSlot) = Some refusal.BadSlot
refusal_of (Answered reply.BadRange) = Some refusal.BadRange
refusal_of (Answered reply.BadDevice) = Some refusal.BadDevice
refusal_of (Answered reply.NoMemory) = Some refusal.NoRoom
refusal_of (Answered reply.Busy) = Some refusal.Busy
refusal_of (Answered reply.Idle) = Some refusal.Idle
refusal_of Busy = Some refusal.Busy
refusal_of told = None

abbrev pub refused : {T : Type 0} → Result T Refusal → Option Refusal
refused (Ok value) = None
refused (Err why) = Some why

meant : {A : Type 0} (why : Refusal) (told : Response A) → RefusalMeans why told
    → refusal_of told ≡ Some why
meant refusal.Busy told (inl is) = rw is refl
meant refusal.Busy told (inr is) = rw is refl
meant why told is = rw is refl

pub means_refused : {A T : Type 0} (wanted : T → Response A) → ((value : T) → refusal_of (wanted value) ≡ None)
    → (r : Result T Refusal) (told : Response A) → Means wanted r told → refusal_of told ≡ refused r
means_refused wanted pure (Ok value) told is = rw is (pure value)
means_refused wanted pure (Err why) told is = meant why told is

is_err : {T : Type 0} (r : Result T Refusal) (why : Refusal) → refused r ≡ Some why → IsErrOf r why
is_err (Ok value) why is = absurd (cc (is))
is_err (Err w) why is = ap (λ x. Err x) (same_Some w why is)

-- an answer is this refusal where the response says it
pub refused_when : {A T : Type 0} (wanted : T → Response A) (told : Response A) (r : Result T Refusal)
    (why : Refusal) {P : Type 0} → ((value : T) → refusal_of (wanted value) ≡ None) → Means wanted r told
    → (refusal_of told ≡ Some why) ↔ P → IsErrOf r why ↔ P
refused_when {A} {T} wanted told r why {P} pure means says =
    let same = means_refused wanted pure r told means in (
      λ is. says.0 (same ∙ ap (λ (x : Result T Refusal). refused x) is),
      λ p. is_err r why (sym same ∙ says.1 p),
    )

-- ---- a call

-- what each refusal of an event says
pub record IsExact {A : Type 0} (old : SessionState) (slot : ℕ) (what : EventKind A) (response : Response A)
    : Type 0 where
  pub bad_slot : (refusal_of response ≡ Some refusal.BadSlot) ↔ (length old.slots ≤ slot)
  pub busy : (refusal_of response ≡ Some refusal.Busy) ↔ ((¬ IsIdle slot old) ⊎ HoldsUp slot what old)
  pub no_room :
      refusal_of response ≡ Some refusal.NoRoom → AnswersInPlace what →
      IsSomeAnd (slice_get old.slots slot) (λ found. MayPutOut (state_of old.image found) what)

-- what a reply says
telling : {A : Type 0} (answer : Reply A) (why : Refusal) → refusal_of (Answered answer) ≡ Some why
    → RefusalMeans why (Answered answer)
telling {A} reply.BadSlot why is =
    subst (λ w. RefusalMeans {A = A} w (Answered reply.BadSlot)) (same_Some refusal.BadSlot why is) refl
telling {A} reply.BadRange why is =
    subst (λ w. RefusalMeans {A = A} w (Answered reply.BadRange)) (same_Some refusal.BadRange why is) refl
telling {A} reply.BadDevice why is =
    subst (λ w. RefusalMeans {A = A} w (Answered reply.BadDevice)) (same_Some refusal.BadDevice why is) refl
telling {A} reply.NoMemory why is =
    subst (λ w. RefusalMeans {A = A} w (Answered reply.NoMemory)) (same_Some refusal.NoRoom why is) refl
telling {A} reply.Busy why is =
    subst (λ w. RefusalMeans {A = A} w (Answered reply.Busy)) (same_Some refusal.Busy why is) (inr refl)
telling {A} reply.Idle why is =
    subst (λ w. RefusalMeans {A = A} w (Answered reply.Idle)) (same_Some refusal.Idle why is) refl
telling answer why is = absurd (cc (is))

says_bad_slot : {A : Type 0} (answer : Reply A)
    → (refusal_of (Answered answer) ≡ Some refusal.BadSlot) ↔ (answer ≡ reply.BadSlot)
says_bad_slot {A} answer = (
  λ is. let told : Answered answer ≡ Answered reply.BadSlot = telling answer refusal.BadSlot is in cc (told),
  λ is. rw is refl,
)

says_busy : {A : Type 0} (answer : Reply A)
    → (refusal_of (Answered answer) ≡ Some refusal.Busy) ↔ (answer ≡ reply.Busy)
says_busy {A} answer = (
  λ is. elim (telling answer refusal.Busy is) [
    | inl never ↦ absurd (cc (never))
    | inr told ↦ cc (told)
  ],
  λ is. rw is refl,
)

says_no_room : {A : Type 0} (answer : Reply A) → refusal_of (Answered answer) ≡ Some refusal.NoRoom
    → answer ≡ reply.NoMemory
says_no_room {A} answer is =
    let told : Answered answer ≡ Answered reply.NoMemory = telling answer refusal.NoRoom is in cc (told)

pub says_idle : {A : Type 0} (answer : Reply A)
    → (refusal_of (Answered answer) ≡ Some refusal.Idle) ↔ (answer ≡ reply.Idle)
says_idle {A} answer = (
  λ is. let told : Answered answer ≡ Answered reply.Idle = telling answer refusal.Idle is in cc (told),
  λ is. rw is refl,
)

pub says_bad_device : {A : Type 0} (answer : Reply A)
    → (refusal_of (Answered answer) ≡ Some refusal.BadDevice) ↔ (answer ≡ reply.BadDevice)
says_bad_device {A} answer = (
  λ is. let told : Answered answer ≡ Answered reply.BadDevice = telling answer refusal.BadDevice is in cc (told),
  λ is. rw is refl,
)

-- where nothing of the slot is paused it is idle, and else not
idle_at : (s : SessionState) (slot : ℕ) (o : Option (Option Pause)) → slice_get s.paused slot ≡ o
    → option_and_then (λ (here : Option Pause). here) o ≡ None → IsIdle slot s
idle_at s slot o is none = rw is none

paused_not : (s : SessionState) (slot : ℕ) (pause : Pause) → slice_get s.paused slot ≡ Some (Some pause)
    → ¬ IsIdle slot s
paused_not s slot pause is idle =
    let now : ◌≡◌ {A = Option Pause} (Some pause) None = rw is at idle in cc (now)

-- what a slot that is there gives for an event that is answered
pub record Gave {A : Type 0} (found : BoardSlot) (old : SessionState) (what : EventKind A) (answer : Reply A)
    : Type 0 where
  pub after : Health
  pub outcome : Outcome A
  pub given : MayGive (state_of old.image found) what (world_of old).health after outcome
  pub said : outcome.reply ≡ answer

gave : {A : Type 0} (old new : SessionState) (event : Event A) (answer : Reply A) (found : BoardSlot)
    → slice_get old.slots event.slot ≡ Some found → IsStep old event answer new
    → Gave found old event.what answer
gave {A} old new event answer found here h =
    let step = slot_step (world_of old) event h.answers.written (world_of new) (state_of old.image found)
    (shown_at old.slots old.image event.slot found here) h.answers.step in
    record {
      after = (world_of new).health;
      outcome = step.outcome;
      given = step.given;
      said = sym (ap (λ (w : Record A). w.reply) step.recorded) ∙ h.answers.replied;
    }

-- a slot that puts something out is there
puts_at : {A : Type 0} (o : Option BoardSlot) (image : List ℕ) (what : EventKind A) → AnswersInPlace what
    → IsSomeAnd o (λ slot. MayLackMemory (state_of image slot) what)
    → IsSomeAnd o (λ found. MayPutOut (state_of image found) what)
puts_at None image what any h = absurd h
puts_at (Some found) image what any h = lacks_puts (state_of image found) what any h

module _ {A : Type 0} (old new : SessionState) (event : Event A)
    (many : length old.paused ≡ length old.slots) where
  -- a slot that is there, and of which nothing is paused
  module _ (here : slice_get old.paused event.slot ≡ Some None) where
    below : event.slot < length old.slots
    below = rw (← many) (slice_get_within old.paused event.slot None here)

    abbrev found : BoardSlot
    found = (found_at old.slots event.slot below).0

    there : slice_get old.slots event.slot ≡ Some found
    there = (found_at old.slots event.slot below).1

    idle : IsIdle event.slot old
    idle = idle_at old event.slot (Some None) here refl

    abbrev Held : Type 0
    Held = waits_for_any event.what (state_of old.image found) ≡ true

    holds : Held → HoldsUp event.slot event.what old
    holds is = rw there is

    held : HoldsUp event.slot event.what old → Held
    held is = rw there at is

    answered : (answer : Reply A) → IsStep old event answer new
        → IsExact old event.slot event.what (Answered answer)
    answered answer h =
        let came = gave old new event answer found there h in
        let busy_says = says_busy answer in
        record {
          bad_slot = (
            λ is. h.bad_slot.0 ((says_bad_slot answer).0 is),
            λ past. (says_bad_slot answer).1 (h.bad_slot.1 past),
          );
          busy = (
            λ is.
                inr (holds (busy_by (state_of old.image found) event.what _ came.after came.outcome
                came.given (came.said ∙ busy_says.0 is))),
            λ either. elim either [
              | inl paused ↦ absurd (paused idle)
              | inr waits ↦ busy_says.1 (sym came.said
                  ∙ waits_by found.host (state_of old.image found) event.what _ came.after came.outcome
                  refl (held waits) came.given)
            ],
          );
          no_room = λ is any. puts_at (slice_get old.slots event.slot) old.image event.what any
              (h.no_memory (says_no_room answer is));
        }

    -- a service of it pauses
    pauses : IsBegun event old More new → IsExact {A = A} old event.slot event.what More
    pauses h = record {
      bad_slot = (λ is. absurd (cc (is)), λ past. absurd (omega (arith, past, below)));
      busy = (
        λ is. absurd (cc (is)),
        λ either. elim either [
          | inl paused ↦ absurd (paused idle)
          | inr waits ↦ absurd (never_more _ _ h.turn.taken.after h.turn.output h.turn.turn (held waits)
              h.turn.told
              (subst (λ (s : SlotState). Begins event.what old.budget s _ _ h.turn.taken.after h.turn.output
              h.turn.turn)
              (same_Some h.turn.taken.state (state_of old.image found)
              (sym h.turn.taken.there ∙ shown_at old.slots old.image event.slot found there))
              h.turn.taken.comes))
        ],
      );
      no_room = λ is any. absurd (cc (is));
    }
      where
        never_more : (before after : Health) (last : SlotState) (output : List ℕ) (t : Turn A) → Held
            → More ≡ response_to t
            → Begins event.what old.budget (state_of old.image found) before after last output t → ⊥
        never_more before after last output (turn.Answered reply) is told h = cc (told)
        never_more before after last output (turn.More pause) is told h =
            never_paused (asked event.what (state_of old.image found)) event.what old.budget
            (state_of old.image found) before after last output pause
            (held_asks (state_of old.image found) event.what is) h

  exact_at : (response : Response A) (o : Option (Option Pause)) → slice_get old.paused event.slot ≡ o
      → ComesTo (Handle event) o old response new → IsWhole old event response new
      → IsExact old event.slot event.what response
  exact_at response None is comes whole =
      let past : length old.slots ≤ event.slot = grind (arith, many, slice_get_cases old.paused event.slot) in
      rw (comes.0) (record {
        bad_slot = (λ told. past, λ far. refl);
        busy = (
          λ told. absurd (cc (told)),
          λ either. elim either [
            | inl paused ↦ absurd (paused (idle_at old event.slot None is refl))
            | inr waits ↦ absurd (past_holds (slice_get old.slots event.slot) refl past waits)
          ],
        );
        no_room = λ told any. absurd (cc (told));
      })
    where
      past_holds : (o : Option BoardSlot) → slice_get old.slots event.slot ≡ o
          → length old.slots ≤ event.slot
          → IsSomeAnd o (λ s. waits_for_any event.what (state_of old.image s) ≡ true) → ⊥
      past_holds None is far waits = waits
      past_holds (Some s) is far waits =
          let fits = slice_get_within old.slots event.slot s is in omega (arith, fits, far)
  exact_at response (Some (Some pause)) is comes whole =
      let fits : event.slot < length old.slots =
      rw (← many) (slice_get_within old.paused event.slot (Some pause) is) in
      rw (comes.0) (record {
        bad_slot = (λ told. absurd (cc (told)), λ past. absurd (omega (arith, past, fits)));
        busy = (λ told. inl (paused_not old event.slot pause is), λ either. refl);
        no_room = λ told any. absurd (cc (told));
      })
  exact_at (Answered answer) (Some None) is comes whole = answered is answer whole
  exact_at More (Some None) is comes whole = pauses is comes
  exact_at Busy (Some None) is comes whole = absurd (never_busy comes.turn.turn (sym comes.turn.told))
  exact_at Idle (Some None) is comes whole = absurd (never_idle comes.turn.turn (sym comes.turn.told))

pub exact : {A : Type 0} (old new : SessionState) (slot : ℕ) (what : EventKind A) (response : Response A)
    → length old.paused ≡ length old.slots → IsEventCall old slot what response new
    → IsExact old slot what response
exact old new slot what response many call =
    exact_at old new (record { slot = slot; what = what }) many response (slice_get old.paused slot) refl
    call.turn call.whole

-- what each refusal says that a call answers
pub record Refuses {A T : Type 0} (old : SessionState) (slot : ℕ) (what : EventKind A) (r : Result T Refusal)
    : Type 0 where
  pub bad_slot : IsErrOf r refusal.BadSlot ↔ (length old.slots ≤ slot)
  pub busy : IsErrOf r refusal.Busy ↔ ((¬ IsIdle slot old) ⊎ HoldsUp slot what old)
  pub no_room :
      IsErrOf r refusal.NoRoom → AnswersInPlace what →
      IsSomeAnd (slice_get old.slots slot) (λ found. MayPutOut (state_of old.image found) what)

pub refuses : {A T : Type 0} (old new : SessionState) (slot : ℕ) (what : EventKind A) (told : Response A)
    (wanted : T → Response A) (r : Result T Refusal) → ((value : T) → refusal_of (wanted value) ≡ None)
    → Means wanted r told → length old.paused ≡ length old.slots → IsEventCall old slot what told new
    → Refuses old slot what r
refuses {A} {T} old new slot what told wanted r pure means many call =
    let says : IsExact old slot what told = exact old new slot what told many call in
    let same = means_refused wanted pure r told means in
    record {
      bad_slot = refused_when wanted told r refusal.BadSlot pure means says.bad_slot;
      busy = refused_when wanted told r refusal.Busy pure means says.busy;
      no_room = λ is any. says.no_room (same ∙ ap (λ (x : Result T Refusal). refused x) is) any;
    }

-- and what is told of the call
pub told_call : {A T : Type 0} (old new : SessionState) (slot : ℕ) (what : EventKind A) (told : Response A)
    (wanted : T → Response A) (r : Result T Refusal) → ((value : T) → refusal_of (wanted value) ≡ None)
    → Means wanted r told → length old.paused ≡ length old.slots → IsEventCall old slot what told new
    → IsToldCall old slot what (Means wanted r) new × Refuses old slot what r
told_call old new slot what told wanted r pure means many call = (
  record { response = told; call = call; told = means },
  refuses old new slot what told wanted r pure means many call,
)

-- a service of the slot is paused: the call is busy
pub busy_call : {A : Type 0} (old : SessionState) (slot : ℕ) (what : EventKind A) → ¬ IsIdle slot old
    → IsEventCall old slot what Busy old
busy_call old slot what busy =
    record { turn = called_busy old (record { slot = slot; what = what }) busy; whole = tt }

-- else it is a step, where its event asks for no service
pub step_call : {A : Type 0} (old new : SessionState) (slot : ℕ) (what : EventKind A) (answer : Reply A)
    → length old.paused ≡ length old.slots → IsIdle slot old
    → ((state : SlotState) → asked_over_image what state ≡ None)
    → IsStep old (record { slot = slot; what = what }) answer new
    → IsEventCall old slot what (Answered answer) new
step_call old new slot what answer many idle silent step = record {
  turn = call_of_step old new (record { slot = slot; what = what }) answer idle many
      (λ state. asks_nothing what state (silent state)) step;
  whole = step;
}

pub served_pure : (A : Type 0) (came : Progress) → refusal_of {A = A} (served_response came) ≡ None
served_pure A progress.Done = refl
served_pure A progress.More = refl
served_pure A progress.Asks = refl

handed_pure_by : (A : Type 0) (taken : ℕ) (came : Progress) → refusal_of {A = A} (handed_by taken came) ≡ None
handed_pure_by A taken progress.Done = refl
handed_pure_by A taken progress.More = refl
handed_pure_by A taken progress.Asks = refl

pub handed_pure : (A : Type 0) (handed : Handed) → refusal_of {A = A} (handed_response handed) ≡ None
handed_pure A handed = handed_pure_by A handed.taken handed.progress

-- an event that waits for nothing is busy where a service is paused
pub only_paused : {A : Type 0} (old : SessionState) (slot : ℕ) (what : EventKind A) {P : Type 0}
    → must_wait what ≡ false → ((state : SlotState) → waits_beside what state ≡ false)
    → P ↔ ((¬ IsIdle slot old) ⊎ HoldsUp slot what old) → P ↔ (¬ IsIdle slot old)
only_paused old slot what free beside says = (
  λ p. elim (says.0 p) [
    | inl paused ↦ paused
    | inr waits ↦ absurd (free_holds (slice_get old.slots slot) waits)
  ],
  λ paused. says.1 (inl paused),
)
  where
    never : (s : BoardSlot) (own : Bool) → waits_now what s.host ≡ own
        → (own || waits_beside what (state_of old.image s)) ≡ true → ⊥
    never s true now either =
        let must = (both_true (is_any (tags_in s.host)) (must_wait what) now).1 in cc (must, free)
    never s false now waits = let none = beside (state_of old.image s) in cc (waits, none)

    free_holds : (o : Option BoardSlot)
        → IsSomeAnd o (λ s. waits_for_any what (state_of old.image s) ≡ true) → ⊥
    free_holds None waits = waits
    free_holds (Some s) waits = never s (waits_now what s.host) refl waits

-- ---- where a slot that is there and idle answers a refusal

module _ {A : Type 0} (old new : SessionState) (slot : ℕ) (what : EventKind A)
    (many : length old.paused ≡ length old.slots) (why : Refusal) (P : BoardSlot → Type 0) where
  abbrev its : Event A
  its = record { slot = slot; what = what }

  abbrev IsSaid : Response A → Type 0
  IsSaid response =
      (refusal_of response ≡ Some why) ↔ (IsIdle slot old × IsSomeAnd (slice_get old.slots slot) P)

  -- an event of which a slot answers this refusal exactly where P holds of it, and then asks for no service
  module _ (quiet : (one : BoardSlot) → P one → asked_over_image what (state_of old.image one) ≡ None)
      (there_is : Some refusal.BadSlot ≡ Some why → ⊥) (free : Some refusal.Busy ≡ Some why → ⊥)
      (answers : (answer : Reply A) (one : BoardSlot) → Gave one old what answer
      → (refusal_of (Answered answer) ≡ Some why) ↔ P one) where
    said_here : (here : slice_get old.paused slot ≡ Some None) (answer : Reply A) → IsStep old its answer new
        → IsSaid (Answered answer)
    said_here here answer h =
        let slot_there = there old new its many here in
        let one = found old new its many here in
        let exact = answers answer one (gave old new its answer one slot_there h) in (
          λ is. (idle old new its many here, rw slot_there (exact.0 is)),
          λ says. exact.1 (rw slot_there at (says.1)),
        )

    said_exact : (response : Response A) (o : Option (Option Pause)) → slice_get old.paused slot ≡ o
        → ComesTo (Handle its) o old response new → IsWhole old its response new → IsSaid response
    said_exact response None is comes whole =
        let past : length old.slots ≤ slot = grind (arith, many, slice_get_cases old.paused slot) in
        rw (comes.0) (
          λ is. absurd (there_is is),
          λ says. absurd (past_says (slice_get old.slots slot) refl past (says.1)),
        )
      where
        past_says : (o : Option BoardSlot) → slice_get old.slots slot ≡ o → length old.slots ≤ slot
            → IsSomeAnd o P → ⊥
        past_says None is far says = says
        past_says (Some s) is far says =
            let fits = slice_get_within old.slots slot s is in omega (arith, fits, far)
    said_exact response (Some (Some pause)) is comes whole =
        rw (comes.0) (λ told. absurd (free told), λ says. absurd (paused_not old slot pause is (says.0)))
    said_exact (Answered answer) (Some None) is comes whole = said_here is answer whole
    said_exact More (Some None) is comes whole = (
      λ told. absurd (cc (told)),
      λ says. absurd (pauses_never (found old new its many is) (there old new its many is) (says.1)),
    )
      where
        never : (state : SlotState) (before after : Health) (last : SlotState) (output : List ℕ)
            (t : Turn A) → More ≡ response_to t → asked_over_image what state ≡ None
            → Begins what old.budget state before after last output t → ⊥
        never state before after last output (turn.Answered reply) more asks h = cc (more)
        never state before after last output (turn.More pause) more asks h =
            asks_none what old.budget state before after last output pause asks h

        pauses_never : (one : BoardSlot) → slice_get old.slots slot ≡ Some one
            → IsSomeAnd (slice_get old.slots slot) P → ⊥
        pauses_never one here says =
            let taken = comes.turn.taken in
            let same : state_of old.image one ≡ taken.state =
            same_Some _ taken.state (sym (shown_at old.slots old.image slot one here) ∙ taken.there) in
            never taken.state _ _ taken.after comes.turn.output comes.turn.turn comes.turn.told
            (subst (λ (s : SlotState). asked_over_image what s ≡ None) same (quiet one (rw here at says))) taken.comes
    said_exact Busy (Some None) is comes whole = absurd (never_busy comes.turn.turn (sym comes.turn.told))
    said_exact Idle (Some None) is comes whole = absurd (never_idle comes.turn.turn (sym comes.turn.told))

    pub said_call : (response : Response A) → IsEventCall old slot what response new → IsSaid response
    said_call response call = said_exact response (slice_get old.paused slot) refl call.turn call.whole

-- ---- a range that doesn't lie in the memory

outside_at : (slots : List BoardSlot) (slot addr n : ℕ) (P : Type 0) → P → (o : Option BoardSlot)
    → slice_get slots slot ≡ o
    → (IsSomeAnd o (λ found. Inside found.memory addr n) → ⊥)
    → (IsErrOf {T = Unit {0}} (Err (if nat_lt slot (length slots) then refusal.BadRange else refusal.BadSlot))
    refusal.BadRange) ↔ (P × IsSomeAnd o (λ found. ¬ Inside found.memory addr n))
outside_at slots slot addr n P p None here outside =
    let test : nat_lt slot (length slots) ≡ false = grind (arith, nat_tests, slice_get_cases slots slot) in
    rw test (λ is. absurd (cc (is)), λ both. absurd (both.1))
outside_at slots slot addr n P p (Some found) here outside =
    let fits : slot < length slots = slice_get_within slots slot found here in
    let test : nat_lt slot (length slots) ≡ true = grind (arith, nat_tests) in
    rw test (λ is. (p, outside), λ both. refl)

pub outside_range : (slots : List BoardSlot) (slot addr n : ℕ) (P : Type 0) → P
    → (IsSomeAnd (slice_get slots slot) (λ found. Inside found.memory addr n) → ⊥)
    → (IsErrOf {T = Unit {0}} (Err (if nat_lt slot (length slots) then refusal.BadRange else refusal.BadSlot))
    refusal.BadRange) ↔ (P × IsOutside slot addr n slots)
outside_range slots slot addr n P p outside =
    outside_at slots slot addr n P p (slice_get slots slot) refl outside
