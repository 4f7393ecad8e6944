-- What the board answers, as a step of the session.
use Rattle.std.proofs.Common.{◌≡◌, ℕ, zero, suc, ◌<◌, ◌≤◌, Bool, ◌↔◌, List, [], ◌∷◌, ◌++◌, length, map, Option, Some, None, refl, sym, ◌∙◌, ap, subst, arith}
use Rattle.std.specs.Prelude.{slice_set, IsSomeAnd, unwrap_or, Ok}
use Rattle.std.specs.List.{slice_get}
use Rattle.std.proofs.lemmas.List.{length-map}
use Rattle.std.proofs.lemmas.Option.{slice_get_within, same_Some}
use Rattle.chain.specs.declared.budget.Budget.{Budget}
use Rattle.sector_cache.specs.Disk.{Disk}
use Rattle.block_device.specs.declared.extent.Extent.{Extent}
use Rattle.board.specs.declared.event.DeviceEvent.TheVariants.{Plug, TakeSent}
use Rattle.board.specs.declared.event.Event.{Event}
use Rattle.board.specs.declared.event.EventKind.{EventKind}
use Rattle.board.specs.declared.event.EventKind.TheVariants.{Write, MemRead, Device}
use Rattle.board.specs.declared.in_place.InPlace.{InPlace as InPlaceEvent}
use Rattle.board.specs.declared.in_place.DeviceInPlace.TheVariants as device
use Rattle.board.specs.declared.in_place.InPlace.TheVariants as slice
use Rattle.board.specs.declared.pause.Pause.{Pause}
use Rattle.board.specs.declared.pause.Turn.{Turn}
use Rattle.board.specs.declared.pause.Turn.TheVariants as turn
use Rattle.board.specs.declared.pause.Work.{Work}
use Rattle.board.specs.declared.pause.Work.TheVariants as work
use Rattle.board.specs.declared.reply.Reply.{Reply}
use Rattle.board.specs.declared.reply.Reply.TheVariants.{BadSlot, BadRange, NoMemory}
use Rattle.board.specs.declared.pause.Service.TheVariants.{Transmit}
use Rattle.board.specs.Extent.{outside_of}
use Rattle.board.specs.Image.{Health, bytes_of}
use Rattle.board.specs.InPlace.{event_in}
use Rattle.board.specs.Machine.{task_at, with_write}
use Rattle.board.specs.Pausing.{Begins, Does, GoesOn, HasLimit, MayLackMemoryIn, TakesTurn}
use Rattle.board.specs.Slot.{SlotState, BoardSlot, state_of, whole_extent}
use Rattle.board.specs.declared.task.Task.{Task}
use Rattle.board.specs.declared.task.Task.TheVariants.{Serve, PutOut}
use Rattle.board.specs.World.{World, Answers, KeepsOthers, MayLackMemory, TakesMemory, extents_of}
use Rattle.board.specs.Within.{BeginsWithin, DoesWithin, GoesOnWithin, IsPuttingOut, MayPutOut, TakesWithin}
use Rattle.board.proofs.Answered.{ended_within, handled}
use Rattle.board.proofs.Runs.{answered}
use Rattle.board.proofs.Lists.{others_kept}
use Rattle.board.proofs.Outside.{length-outside}
use Rattle.output_queue.specs.Waiting.{Waiting, none_waiting}
use Rattle.session.specs.declared.response.Response.{Response}
use Rattle.session.specs.declared.response.Response.TheVariants.{Answered, More}
use Rattle.session.specs.declared.turn_kind.TurnKind.{TurnKind}
use Rattle.session.specs.declared.turn_kind.TurnKind.TheVariants.{Begin, InPlace, Resume}
use Rattle.session.specs.Pacing.{GoOn, Handle, call_of, paused_by, response_to, work_in}
use Rattle.session.specs.Answering.{SuitsCall, SuitsTurn}
use Rattle.session.specs.Pausing.{IsCall, IsTurn, IsWhole, IsWholeCall}
use Rattle.session.specs.Session.{AnswersInPlace, BeginsInPlace, IsStep, SessionState, limit_of, output_of, world_of}
use Rattle.board.proofs.Lists.{set_same}
use Rattle.session.proofs.Suiting.{paused_suits, silent, suits}
use Rattle.session.proofs.Unchanged.{missing}
use Rattle.session.proofs.Waiting.{limits_set, same_outlet, set_there}

-- ---- an event that the board answered

at_image : {A : Type 0} (o : Option BoardSlot) (image : List ℕ) (what : EventKind A)
    → IsSomeAnd o (λ slot. (bytes : List ℕ) → MayLackMemory (state_of bytes slot) what)
    → IsSomeAnd o (λ slot. MayLackMemory (state_of image slot) what)
at_image None image what never = absurd never
at_image (Some slot) image what lacks = lacks image

-- where the bytes outside some extents are those outside others, both images are equally long
same_size : (extents extents' : List Extent) (bytes bytes' : List ℕ)
    → outside_of extents' bytes' ≡ outside_of extents bytes → length bytes' ≡ length bytes
same_size extents extents' bytes bytes' same =
    sym (length-outside extents' 0 bytes') ∙ (ap length same ∙ length-outside extents 0 bytes)

-- a board of equal extents has as many slots
pub as_many : (slots slots' : List BoardSlot) → extents_of slots' ≡ extents_of slots
    → length slots' ≡ length slots
as_many slots slots' same =
    sym (length-map slots' whole_extent) ∙ (ap length same ∙ length-map slots whole_extent)

-- a session over a board with these slots and this image
abbrev pub shown : List BoardSlot → Disk → List Waiting → List (Option Pause) → Budget → SessionState
shown slots disk outputs paused budget =
    record {
      slots = slots;
      image = bytes_of disk;
      dirty = disk.dirty;
      outputs = outputs;
      paused = paused;
      budget = budget;
    }

-- a session with these slots and this image, what its consoles put out and what is paused
abbrev pub session : List BoardSlot → List ℕ → Bool → List Waiting → List (Option Pause)
    → Budget → SessionState
session slots image dirty outputs paused budget =
    record {
      slots = slots;
      image = image;
      dirty = dirty;
      outputs = outputs;
      paused = paused;
      budget = budget;
    }

-- the slot that is seen so
shown_back : (slots : List BoardSlot) (bytes : List ℕ) (h : ℕ) (state : SlotState)
    → slice_get (map (state_of bytes) slots) h ≡ Some state → (slot : BoardSlot)
    × (slice_get slots h ≡ Some slot) × (state_of bytes slot ≡ state)
shown_back [] bytes h state here = absurd (cc)
shown_back (s ∷ slots) bytes zero state here = (s, refl, same_Some (state_of bytes s) state here)
shown_back (s ∷ slots) bytes (suc h) state here = shown_back slots bytes h state here

task_puts : (task : Task) (state : SlotState) → TakesMemory task state → IsPuttingOut task
task_puts (Serve Transmit) state h = tt
task_puts (PutOut byte) state h = tt
task_puts task state h = h

pub lacks_puts : {A : Type 0} (state : SlotState) (what : EventKind A) → AnswersInPlace what → MayLackMemory state what
    → MayPutOut state what
lacks_puts state (Write window offset width value) why h =
    task_puts (task_at window offset width value state) (with_write window offset width value state) h
lacks_puts state (MemRead addr len) why h = absurd why
lacks_puts state (Device n (Plug spec)) why h = absurd why
lacks_puts state (Device n TakeSent) why h = absurd why
lacks_puts state what why h = h

lacks_at : {A : Type 0} (o : Option BoardSlot) (image : List ℕ) (slot : BoardSlot) (what : EventKind A)
    → o ≡ Some slot → IsSomeAnd o (λ s. (bytes : List ℕ) → MayLackMemory (state_of bytes s) what)
    → MayLackMemory (state_of image slot) what
lacks_at o image slot what is h = (rw is at h) image

answers_at : {A : Type 0} (old new : World) (event : Event A) (reply : Reply A)
    (before before' after after' : List ℕ) → before' ≡ before → after' ≡ after
    → Answers old event reply before after new → Answers old event reply before' after' new
answers_at old new event reply before before' after after' p q h = rw (p, q) h

within_at : {A : Type 0} (what : EventKind A) (reply : Reply A) (s s' t t' : SlotState) (limit limit' : ℕ)
    (before before' after after' : List ℕ) → s ≡ s' → t ≡ t' → limit' ≡ limit
    → before' ≡ before → after' ≡ after →
    TakesWithin limit s what t before after reply → TakesWithin limit' s' what t' before' after' reply
within_at what reply s s' t t' limit limit' before before' after after' p q l b a h = rw (← p, ← q, l, b, a) h

-- ---- a turn of the board

within_for : {A : Type 0} (Within : ℕ → SlotState → SlotState → List ℕ → List ℕ → Turn A → Type 0)
    (s s' t t' : SlotState) (limit limit' : ℕ)
    (before before' after after' : List ℕ) (turn : Turn A)
    → s ≡ s' → t ≡ t' → limit' ≡ limit → before' ≡ before → after' ≡ after
    → Within limit s t before after turn → Within limit' s' t' before' after' turn
within_for Within s s' t t' limit limit' before before' after after' turn p q l b a h =
    rw (← p, ← q, l, b, a) h

limits : {A : Type 0} {P : Type 0} (t : Turn A) → ((next : Pause) → t ≡ turn.More next → P) → response_to t ≡ More → P
limits (turn.Answered reply) h is = absurd (cc (is))
limits (turn.More pause) h is = h pause refl

-- ---- what a turn of any kind comes to

-- no answer to an event whose bytes are in a slice takes memory
answers_in_place : (A : Type 0) (what : InPlaceEvent) → AnswersInPlace {A = A} (event_in what)
answers_in_place A (slice.Input bytes) = tt
answers_in_place A (slice.Device n (device.Write offset width value)) = tt
answers_in_place A (slice.Device n (device.Supply bytes)) = tt
answers_in_place A (slice.Device n (device.Receive frame)) = tt
answers_in_place A (slice.Device n device.DropSent) = tt

pub record Turned {A : Type 0} (old : SessionState) (slot : ℕ) (kind : TurnKind A) (response : Response A)
    (new : SessionState) : Type 0 where
  pub call : IsCall old (call_of slot kind) response new
  pub whole : IsWholeCall old (call_of slot kind) response new
  pub suits : SuitsTurn kind response

-- of a slot that isn't there
pub turn_past : {A : Type 0} (s : SessionState) (slot : ℕ) (kind : TurnKind A) → slice_get s.paused slot ≡ None
    → length s.slots ≤ slot → Turned s slot kind (Answered BadSlot) s
turn_past s slot (Begin what) none past = record {
  call = rw none (refl, refl);
  whole = missing s (record { slot = slot; what = what.now }) past;
  suits = tt;
}
turn_past s slot (InPlace what) none past = record {
  call = rw none (refl, refl);
  whole = missing s (record { slot = slot; what = event_in what }) past;
  suits = tt;
}
turn_past s slot Resume none past = record { call = rw none (refl, refl); whole = tt; suits = tt }

module _ (A : Type 0) (slots slots' : List BoardSlot) (image image' : List ℕ) (dirty dirty' : Bool)
    (outputs : List Waiting) (paused : List (Option Pause)) (budget : Budget) (slot : ℕ) (before after : Waiting)
    (here : slice_get outputs slot ≡ Some before) (same_limit : after.limit ≡ before.limit)
    (others : KeepsOthers slot slots slots') (extents : extents_of slots' ≡ extents_of slots)
    (as_many : length outputs ≡ length slots) where
  abbrev pub was : SessionState
  was = session slots image dirty outputs paused budget

  -- the session behind a turn
  abbrev pub now : Turn A → SessionState
  now t = session slots' image' dirty' (slice_set outputs slot after) (slice_set paused slot (paused_by t)) budget

  fits : slot < length outputs
  fits = slice_get_within outputs slot before here

  waited : output_of slot was ≡ before.bytes
  waited = ap (λ (o : Option Waiting). (unwrap_or o (none_waiting 0)).bytes) here

  limited_so : limit_of slot was ≡ before.limit
  limited_so = ap (λ (o : Option Waiting). (unwrap_or o (none_waiting 0)).limit) here

  waits : (t : Turn A) → output_of slot (now t) ≡ after.bytes
  waits t = ap (λ (o : Waiting). o.bytes) (set_there outputs slot after fits)

  -- what the board says of a turn
  pub record Says (job : Work A) (t : Turn A) (block console : ℕ) : Type 0 where
    pub takes :
        TakesTurn (Does job budget) (world_of was) slot t block console before.bytes after.bytes (world_of (now t))
    pub within :
        (found later : BoardSlot) → slice_get slots slot ≡ Some found → slice_get slots' slot ≡ Some later →
        DoesWithin before.limit job budget (state_of image found) (state_of image' later) before.bytes
        after.bytes t
    pub limited : (next : Pause) → t ≡ turn.More next → HasLimit budget
    pub bad_slot : (t ≡ turn.Answered BadSlot) ↔ (length slots ≤ slot)
    pub bad_range_keeps : t ≡ turn.Answered BadRange → session slots' image' dirty' outputs paused budget ≡ was
    pub no_memory :
        t ≡ turn.Answered NoMemory →
        IsSomeAnd (slice_get slots slot) (λ found. (bytes : List ℕ) → MayLackMemoryIn job (state_of bytes found))

  -- ---- a turn of the board is one of the session

  turned : (Comes : SlotState → Health → Health → SlotState → List ℕ → Turn A → Type 0)
      (Within : ℕ → SlotState → SlotState → List ℕ → List ℕ → Turn A → Type 0) (t : Turn A) (block console : ℕ)
      → TakesTurn Comes (world_of was) slot t block console before.bytes after.bytes (world_of (now t))
      → ((found later : BoardSlot) → slice_get slots slot ≡ Some found → slice_get slots' slot ≡ Some later
      → Within before.limit (state_of image found) (state_of image' later) before.bytes after.bytes t)
      → IsTurn Comes Within was slot (response_to t) (now t)
  turned Comes Within t block console r decided = record {
    turn = t;
    output = r.output;
    block = block;
    console = console;
    taken = r.taken;
    told = refl;
    behind = waits t ∙ r.appended ∙ ap (λ (bytes : List ℕ). bytes ++ r.output) (sym waited);
    paused = refl;
    within = λ found later there later_there.
        let one = shown_back slots image slot found there in
        let two = shown_back slots' image' slot later later_there in
        within_for Within _ found _ later before.limit _ before.bytes _ after.bytes _ t one.2 two.2
        limited_so waited (waits t) (decided one.0 two.0 one.1 two.1);
    others = others;
    outputs = others_kept outputs slot after;
    extents = extents;
    size = same_size (extents_of slots) (extents_of slots') image image' r.taken.outside;
    limits = limits_set outputs slot before after here same_limit;
    budget = refl;
  }

  -- a service that goes on
  pub went_on : (pause : Pause) (t : Turn A) (block console : ℕ) → slice_get paused slot ≡ Some (Some pause)
      → Says (work.Resume pause) t block console → IsCall was (GoOn slot) (response_to t) (now t)
  went_on pause t block console is says =
      rw is (turned (GoesOn pause budget) (λ limit found later. GoesOnWithin limit pause budget found later) t
      block console says.takes says.within)

  -- ---- an event

  module _ (what : EventKind A) (is : slice_get paused slot ≡ Some None) where
    abbrev event : Event A
    event = record { slot = slot; what = what }

    -- what the board says of an event that begins
    abbrev Began : Turn A → ℕ → ℕ → Type 0
    Began t block console =
        TakesTurn (Begins what budget) (world_of was) slot t block console before.bytes after.bytes
        (world_of (now t))

    abbrev Decides : Turn A → Type 0
    Decides t = (found later : BoardSlot) → slice_get slots slot ≡ Some found → slice_get slots' slot ≡ Some later
        → BeginsWithin before.limit what budget (state_of image found) (state_of image' later) before.bytes
        after.bytes t

    pub called : (t : Turn A) (block console : ℕ) → Began t block console → Decides t
        → ((next : Pause) → t ≡ turn.More next → HasLimit budget) → IsCall was (Handle event) (response_to t) (now t)
    called t block console r decided limited =
        rw is (record {
          turn = turned (Begins what budget) (λ limit found later. BeginsWithin limit what budget found later) t
              block console r decided;
          limited = limits t limited;
        })

    -- nothing is paused behind an event that is answered
    still : slice_set paused slot None ≡ paused
    still = set_same paused slot None None is refl

    told_answers : (reply : Reply A) (block console : ℕ) → Began (turn.Answered reply) block console
        → Answers (world_of was) event reply before.bytes after.bytes (world_of (now (turn.Answered reply)))
    told_answers reply block console r =
        answered (handled event budget (world_of was) (world_of (now (turn.Answered reply))) reply block console
        before.bytes after.bytes r)

    -- it is a step
    stepped : (reply : Reply A) (block console : ℕ) → AnswersInPlace what → Began (turn.Answered reply) block console
        → Decides (turn.Answered reply) → (reply ≡ BadSlot) ↔ (length slots ≤ slot)
        → (reply ≡ BadRange → session slots' image' dirty' outputs paused budget ≡ was)
        → (reply ≡ NoMemory → IsSomeAnd (slice_get slots slot) (λ found. (bytes : List ℕ)
        → MayLackMemory (state_of bytes found) what)) → IsStep was event reply (now (turn.Answered reply))
    stepped reply block console in_place r decided missing range memory =
        let told = told_answers reply block console r in
        record {
          answers = answers_at _ _ event reply before.bytes _ after.bytes _ waited (waits (turn.Answered reply)) told;
          others = others;
          outputs = others_kept outputs slot after;
          extents = extents;
          size = same_size (extents_of slots) (extents_of slots') image image' r.taken.outside;
          limits = limits_set outputs slot before after here same_limit;
          paused = still;
          budget = refl;
          within = λ found later there later_there.
              let one = shown_back slots image slot found there in
              let two = shown_back slots' image' slot later later_there in
              within_at what reply _ _ _ _ before.limit _ before.bytes _ after.bytes _ one.2 two.2
              limited_so waited (waits (turn.Answered reply))
              (ended_within before.limit what budget _ _ before.bytes after.bytes reply
              (decided one.0 two.0 one.1 two.1));
          refused = λ lacks found there.
              let one = shown_back slots image slot found there in
              rw (← one.2) (lacks_puts (state_of image one.0) what in_place
              (lacks_at (slice_get slots slot) image one.0 what one.1 (memory lacks)));
          bad_slot = missing;
          bad_slot_keeps = λ bad. let past : length slots ≤ slot = missing.0 bad in let here_too = fits in
              absurd (omega (arith, as_many, past, here_too));
          bad_range_keeps = λ bad. let quiet : after ≡ before =
              same_outlet after before (silent told bad) same_limit in
              rw (quiet, set_same outputs slot before before here refl, still) (range bad);
          no_memory = λ lacks. at_image (slice_get slots slot) image what (memory lacks);
        }

    pub whole : (t : Turn A) (block console : ℕ) → AnswersInPlace what → Began t block console → Decides t
        → (t ≡ turn.Answered BadSlot) ↔ (length slots ≤ slot)
        → (t ≡ turn.Answered BadRange → session slots' image' dirty' outputs paused budget ≡ was)
        → (t ≡ turn.Answered NoMemory → IsSomeAnd (slice_get slots slot) (λ found. (bytes : List ℕ)
        → MayLackMemory (state_of bytes found) what)) → IsWhole was event (response_to t) (now t)
    whole (turn.Answered reply) block console in_place r decided missing range memory =
        stepped reply block console in_place r decided (
          λ bad. missing.0 (ap (λ (a : Reply A). turn.Answered a) bad),
          λ past. cc (missing.1 past),
        ) (λ bad. range (ap (λ (a : Reply A). turn.Answered a) bad))
        (λ lacks. memory (ap (λ (a : Reply A). turn.Answered a) lacks))
    whole (turn.More pause) block console in_place r decided missing range memory = tt

    -- and its response is one of those that it may get
    pub suits_call : (t : Turn A) (block console : ℕ) → Began t block console → SuitsCall what (response_to t)
    suits_call (turn.Answered reply) block console r = suits (told_answers reply block console r)
    suits_call (turn.More pause) block console r =
        paused_suits what budget r.taken.state _ _ r.taken.after r.output (turn.More pause) refl r.taken.comes

  -- ---- a turn of any kind

  pub turn_taken : (kind : TurnKind A) (pause : Option Pause) (job : Work A) (t : Turn A) (block console : ℕ)
      → slice_get paused slot ≡ Some pause → work_in kind pause ≡ Ok job → BeginsInPlace kind
      → Says job t block console → Turned was slot kind (response_to t) (now t)
  turn_taken (Begin what) None job t block console is told in_place says =
      let same : job ≡ work.Begin what = cc (told) in
      let begun = subst (λ (j : Work A). Says j t block console) same says in
      record {
        call = called what.now is t block console begun.takes begun.within begun.limited;
        whole = whole what.now is t block console in_place begun.takes begun.within begun.bad_slot
            begun.bad_range_keeps begun.no_memory;
        suits = suits_call what.now is t block console begun.takes;
      }
  turn_taken (InPlace what) None job t block console is told in_place says =
      let same : job ≡ work.InPlace what = cc (told) in
      let begun = subst (λ (j : Work A). Says j t block console) same says in
      record {
        call = called (event_in what) is t block console begun.takes begun.within begun.limited;
        whole = whole (event_in what) is t block console (answers_in_place A what) begun.takes begun.within
            begun.bad_slot begun.bad_range_keeps begun.no_memory;
        suits = suits_call (event_in what) is t block console begun.takes;
      }
  turn_taken Resume (Some pause) job t block console is told in_place says =
      let same : job ≡ work.Resume pause = cc (told) in
      record {
        call = went_on pause t block console is (subst (λ (j : Work A). Says j t block console) same says);
        whole = tt;
        suits = tt;
      }
  turn_taken (Begin what) (Some pause) job t block console is told in_place says = absurd (cc (told))
  turn_taken (InPlace what) (Some pause) job t block console is told in_place says = absurd (cc (told))
  turn_taken Resume None job t block console is told in_place says = absurd (cc (told))
