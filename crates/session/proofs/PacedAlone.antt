-- A guest whose own events met no refusal is told what it would be told alone, however its services pause.
use Rattle.std.proofs.Common.{◌≡◌, ◌≢◌, inl, inr, ℕ, Bool, true, false, List, [], ◌∷◌, ◌++◌, Option, Some, None, eqb, refl, sym, ◌∙◌, ap, subst}
use Rattle.std.specs.Prelude.{⊤}
use Rattle.std.specs.List.{slice_get}
use Rattle.std.proofs.lemmas.Option.{same_Some}
use Rattle.chain.specs.declared.budget.Budget.{Budget}
use Rattle.board.specs.declared.event.Event.{Event}
use Rattle.board.specs.declared.event.EventKind.{EventKind}
use Rattle.board.specs.declared.pause.Pause.{Pause}
use Rattle.board.specs.declared.pause.Turn.{Turn}
use Rattle.board.specs.declared.pause.Turn.TheVariants as turn
use Rattle.board.specs.declared.reply.Reply.{Reply}
use Rattle.board.specs.declared.reply.Reply.TheVariants.{NoMemory}
use Rattle.board.specs.declared.reply.Record.{Record}
use Rattle.board.specs.Image.{Health}
use Rattle.board.specs.Machine.{IsNext, IsToldAlone, RunsOnItsOwn, record_of}
use Rattle.board.specs.Outcome.{Outcome}
use Rattle.board.specs.Pausing as pausing
use Rattle.board.specs.Pausing.{Begins, GoesOn, GoesOnBy, TurnsTo, asked, readied, reply_of}
use Rattle.board.specs.Slot.{SlotState}
use Rattle.board.specs.World.{MayGive}
use Rattle.mmio_window.specs.declared.stage.Stage.TheVariants.{Next}
use Rattle.board.proofs.Alone.{served}
use Rattle.board.proofs.Lists.{get_set, get_set_other}
use Rattle.board.proofs.OneRun.{next_of}
use Rattle.board.proofs.Steps as steps
use Rattle.board.proofs.Steps.{Passes}
use Rattle.board.proofs.Whole.{came, whole}
use Rattle.session.specs.declared.response.Response.{Response}
use Rattle.session.specs.declared.response.Response.TheVariants.{Answered, More, Busy, Idle}
use Rattle.session.specs.Line.{IsIdle, IsLine, IsQuiet, IsUndisturbed, RunsAlone, begun_by, own_events, own_records, record_at, told_by}
use Rattle.session.specs.Pacing.{Call, ComesTo, Handle, GoOn, IsMove, IsTurn, IsUnchanged, Move, PacedWorld, paused_by, response_to, slot_in}
use Rattle.session.proofs.Midway.{Way, goes_by_piece, next_of_pieces, way_again, way_first}

-- ---- how a guest may sit in a line

-- an event that a guest waits for, and what it has put out
pub record Begun (A : Type 0) : Type 0 where
  pub what : EventKind A
  pub out : List ℕ

-- nothing of its slot is paused
pub record Stands (g : ℕ) (world : PacedWorld) (state : SlotState) : Type 0 where
  pub there : slice_get world.world.slots g ≡ Some state
  pub idle : slice_get world.paused g ≡ Some None

-- or it is in the middle of an event that it began in this state
pub record IsMidway {A : Type 0} (g : ℕ) (world : PacedWorld) (state : SlotState) (event : Begun A)
    : Type 0 where
  pub pause : Pause
  pub now : SlotState
  pub there : slice_get world.world.slots g ≡ Some now
  pub paused : slice_get world.paused g ≡ Some (Some pause)
  pub asks : asked event.what state ≡ Some pause
  pub way : Way pause.service (readied event.what state) now event.out

abbrev pub Sits : {A : Type 0} → ℕ → SlotState → Option (Begun A) → PacedWorld → Type 0
Sits g state None world = Stands g world state
Sits g state (Some event) world = IsMidway g world state event

-- ---- moves of other slots

pub record Stays (g : ℕ) (old new : PacedWorld) : Type 0 where
  pub slot : slice_get new.world.slots g ≡ slice_get old.world.slots g
  pub paused : slice_get new.paused g ≡ slice_get old.paused g

unchanged : (g : ℕ) (old new : PacedWorld) (output : List ℕ) → IsUnchanged old new output → Stays g old new
unchanged g old new output u = record {
  slot = ap (λ (w : PacedWorld). slice_get w.world.slots g) u.same;
  paused = ap (λ (w : PacedWorld). slice_get w.paused g) u.same;
}

of_others : {A : Type 0} (Does : SlotState → Health → Health → SlotState → List ℕ → Turn A → Type 0) (g h : ℕ)
    (old : PacedWorld) (response : Response A) (output : List ℕ) (block console : ℕ)
    (new : PacedWorld) → h ≢ g
    → IsTurn Does old h response output block console new → Stays g old new
of_others Does g h old response output block console new other t = record {
  slot = ap (λ (slots : List SlotState). slice_get slots g) t.taken.slots
      ∙ get_set_other old.world.slots h g t.taken.after other;
  paused = ap (λ (paused : List (Option Pause)). slice_get paused g) t.paused
      ∙ get_set_other old.paused h g (paused_by t.turn) other;
}

pub others_at : {A : Type 0} (g : ℕ) (budget : Budget) (call : Call A) (o : Option (Option Pause))
    (old : PacedWorld) (response : Response A) (output : List ℕ) (block console : ℕ) (new : PacedWorld)
    → slot_in call ≢ g
    → ComesTo budget call o old response output block console new → Stays g old new
others_at g budget (Handle event) (Some None) old response output block console new other c =
    of_others (Begins event.what budget) g event.slot old response output block console new other c
others_at g budget (GoOn slot) (Some (Some pause)) old response output block console new other c =
    of_others (GoesOn pause budget) g slot old response output block console new other c
others_at g budget call o old response output block console new other c = unchanged g old new output c.1

-- a move of another slot begins no event of the guest's
pub events_of_others : {A : Type 0} (g : ℕ) (call : Call A) (response : Response A)
    (rest : List (EventKind A))
    → eqb (slot_in call) g ≡ false → begun_by g call response rest ≡ rest
events_of_others g (Handle event) (Answered reply) rest other = rw other refl
events_of_others g (Handle event) More rest other = rw other refl
events_of_others g call response rest other = refl

-- ---- a guest's own moves

-- a turn of the guest's slot, seen from its state
record Turned {A : Type 0} (Does : SlotState → Health → Health → SlotState → List ℕ → Turn A → Type 0) (g : ℕ)
    (old : PacedWorld) (move : Move A) (state : SlotState) : Type 0 where
  turn : Turn A
  after : SlotState
  does : Does state old.world.health move.after.world.health after move.output turn
  told : move.response ≡ response_to turn
  there : slice_get move.after.world.slots g ≡ Some after
  paused : slice_get move.after.paused g ≡ Some (paused_by turn)
  recorded : (reply : Reply A) (out : List ℕ)
      → record_at g out move reply ≡ record_of g (came after reply (out ++ move.output))

turned : {A : Type 0} (Does : SlotState → Health → Health → SlotState → List ℕ → Turn A → Type 0) (g : ℕ)
    (old : PacedWorld) (move : Move A) (state : SlotState) (was : Option Pause)
    → slice_get old.world.slots g ≡ Some state → slice_get old.paused g ≡ Some was
    → IsTurn Does old g move.response move.output move.block_irq move.console_irq move.after
    → Turned Does g old move state
turned Does g old move state was here waits t = record {
  turn = t.turn;
  after = t.taken.after;
  does = subst (λ (s : SlotState). Does s old.world.health move.after.world.health t.taken.after move.output
      t.turn) (same_Some t.taken.state state (sym t.taken.there ∙ here)) t.taken.comes;
  told = t.told;
  there = ap (λ (slots : List SlotState). slice_get slots g) t.taken.slots
      ∙ get_set old.world.slots g state t.taken.after here;
  paused = ap (λ (paused : List (Option Pause)). slice_get paused g) t.paused
      ∙ get_set old.paused g was (paused_by t.turn) waits;
  recorded = λ reply out. rw (t.taken.block_is, t.taken.console_is) refl;
}

-- the pause that a first turn leaves, if it leaves one
first_pause : {A : Type 0} (o : Option Pause) (what : EventKind A) (budget : Budget) (state : SlotState)
    (before after : Health) (new : SlotState) (output : List ℕ) (pause : Pause) → asked what state ≡ o
    → after.failures ≡ before.failures
    → TurnsTo (MayGive state what before after) o what budget state before after new output (turn.More pause)
    → (asked what state ≡ Some pause)
    × Way pause.service (readied what state) new output
first_pause None what budget state before after new output pause is stood h = absurd h
first_pause {A} (Some asking) what budget state before after new output pause is stood h = (
  is ∙ ap (λ (p : Pause). Some p) (sym h.0),
  subst (λ (p : Pause). Way p.service (readied what state) new output) (sym h.0)
      (way_first asking.service budget (readied what state) before after new output stood h.1),
)

-- ---- what a guest's own move does

-- the events of a guest that waits for one: that one, and those that it begins
abbrev pub events_from : {A : Type 0} → Option (Begun A) → List (EventKind A) → List (EventKind A)
events_from None rest = rest
events_from (Some begun) rest = begun.what ∷ rest

-- and what that one has put out
abbrev pub out_of : {A : Type 0} → Option (Begun A) → List ℕ
out_of None = []
out_of (Some begun) = begun.out

-- nothing: its slot is busy, or waits for nothing
abbrev pub IsStalled : {A : Type 0} → Response A → Type 0
IsStalled (Answered reply) = ⊥
IsStalled More = ⊥
IsStalled Busy = ⊤
IsStalled Idle = ⊤

-- or it serves an event: one that it begins, or the one that the guest waits for
pub record Serves {A : Type 0} (g : ℕ) (begun : Option (Begun A)) (call : Call A) (response : Response A)
    (event : Begun A) : Type 0 where
  pub events :
      (rest : List (EventKind A)) → events_from begun (begun_by g call response rest) ≡ event.what ∷ rest
  pub out : out_of begun ≡ event.out

-- nothing, or a piece of an event that isn't its last, or the last
pub data OwnMove {A : Type 0} (g : ℕ) (state : SlotState) (begun : Option (Begun A)) (call : Call A)
    (response : Response A) (move : Move A) : Type 0 where
  Stayed :
      IsStalled response → move.output ≡ [] → ((rest : List (EventKind A))
      → begun_by g call response rest ≡ rest)
      → Sits g state begun move.after → OwnMove g state begun call response move
  WentOn :
      (event : Begun A) → Serves g begun call response event → response ≡ More
      → Sits g state (Some (record { what = event.what; out = event.out ++ move.output })) move.after
      → OwnMove g state begun call response move
  Ended :
      (event : Begun A) → Serves g begun call response event → (reply : Reply A) → response ≡ Answered reply
      → (last : SlotState) → IsToldAlone g state event.what (record_at g event.out move reply) last
      → Sits {A = A} g last None move.after → OwnMove g state begun call response move

module _ {A : Type 0} (budget : Budget) (old : PacedWorld) (move : Move A) (state : SlotState)
    (answered : move.response ≢ Answered NoMemory)
    (stood : move.after.world.health.failures ≡ old.world.health.failures) where
  -- an event that the guest begins
  begins : (event : Event A) (t : Turned (Begins event.what budget) event.slot old move state) (turn : Turn A)
      → eqb event.slot event.slot ≡ true → t.turn ≡ turn → Begins event.what budget state old.world.health
      move.after.world.health t.after
      move.output turn → OwnMove event.slot state None (Handle event) move.response move
  begins event t (turn.Answered reply) test is does =
      let said : move.response ≡ Answered reply = t.told ∙ ap response_to is in
      let outcome : Outcome A = came t.after reply move.output in
      let next : IsNext state event.what outcome =
      next_of state event.what old.world.health move.after.world.health outcome
      (served state event.what old.world.health move.after.world.health outcome
      (whole event.what budget state old.world.health move.after.world.health t.after move.output reply does)
      (λ none. answered (said ∙ ap (λ (r : Reply A). Answered r) none)) stood) in
      Ended (record { what = event.what; out = [] })
      (record { events = λ rest. rw (said, test) refl; out = refl }) reply said t.after
      (record { outcome = outcome; is_next = next; recorded = t.recorded reply []; left = refl })
      (record { there = t.there; idle = t.paused ∙ ap (λ (x : Turn A). Some (paused_by x)) is })
  begins event t (turn.More pause) test is does =
      let said : move.response ≡ More = t.told ∙ ap response_to is in
      let first = first_pause (asked event.what state) event.what budget state old.world.health
      move.after.world.health t.after move.output pause refl stood does in
      WentOn (record { what = event.what; out = [] })
      (record { events = λ rest. rw (said, test) refl; out = refl }) said
      (record {
        pause = pause;
        now = t.after;
        there = t.there;
        paused = t.paused ∙ ap (λ (x : Turn A). Some (paused_by x)) is;
        asks = first.0;
        way = first.1;
      })

  -- a service that goes on
  goes_on : (slot : ℕ) (event : Begun A) (m : IsMidway slot old state event)
      (t : Turned (GoesOn m.pause budget) slot old move m.now) (turn : Turn A) → t.turn ≡ turn
      → pausing.ComesTo m.pause Next budget m.now old.world.health move.after.world.health t.after move.output
      turn
      → OwnMove slot state (Some event) (GoOn slot) move.response move
  goes_on slot event m t (turn.Answered reply) is (inl (done, piece)) =
      let next : IsNext state event.what (came t.after (reply_of m.pause) (event.out ++ move.output)) =
      next_of_pieces event.what budget state m.pause m.now event.out old.world.health move.after.world.health
      t.after move.output m.asks stood m.way piece in
      Ended event (record { events = λ rest. refl; out = refl }) reply (t.told ∙ ap response_to is) t.after
      (record {
        outcome = came t.after reply (event.out ++ move.output);
        is_next = subst (λ (r : Reply A). IsNext state event.what (came t.after r (event.out
            ++ move.output))) (sym done) next;
        recorded = t.recorded reply event.out;
        left = refl;
      })
      (record { there = t.there; idle = t.paused ∙ ap (λ (x : Turn A). Some (paused_by x)) is })
  goes_on slot event m t (turn.Answered reply) is (inr (lacks, refused)) =
      absurd (answered (t.told ∙ ap response_to is ∙ ap (λ (r : Reply A). Answered r) lacks))
  goes_on slot event m t (turn.More pause) is h =
      WentOn event (record { events = λ rest. refl; out = refl }) (t.told ∙ ap response_to is)
      (record {
        pause = m.pause;
        now = t.after;
        there = t.there;
        paused = t.paused ∙ ap (λ (x : Turn A). Some (paused_by x)) is
            ∙ ap (λ (p : Pause). Some (Some p)) h.0;
        asks = m.asks;
        way = way_again m.pause.service budget (readied event.what state) m.now event.out old.world.health
            move.after.world.health t.after move.output stood m.way h.1;
      })

  -- a call, by what is paused of its slot
  abbrev ComesOf : Call A → Option (Option Pause) → Type 0
  ComesOf call p =
      ComesTo budget call p old move.response move.output move.block_irq move.console_irq move.after

  own_at : (call : Call A) (begun : Option (Begun A)) → eqb (slot_in call) (slot_in call) ≡ true
      → ComesOf call (slice_get old.paused (slot_in call))
      → Sits (slot_in call) state begun old → OwnMove (slot_in call) state begun call move.response move
  own_at (Handle event) None test c s =
      let t = turned (Begins event.what budget) event.slot old move state None s.there s.idle
      (subst (λ (p : Option (Option Pause)). ComesOf (Handle event) p) s.idle c) in
      begins event t t.turn test refl t.does
  own_at (GoOn slot) None test c s =
      let same = subst (λ (p : Option (Option Pause)). ComesOf (GoOn slot) p) s.idle c in
      Stayed (rw (same.0) tt) same.1.silent (λ rest. refl)
      (subst (λ (w : PacedWorld). Sits {A = A} slot state None w) (sym same.1.same) s)
  own_at (Handle event) (Some begun) test c s =
      let same = subst (λ (p : Option (Option Pause)). ComesOf (Handle event) p) s.paused c in
      Stayed (rw (same.0) tt) same.1.silent (λ rest. rw (same.0) refl)
      (subst (λ (w : PacedWorld). Sits event.slot state (Some begun) w) (sym same.1.same) s)
  own_at (GoOn slot) (Some begun) test c s =
      let t = turned (GoesOn s.pause budget) slot old move s.now (Some s.pause) s.there s.paused
      (subst (λ (p : Option (Option Pause)). ComesOf (GoOn slot) p) s.paused c) in
      goes_on slot begun s t t.turn refl
      (subst (λ (hosts : Bool). GoesOnBy hosts s.pause budget s.now old.world.health move.after.world.health
      t.after move.output t.turn) (goes_by_piece begun.what state s.pause s.now begun.out s.asks s.way) t.does)

pub own_move : {A : Type 0} (budget : Budget) (old : PacedWorld) (move : Move A) (state : SlotState)
    (begun : Option (Begun A)) → eqb (slot_in move.call) (slot_in move.call) ≡ true → IsMove budget old move
    → IsUndisturbed (slot_in move.call) old move → Sits (slot_in move.call) state begun old
    → OwnMove (slot_in move.call) state begun move.call move.response move
own_move budget old move state begun test step undisturbed sits =
    own_at budget old move state (undisturbed.memory refl) (undisturbed.image refl) move.call begun test step
    sits

-- and a move of another slot leaves the guest as it sits
pub others_move : {A : Type 0} (g : ℕ) (state : SlotState) (begun : Option (Begun A)) (old new : PacedWorld)
    → Stays g old new → Sits g state begun old → Sits g state begun new
others_move g state None old new stays s =
    record { there = stays.slot ∙ s.there; idle = stays.paused ∙ s.idle }
others_move g state (Some begun) old new stays s = record {
  pause = s.pause;
  now = s.now;
  there = stays.slot ∙ s.there;
  paused = stays.paused ∙ s.paused;
  asks = s.asks;
  way = s.way;
}

-- ---- the law

-- a guest's state before the event that it waits for, if it waits for one
record PacedSeat (A : Type 0) : Type 0 where
  state : SlotState
  begun : Option (Begun A)

abbrev SitsAt : {A : Type 0} → ℕ → PacedSeat A → PacedWorld → Type 0
SitsAt g seat world = Sits g seat.state seat.begun world

-- what comes of moves for a guest that sits so before them
record Comes {A : Type 0} (new : PacedWorld) (g : ℕ) (seat : PacedSeat A) (moves : List (Move A))
    : Type 0 where
  last : SlotState
  own :
      RunsOnItsOwn g seat.state (events_from seat.begun (own_events g moves))
      (own_records g (out_of seat.begun) moves) last
  state_after : slice_get new.world.slots g ≡ Some last

stalled_told : {A : Type 0} (g : ℕ) (out : List ℕ) (move : Move A) (response : Response A)
    (rest : List ℕ → List (Record A)) → IsStalled response → told_by g out move response rest ≡ rest out
stalled_told g out move (Answered reply) rest stalled = absurd stalled
stalled_told g out move More rest stalled = absurd stalled
stalled_told g out move Busy rest stalled = refl
stalled_told g out move Idle rest stalled = refl

pub run_as : {A : Type 0} (g : ℕ) (state last : SlotState) (events events' : List (EventKind A))
    (records records' : List (Record A)) → events' ≡ events → records' ≡ records
    → RunsOnItsOwn g state events records last → RunsOnItsOwn g state events' records' last
run_as g state last events events' records records' p q own = rw (p, q) own

module _ {A : Type 0} (budget : Budget) (new : PacedWorld) where
  abbrev Passing : ℕ → PacedSeat A → Move A → Type 0
  Passing g seat move =
      Passes (IsMove budget) (λ m. m.after) (λ m. slot_in m.call) SitsAt (Comes new) g seat move

  passes : (g : ℕ) (move : Move A) (seat : PacedSeat A) → eqb (slot_in move.call) g ≡ true
      → OwnMove g seat.state seat.begun move.call move.response move → Passing g seat move
  passes g move seat test (Stayed stalled silent events sits) = record {
    next = seat;
    sits = sits;
    comes = λ moves c. record {
      last = c.last;
      own = run_as g seat.state c.last _ _ _ _ (ap (events_from seat.begun) (events (own_events g moves)))
          (rw test (stalled_told g (out_of seat.begun) move move.response (λ more. own_records g more moves)
          stalled)) c.own;
      state_after = c.state_after;
    };
  }
  passes g move seat test (WentOn event serves said sits) = record {
    next = record {
      state = seat.state;
      begun = Some (record { what = event.what; out = event.out ++ move.output });
    };
    sits = sits;
    comes = λ moves c. record {
      last = c.last;
      own = run_as g seat.state c.last _ _ _ _ (serves.events (own_events g moves))
          (rw (test, said, serves.out) refl) c.own;
      state_after = c.state_after;
    };
  }
  passes g move seat test (Ended event serves reply said last told sits) = record {
    next = record { state = last; begun = None };
    sits = sits;
    comes = λ moves c. record {
      last = c.last;
      own = run_as g seat.state c.last (event.what ∷ own_events g moves) _
          (record_at g event.out move reply ∷ own_records g [] moves) _ (serves.events (own_events g moves))
          (rw (test, said, serves.out) refl) (last, told, c.own);
      state_after = c.state_after;
    };
  }

  ends : (g : ℕ) → IsIdle g new → (state : SlotState) (begun : Option (Begun A)) → Sits g state begun new
      → Comes new g (record { state = state; begun = begun }) []
  ends g idle state None sits = record { last = state; own = refl; state_after = sits.there }
  ends g idle state (Some event) sits =
      let no : ◌≡◌ {A = Option (Option Pause)} (Some None) (Some (Some sits.pause)) = sym idle ∙ sits.paused
      in
      absurd (cc)

-- A guest that is quiet in a line, and idle before and after it, is alone in it.
pub alone : {A : Type 0} (g : ℕ) (budget : Budget) (old new : PacedWorld) (moves : List (Move A))
    (state : SlotState) → IsLine budget old moves new → IsQuiet g old moves → IsIdle g old → IsIdle g new
    → slice_get old.world.slots g ≡ Some state → RunsAlone g state moves new
alone {A} g budget old new moves state line quiet starts idle here =
    let c = steps.alone (IsMove {A = A} budget) (λ (m : Move A). m.after) (λ (m : Move A). slot_in m.call)
    SitsAt
    (Comes new) IsUndisturbed
    (record {
      own = λ was move seat test step undisturbed sits.
          passes budget new (slot_in move.call) move seat test
          (own_move budget was move seat.state seat.begun test step undisturbed sits);
      others = λ k was move seat test other step sits.
          record {
            next = seat;
            sits = others_move k seat.state seat.begun was move.after
                (others_at k budget move.call (slice_get was.paused (slot_in move.call)) was move.response
                move.output move.block_irq move.console_irq move.after other step) sits;
            comes = λ more c. record {
              last = c.last;
              own = run_as k seat.state c.last _ _ _ _ (ap (events_from seat.begun)
                  (events_of_others k move.call move.response (own_events k more) test)) (rw test refl) c.own;
              state_after = c.state_after;
            };
          };
    })
    g new (λ seat sits. ends budget new g idle seat.state seat.begun sits) old moves
    (record { state = state; begun = None }) line quiet (record { there = here; idle = starts }) in
    record { last = c.last; own = c.own; state_after = c.state_after }
