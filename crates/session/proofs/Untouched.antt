-- A call that touches no memory: its bytes stay, and the same comes of it over any others.
use Rattle.std.proofs.Common.{◌≡◌, ℕ, false, Option, Some, None, List, refl, sym, ◌∙◌, ap, subst}
use Rattle.std.specs.Prelude.{slice_set}
use Rattle.std.specs.List.{slice_get}
use Rattle.std.proofs.lemmas.List.{length-set, map-set}
use Rattle.std.proofs.Math.Seq.{map-set_same}
use Rattle.std.proofs.lemmas.Option.{get_or_from_slice_get, same_Some, slice_get-map}
use Rattle.guest_memory.specs.Memory.{Memory, SameRange, stored}
use Rattle.guest_memory.proofs.Ranges.{stored_range}
use Rattle.chain.specs.declared.budget.Budget.{Budget}
use Rattle.board.specs.declared.event.Event.{Event}
use Rattle.board.specs.declared.event.EventKind.{EventKind}
use Rattle.board.specs.declared.event.EventKind.TheVariants.{Write, MemRead, Input, Device}
use Rattle.board.specs.declared.pause.Pause.{Pause}
use Rattle.board.specs.declared.pause.Turn.{Turn}
use Rattle.board.specs.declared.pause.Turn.TheVariants as turn
use Rattle.board.specs.declared.reply.Reply.{Reply}
use Rattle.board.specs.Image.{Health}
use Rattle.board.specs.Lending.{put_back}
use Rattle.board.specs.Machine.{task_at, with_write}
use Rattle.board.specs.Pausing.{Begins, asked_by, asked_over_image}
use Rattle.board.specs.Slot.{BoardSlot, SlotState, state_of}
use Rattle.board.specs.declared.task.Task.{Task}
use Rattle.board.specs.declared.task.Task.TheVariants.{Nothing, PutOut, Serve}
use Rattle.board.specs.Untouched.{over_memory, serves_queue, touches_memory, world_over}
use Rattle.board.specs.Within.{MayPutOut, PutsOutWithin, TakesWithin}
use Rattle.board.specs.World.{Answers, MayLackMemory, Step, TakesMemory, World}
use Rattle.board.proofs.Lists.{get_set, others_kept}
use Rattle.board.proofs.Seats.{extents_of-set}
use Rattle.board.proofs.Untouched.{task_over, touches_over, write_over}
use Rattle.board.proofs.UntouchedSteps as board
use Rattle.session.specs.declared.response.Response.{Response}
use Rattle.session.specs.declared.response.Response.TheVariants.{Answered}
use Rattle.session.specs.Pacing.{Handle, response_to}
use Rattle.session.specs.Pausing.{ComesTo, IsBegun, IsEventCall, IsWhole}
use Rattle.session.specs.Session.{IsStep, SessionState, output_of, with_memory, with_slot_bytes, world_of}
use Rattle.session.proofs.Calls.{idle_step_there}
use Rattle.session.proofs.Parts.{asks_nothing}
use Rattle.session.proofs.Suiting.{asks_none}

-- ---- what an outlet decides, and where memory may lack

puts_over : {A : Type 0} (limit : ℕ) (task : Task) (state after : SlotState) (m : Memory) (waiting left : List ℕ)
    (reply : Reply A) → serves_queue task ≡ false → PutsOutWithin limit task state after waiting left reply
    → PutsOutWithin limit task (over_memory m state) (over_memory m after) waiting left reply
puts_over limit Nothing state after m waiting left reply none h = tt
puts_over limit (PutOut byte) state after m waiting left reply none h =
    record { stays = ap (over_memory m) h.stays; fits = h.fits; refused = h.refused }
puts_over limit (Serve service) state after m waiting left reply none h = absurd (cc (none))

takes_over : {A : Type 0} (limit : ℕ) (what : EventKind A) (state after : SlotState) (m : Memory)
    (waiting left : List ℕ) (reply : Reply A) → touches_memory what state ≡ false → SameRange state.memory m
    → TakesWithin limit state what after waiting left reply
    → TakesWithin limit (over_memory m state) what (over_memory m after) waiting left reply
takes_over limit (Write window offset width value) state after m waiting left reply none range h =
    rw (write_over window offset width value state m range, task_over window offset width value state m)
    (puts_over limit (task_at window offset width value state) (with_write window offset width value state) after m
    waiting left reply none h)
takes_over limit what state after m waiting left reply none range h = tt

may_put_over : {A : Type 0} (what : EventKind A) (state : SlotState) (m : Memory)
    → MayPutOut state what → MayPutOut (over_memory m state) what
may_put_over (Write window offset width value) state m h = rw (task_over window offset width value state m) h
may_put_over what state m h = h

task_lacks : (task : Task) (state other : SlotState) → serves_queue task ≡ false → TakesMemory task state
    → TakesMemory task other
task_lacks Nothing state other none h = h
task_lacks (PutOut byte) state other none h = tt
task_lacks (Serve service) state other none h = absurd (cc (none))

lacks_over : {A : Type 0} (what : EventKind A) (state : SlotState) (m : Memory)
    → touches_memory what state ≡ false → MayLackMemory state what → MayLackMemory (over_memory m state) what
lacks_over (Write window offset width value) state m none h =
    rw (task_over window offset width value state m)
    (task_lacks (task_at window offset width value state) (with_write window offset width value state)
    (with_write window offset width value (over_memory m state)) none h)
lacks_over (MemRead addr len) state m none h = absurd (cc (none))
lacks_over (Device n what) state m none h = absurd (cc (none))
lacks_over what state m none h = h

task_asks : (task : Task) → serves_queue task ≡ false → asked_by task ≡ None
task_asks Nothing none = refl
task_asks (PutOut byte) none = refl
task_asks (Serve service) none = absurd (cc (none))

event_asks : {A : Type 0} (what : EventKind A) (state : SlotState) → touches_memory what state ≡ false
    → asked_over_image what state ≡ None
event_asks (Write window offset width value) state none = task_asks (task_at window offset width value state) none
event_asks (Input bytes) state none = absurd (cc (none))
event_asks (Device n what) state none = absurd (cc (none))
event_asks what state none = refl

-- so it is answered at once
answered : {A : Type 0} (what : EventKind A) (budget : Budget) (old new : SlotState) (before after : Health)
    (output : List ℕ) (t : Turn A) → asked_over_image what old ≡ None
    → Begins what budget old before after new output t → (reply : Reply A) × (t ≡ turn.Answered reply)
answered what budget old new before after output (turn.Answered reply) none h = (reply, refl)
answered what budget old new before after output (turn.More pause) none h =
    absurd (asks_none what budget old before after new output pause none h)

-- ---- the board of a session

module _ (s : SessionState) (slot : ℕ) (found : BoardSlot) (m : Memory)
    (here : slice_get s.slots slot ≡ Some found) where
  abbrev other : BoardSlot
  other = record found { memory = m }

  seen_over : world_of (with_memory slot found m s) ≡ world_over slot (state_of s.image found) m (world_of s)
  seen_over =
      rw (
        map-set (state_of s.image) s.slots slot other,
        map-set_same (λ (b : BoardSlot). b.disturbed) s.slots slot other found
            (ap (λ (b : BoardSlot). b.disturbed) (sym (get_or_from_slice_get s.slots slot found found here))),
        extents_of-set s.slots slot found other here (refl, refl),
      ) refl

  seen_there : slice_get (world_of s).slots slot ≡ Some (state_of s.image found)
  seen_there = slice_get-map (state_of s.image) s.slots slot ∙ rw here refl

  over_there : slice_get (world_of (with_memory slot found m s)).slots slot
      ≡ Some (over_memory m (state_of s.image found))
  over_there =
      slice_get-map (state_of s.image) (slice_set s.slots slot other) slot
      ∙ rw (get_set s.slots slot found other here) refl

both : (slot : ℕ) (m : Memory) (s t : SessionState) (x y : BoardSlot) → s ≡ t → x ≡ y
    → with_memory slot x m s ≡ with_memory slot y m t
both slot m s t x y p q = rw (p, q) refl

-- ---- a step

module _ {A : Type 0} (old new : SessionState) (event : Event A) (found after : BoardSlot) (m : Memory)
    (here : slice_get old.slots event.slot ≡ Some found) (there : slice_get new.slots event.slot ≡ Some after)
    (none : touches_memory event.what (state_of old.image found) ≡ false) (range : SameRange found.memory m) where
  abbrev state : SlotState
  state = state_of old.image found

  abbrev last : SlotState
  last = state_of new.image after

  abbrev was : SessionState
  was = with_memory event.slot found m old

  abbrev now : SessionState
  now = with_memory event.slot after m new

  stands : new ≡ old → after ≡ found
  stands is =
      same_Some after found (sym there ∙ ap (λ (s : SessionState). slice_get s.slots event.slot) is ∙ here)

  kept : new ≡ old → now ≡ was
  kept is = both event.slot m new old after found is (stands is)

  answers_over : (reply : Reply A) (before behind : List ℕ)
      → (h : Answers (world_of old) event reply before behind (world_of new))
      → (after.memory ≡ found.memory) × Answers (world_of was) event reply before behind (world_of now)
  answers_over reply before behind h =
      let over = board.step_over (world_of old) (world_of new) event h.written state last m
      (seen_there old event.slot found m here) (seen_there new event.slot after m there) none range h.step in (
        over.0,
        record {
          written = h.written;
          step = subst (λ (w : World). Step w event h.written (world_of now))
              (sym (seen_over old event.slot found m here))
              (subst (λ (w : World). Step (world_over event.slot state m (world_of old)) event h.written w)
              (sym (seen_over new event.slot after m there)) over.1);
          replied = h.replied;
          appended = h.appended;
        },
      )

  within_over : (limit : ℕ) (reply : Reply A) (found' after' : SlotState) (waiting left : List ℕ)
      → slice_get (world_of was).slots event.slot ≡ Some found'
      → slice_get (world_of now).slots event.slot ≡ Some after'
      → TakesWithin limit state event.what last waiting left reply
      → TakesWithin limit found' event.what after' waiting left reply
  within_over limit reply found' after' waiting left at_old at_new h =
      let one : over_memory m state ≡ found' =
      same_Some _ found' (sym (over_there old event.slot found m here) ∙ at_old) in
      let two : over_memory m last ≡ after' =
      same_Some _ after' (sym (over_there new event.slot after m there) ∙ at_new) in
      rw (← one, ← two) (takes_over limit event.what state last m waiting left reply none range h)

  step_over : (reply : Reply A) → IsStep old event reply new → IsStep was event reply now
  step_over reply h = record {
    answers = (answers_over reply (output_of event.slot old) (output_of event.slot new) h.answers).1;
    others = λ other apart.
        others_kept new.slots event.slot (record after { memory = m }) other apart ∙ h.others other apart
        ∙ sym (others_kept old.slots event.slot (record found { memory = m }) other apart);
    outputs = h.outputs;
    extents =
        extents_of-set new.slots event.slot after (record after { memory = m }) there (refl, refl) ∙ h.extents
        ∙ sym (extents_of-set old.slots event.slot found (record found { memory = m }) here (refl, refl));
    size = h.size;
    within = λ found' after' at_old at_new.
        within_over _ reply found' after' (output_of event.slot old) (output_of event.slot new) at_old at_new
        (h.within state last (seen_there old event.slot found m here) (seen_there new event.slot after m there));
    refused = λ is found' at_old.
        let one : over_memory m state ≡ found' =
        same_Some _ found' (sym (over_there old event.slot found m here) ∙ at_old) in
        subst (λ (s : SlotState). MayPutOut s event.what) one
        (may_put_over event.what state m (h.refused is state (seen_there old event.slot found m here)));
    limits = h.limits;
    paused = h.paused;
    budget = h.budget;
    bad_slot = rw (length-set old.slots event.slot (record found { memory = m })) h.bad_slot;
    bad_slot_keeps = λ is. kept (h.bad_slot_keeps is);
    bad_range_keeps = λ is. kept (h.bad_range_keeps is);
    no_memory = λ is.
        rw (get_set old.slots event.slot found (record found { memory = m }) here)
        (lacks_over event.what state m none (rw here at (h.no_memory is)));
  }

  -- ---- a call

  whole_over : (response : Response A) → IsWhole old event response new → IsWhole was event response now
  whole_over (Answered reply) h = step_over reply h
  whole_over response h = tt

  begun_over : (response : Response A) → slice_get old.paused event.slot ≡ Some None
      → IsBegun event old response new → IsWhole old event response new
      → (after.memory ≡ found.memory) × ComesTo (Handle event) (Some None) was response now
  begun_over response idle h whole =
      let began = h.turn in
      let same : began.taken.state ≡ state =
      same_Some began.taken.state state (sym began.taken.there ∙ seen_there old event.slot found m here) in
      let asks = event_asks event.what state none in
      let answer = answered event.what old.budget began.taken.state began.taken.after (world_of old).health
      (world_of new).health began.output began.turn
      (ap (λ (s : SlotState). asked_over_image event.what s) same ∙ asks) began.taken.comes in
      let told : response ≡ Answered answer.0 = began.told ∙ ap response_to answer.1 in
      let step : IsStep old event answer.0 new =
      subst (λ (r : Response A). IsWhole old event r new) told whole in (
        (answers_over answer.0 (output_of event.slot old) (output_of event.slot new) step.answers).0,
        subst (λ (r : Response A). ComesTo (Handle event) (Some None) was r now) (sym told)
            (idle_step_there was now event answer.0 (over_memory m state) idle (over_there old event.slot found m here)
            (asks_nothing event.what (over_memory m state) (event_asks event.what (over_memory m state)
            (touches_over event.what state m ∙ none))) (step_over answer.0 step)),
      )

  comes_over : (paused : Option (Option Pause)) (response : Response A) → slice_get old.paused event.slot ≡ paused
      → ComesTo (Handle event) paused old response new → IsWhole old event response new
      → (after.memory ≡ found.memory) × ComesTo (Handle event) paused was response now
  comes_over (Some None) response is h whole = begun_over response is h whole
  comes_over paused response is h whole = (ap (λ (b : BoardSlot). b.memory) (stands h.1), (h.0, kept h.1))

pub call_over : {A : Type 0} (old new : SessionState) (slot : ℕ) (what : EventKind A) (response : Response A)
    (found after : BoardSlot) (m : Memory) → slice_get old.slots slot ≡ Some found
    → slice_get new.slots slot ≡ Some after → touches_memory what (state_of old.image found) ≡ false
    → SameRange found.memory m → IsEventCall old slot what response new
    → (after.memory ≡ found.memory)
    × IsEventCall (with_memory slot found m old) slot what response (with_memory slot after m new)
call_over {A} old new slot what response found after m here there none range h =
    let event : Event A = record { slot = slot; what = what } in
    let comes = comes_over old new event found after m here there none range (slice_get old.paused slot) response
    refl h.turn h.whole in (
      comes.0,
      record {
        turn = comes.1;
        whole = whole_over old new event found after m here there none range response h.whole;
      },
    )

-- ---- what is stored beside it

stored_beside : (s : SessionState) (slot addr : ℕ) (found : BoardSlot) (bytes : List ℕ)
    → slice_get s.slots slot ≡ Some found
    → with_slot_bytes slot addr s bytes ≡ with_memory slot found (stored found.memory addr bytes) s
stored_beside s slot addr found bytes here =
    ap (λ (o : Option BoardSlot). record s { slots = put_back slot o addr bytes s.slots }) here

pub store_over : {A : Type 0} (old new : SessionState) (slot addr : ℕ) (bytes : List ℕ) (what : EventKind A)
    (response : Response A) (found after : BoardSlot) → slice_get old.slots slot ≡ Some found
    → slice_get new.slots slot ≡ Some after → touches_memory what (state_of old.image found) ≡ false
    → IsEventCall old slot what response new
    → IsEventCall (with_slot_bytes slot addr old bytes) slot what response (with_slot_bytes slot addr new bytes)
store_over {A} old new slot addr bytes what response found after here there none h =
    let m : Memory = stored found.memory addr bytes in
    let over = call_over old new slot what response found after m here there none
    (stored_range found.memory addr bytes) h in
    let left : with_slot_bytes slot addr new bytes ≡ with_memory slot after m new =
    stored_beside new slot addr after bytes there
    ∙ ap (λ (k : Memory). with_memory slot after (stored k addr bytes) new) over.0 in
    subst (λ (s : SessionState). IsEventCall s slot what response (with_slot_bytes slot addr new bytes))
    (sym (stored_beside old slot addr found bytes here))
    (subst (λ (s : SessionState). IsEventCall (with_memory slot found m old) slot what response s) (sym left) over.1)
