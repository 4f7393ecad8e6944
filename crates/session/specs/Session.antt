-- A session, as its embedder sees it, and what one event does to it.
use Rattle.std.specs.Prelude.{⊤, ◌≡◌, ◌≢◌, ◌↔◌, ℕ, ◌≤◌, Bool, false, List, [], ◌∷◌, length, map, Option, Some, None, replicate, slice_set, unwrap_or, IsSomeAnd}
use Rattle.std.specs.List.{slice_get}
use Rattle.std.specs.Option.{option_map}
use Rattle.chain.specs.declared.budget.Budget.{Budget}
use Rattle.guest_memory.specs.Memory.{Inside, Memory}
use Rattle.sector_cache.specs.Disk.{Disk, new_disk}
use Rattle.device_list.specs.declared.spec.DeviceSpec.{DeviceSpec}
use Rattle.device_list.specs.Device.{fresh_device}
use Rattle.board.specs.declared.event.DeviceEvent.TheVariants.{Plug, TakeSent}
use Rattle.board.specs.declared.event.Event.{Event}
use Rattle.board.specs.declared.event.EventKind.{EventKind}
use Rattle.board.specs.declared.event.EventKind.TheVariants.{MemRead, Device}
use Rattle.board.specs.declared.pause.Pause.{Pause}
use Rattle.board.specs.declared.reply.Reply.{Reply}
use Rattle.board.specs.declared.reply.Reply.TheVariants.{BadSlot, BadRange, NoMemory}
use Rattle.board.specs.declared.spec.SlotSpec.{SlotSpec}
use Rattle.board.specs.Lending.{put_back}
use Rattle.board.specs.Lent.{made_over, opened_over}
use Rattle.board.specs.Slot.{BoardSlot, SlotState, interrupt_words, opened, state_of}
use Rattle.board.specs.World.{World, Answers, KeepsOthers, MayLackMemory, extents_of, seen}
use Rattle.board.specs.Within.{MayPutOut, TakesWithin}
use Rattle.output_queue.specs.Waiting.{Waiting, none_waiting}
use Rattle.session.specs.Pacing.{paused_at}
use Rattle.session.specs.declared.guest.GuestSpec.{GuestSpec}
use Rattle.session.specs.declared.told.Waits.{Waits}
use Rattle.session.specs.declared.turn_kind.TurnKind.{TurnKind}
use Rattle.session.specs.declared.turn_kind.TurnKind.TheVariants.{Begin}

-- A session: the slots of its board, the image's bytes and whether a write waits for a flush, for each slot
-- what its console put out and nobody has taken yet and the service that is paused, if any, and how much one
-- call may serve.
pub record SessionState : Type 0 where
  pub slots : List BoardSlot
  pub image : List ℕ
  pub dirty : Bool
  pub outputs : List Waiting
  pub paused : List (Option Pause)
  pub budget : Budget

-- the image: it tells its bytes, and none of its calls fails
abbrev pub disk_of : SessionState → Disk
disk_of session = record (new_disk session.image) { dirty = session.dirty }

-- what can be seen of the board
abbrev pub world_of : SessionState → World
world_of session = seen session.slots (disk_of session)

-- what waits of a slot's output, or nothing where there is no such slot
abbrev pub waiting_at : ℕ → List Waiting → Waiting
waiting_at slot outputs = unwrap_or (slice_get outputs slot) (none_waiting 0)

-- what the slot's console put out and nobody has taken yet
abbrev pub output_of : ℕ → SessionState → List ℕ
output_of slot session = (waiting_at slot session.outputs).bytes

-- and how many bytes of it may wait
abbrev pub limit_of : ℕ → SessionState → ℕ
limit_of slot session = (waiting_at slot session.outputs).limit

-- these interrupt words and these bytes of output
abbrev pub waits_by : (ℕ × ℕ) → List ℕ → Waits
waits_by words output = record { block_irq = words.0; console_irq = words.1; output = length output }

-- what waits for a slot, if there is such a slot
abbrev pub waits_at : ℕ → SessionState → Option Waits
waits_at slot session =
    option_map (λ found. waits_by (interrupt_words found) (output_of slot session))
    (slice_get session.slots slot)

-- no service of the slot is paused
abbrev pub IsIdle : ℕ → SessionState → Type 0
IsIdle slot session = paused_at session.paused slot ≡ None

-- every slot's output but that one's is kept as it was
abbrev pub KeepsOtherOutputs : ℕ → List Waiting → List Waiting → Type 0
KeepsOtherOutputs slot old new = (other : ℕ) → other ≢ slot → slice_get new other ≡ slice_get old other

-- An event of a slot is handled, and this is the reply: a step of the board, whose output stands behind what
-- the slot's console put out before. Nothing else of the session changes.
pub record IsStep {A : Type 0} (old : SessionState) (event : Event A) (reply : Reply A)
    (new : SessionState) : Type 0 where
  pub answers :
      Answers (world_of old) event reply (output_of event.slot old) (output_of event.slot new)
      (world_of new)
  -- no other slot changes, and none's output; each slot keeps its extent, and the image its size
  pub others : KeepsOthers event.slot old.slots new.slots
  pub outputs : KeepsOtherOutputs event.slot old.outputs new.outputs
  pub extents : extents_of new.slots ≡ extents_of old.slots
  pub size : length new.image ≡ length old.image
  -- what waits of the slot's output, and how much may, decide what is put out; nothing else is refused for
  -- want of room, and each limit stays
  pub within :
      (found after : SlotState) → slice_get (world_of old).slots event.slot ≡ Some found →
      slice_get (world_of new).slots event.slot ≡ Some after →
      TakesWithin (limit_of event.slot old) found event.what after (output_of event.slot old)
      (output_of event.slot new) reply
  pub refused :
      reply ≡ NoMemory → (found : SlotState) → slice_get (world_of old).slots event.slot ≡ Some found →
      MayPutOut found event.what
  pub limits : (slot : ℕ) → limit_of slot new ≡ limit_of slot old
  -- nothing is paused by it, or goes on
  pub paused : new.paused ≡ old.paused
  pub budget : new.budget ≡ old.budget
  -- which events are refused, and what a refusal keeps
  pub bad_slot : (reply ≡ BadSlot) ↔ (length old.slots ≤ event.slot)
  pub bad_slot_keeps : reply ≡ BadSlot → new ≡ old
  pub bad_range_keeps : reply ≡ BadRange → new ≡ old
  pub no_memory :
      reply ≡ NoMemory →
      IsSomeAnd (slice_get old.slots event.slot) (λ slot. MayLackMemory (state_of old.image slot) event.what)

-- the guests' slots of the board
abbrev pub slots_of : List GuestSpec → List SlotSpec
slots_of guests = map (λ guest. guest.slot) guests

-- a guest's further devices: those before the first place that has none
abbrev pub before_none : {X : Type 0} → List (Option X) → List X
before_none [] = []
before_none (None ∷ places) = []
before_none (Some x ∷ places) = x ∷ before_none places

abbrev pub devices_of : GuestSpec → List DeviceSpec
devices_of guest = before_none guest.devices

-- a slot with these further devices, as after a reset
abbrev pub with_fresh : List DeviceSpec → BoardSlot → BoardSlot
with_fresh specs slot = record slot { devices = map fresh_device specs }

-- the slots, each with its guest's further devices
abbrev pub plugged : List GuestSpec → List BoardSlot → List BoardSlot
plugged [] slots = slots
plugged (guest ∷ guests) [] = []
plugged (guest ∷ guests) (slot ∷ slots) = with_fresh (devices_of guest) slot ∷ plugged guests slots

-- a new session: the slots of a new board with the guests' further devices, the image as it was handed over,
-- nothing put out yet, and nothing paused
abbrev pub new_session : List GuestSpec → List ℕ → Budget → SessionState
new_session guests image budget = record {
  slots = plugged guests (map opened (slots_of guests));
  image = image;
  dirty = false;
  outputs = map (λ guest. none_waiting guest.outlet) guests;
  paused = replicate (length guests) None;
  budget = budget;
}

-- a new session whose guests' memories have these bytes: those of each region, guest by guest
abbrev pub new_session_over : List GuestSpec → List (List ℕ) → List ℕ → Budget → SessionState
new_session_over guests bytes image budget = record (new_session guests image budget) {
  slots = plugged guests (made_over opened_over (slots_of guests) bytes);
}

-- a session in which a slot, which was this one, has another memory, and nothing else is other
abbrev pub with_memory : ℕ → BoardSlot → Memory → SessionState → SessionState
with_memory slot found memory session = record session {
  slots = slice_set session.slots slot (record found { memory = memory });
}

-- a session with these bytes in the memory of a slot, from this address on
abbrev pub with_slot_bytes : ℕ → ℕ → SessionState → List ℕ → SessionState
with_slot_bytes slot addr session bytes = record session {
  slots = put_back slot (slice_get session.slots slot) addr bytes session.slots;
}

-- the slot is there, and not all of a range of so many bytes lies in its memory
abbrev pub IsOutside : ℕ → ℕ → ℕ → List BoardSlot → Type 0
IsOutside slot addr count slots =
    IsSomeAnd (slice_get slots slot) (λ found. ¬ Inside found.memory addr count)

-- nothing that can be seen of a session is other
pub record IsKept (old new : SessionState) : Type 0 where
  pub world : world_of new ≡ world_of old
  pub outputs : (slot : ℕ) → waiting_at slot new.outputs ≡ waiting_at slot old.outputs
  pub paused : new.paused ≡ old.paused
  pub budget : new.budget ≡ old.budget

-- an event whose answer takes no memory: it is no read of memory, and of what is done to a further device
-- neither that it is plugged in nor that a frame of it is taken
abbrev pub AnswersInPlace : {A : Type 0} → EventKind A → Type 0
AnswersInPlace (MemRead addr len) = ⊥
AnswersInPlace (Device n (Plug spec)) = ⊥
AnswersInPlace (Device n TakeSent) = ⊥
AnswersInPlace what = ⊤

-- a turn that begins no other
abbrev pub BeginsInPlace : {A : Type 0} → TurnKind A → Type 0
BeginsInPlace (Begin what) = AnswersInPlace what.now
BeginsInPlace turn = ⊤
