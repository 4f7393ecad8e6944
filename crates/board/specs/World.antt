-- The whole board as it can be seen from outside, and what one event may do to it.
use Rattle.std.specs.Prelude.{◌≡◌, ◌≢◌, ◌⊎◌, ℕ, ◌<◌, ◌≤◌, ◌||◌, Bool, true, false, nat_lt, if◌then◌else◌, IsTrue, ⊤, Option, Some, None, List, [], ◌++◌, map, slice_set, IsSomeAnd, MatchOption}
use Rattle.std.specs.List.{slice_get}
use Rattle.std.specs.Option.{option_map_or}
use Rattle.guest_memory.specs.Memory.{Inside, Memory, is_inside}
use Rattle.chain.specs.Service.{Site, Refused, IsRefusedService}
use Rattle.mmio_window.specs.declared.queue.Queue.{Queue}
use Rattle.mmio_window.specs.Queue.{queue_kind}
use Rattle.mmio_window.specs.Serving.{Notified}
use Rattle.mmio_window.specs.Window.{WindowState, queue_at}
use Rattle.sector_cache.specs.Disk.{Disk, KeepsClean}
use Rattle.block_device.specs.declared.extent.Extent.{Extent}
use Rattle.block_device.specs.Device.{block_device}
use Rattle.console_device.specs.Device.{transmit}
use Rattle.board.specs.declared.event.Event.{Event}
use Rattle.board.specs.declared.event.EventKind.{EventKind}
use Rattle.board.specs.declared.event.EventKind.TheVariants.{Read, Write, MemRead, MemWrite, Input, Resize, Restore, Host, Device}
use Rattle.board.specs.declared.reply.Reply.{Reply}
use Rattle.board.specs.declared.reply.Reply.TheVariants.{BadSlot, NoMemory}
use Rattle.board.specs.declared.reply.Record.{Record}
use Rattle.board.specs.declared.pause.Service.TheVariants.{Block, Receive, Transmit, Further}
use Rattle.hosted_disk.specs.Disk.{HostedDisk}
use Rattle.board.specs.Devices.{TakesMemoryFor}
use Rattle.board.specs.Extent.{outside_of}
use Rattle.board.specs.Hosting.{GivesOnHost}
use Rattle.board.specs.Image.{Health, Tells, bytes_of, health_of}
use Rattle.board.specs.ImageDisks.{IsRefusedAtDevice, image_asked}
use Rattle.board.specs.Machine.{task_at, with_write, GivesOverImage, record_of}
use Rattle.board.specs.Outcome.{Outcome, replies, IsDetermined}
use Rattle.board.specs.Slot.{SlotState, BoardSlot, state_of, whole_extent}
use Rattle.board.specs.Task.{Task, Nothing, Serve, PutOut, device_of, transmits, IsBlockService, IsConsoleService}

-- A board: its slots, and the image that they share.
pub record BoardState (I : Type 0) : Type 0 where
  pub slots : List BoardSlot
  pub image : I

-- All that can be seen of a board: the state of each slot, for each whether an event of it has met a
-- refusal, the image's bytes outside all extents, and how the image fares.
pub record World : Type 0 where
  pub slots : List SlotState
  pub disturbed : List Bool
  pub outside : List ℕ
  pub health : Health

-- where in the image each slot has its sectors
abbrev pub extents_of : List BoardSlot → List Extent
extents_of slots = map whole_extent slots

-- for each slot whether an event of it has met a refusal
abbrev pub disturbed_of : List BoardSlot → List Bool
disturbed_of slots = map (λ slot. slot.disturbed) slots

-- what each slot's guest is given by GET_ID
abbrev pub identities_of : List SlotState → List (List ℕ)
identities_of slots = map (λ slot. option_map_or (λ disk. disk.device.identity) slot.host slot.identity) slots

-- what can be seen of slots over an image
abbrev pub seen : List BoardSlot → Disk → World
seen slots disk = record {
  slots = map (state_of (bytes_of disk)) slots;
  disturbed = disturbed_of slots;
  outside = outside_of (extents_of slots) (bytes_of disk);
  health = health_of disk;
}

-- what can be seen of a board
abbrev pub world_of : {I : Type 0} → (I → Disk) → BoardState I → World
world_of disk board = seen board.slots (disk board.image)

-- What events do to a board stays in its slots' extents: an image that tells its bytes goes on telling them,
-- and those outside all extents stay; the extents lie where they did, in an image of the same size; its
-- failures never fall, and while they stay a clean image stays clean.
pub record StaysInExtents {I : Type 0} (disk : I → Disk) (old new : BoardState I) : Type 0 where
  pub tells : Tells (disk old.image) → Tells (disk new.image)
  pub outside : Tells (disk old.image) → (world_of disk new).outside ≡ (world_of disk old).outside
  pub extents : extents_of new.slots ≡ extents_of old.slots
  pub sectors : (disk new.image).sector_count ≡ (disk old.image).sector_count
  pub rises : (disk old.image).failures ≤ (disk new.image).failures
  pub clean : KeepsClean (disk old.image) (disk new.image)

-- ---- one slot

-- The event is handled as the one-slot machine handles it: memory was found for it, and no call of the
-- image failed.
pub record IsServed {A : Type 0} (state : SlotState) (what : EventKind A) (old new : Health)
    (outcome : Outcome A) : Type 0 where
  pub alike : GivesOverImage state what old new outcome
  pub answered : outcome.reply ≢ NoMemory
  pub failures : new.failures ≡ old.failures

-- A read of some bytes that lie in the memory found no memory for its reply: nothing changed, and
-- nothing was put out.
pub record IsUnread {A : Type 0} (state : SlotState) (addr len : ℕ) (old new : Health)
    (outcome : Outcome A) : Type 0 where
  pub some : 0 < len
  pub inside : IsTrue (is_inside state.memory addr len)
  pub unchanged : outcome ≡ replies state NoMemory
  pub image : new ≡ old

-- A service of the block device met an image that failed: each request that met no failure is served as
-- ever, and each that did is counted and ends in one of the ways of a request that fails.
pub record IsFailedService {A : Type 0} (state : SlotState) (old new : Health)
    (outcome : Outcome A) : Type 0 where
  pub service : IsBlockService (block_device (device_of state)) state old new outcome
  pub failures : old.failures < new.failures

-- A service of the transmit queue found no memory for the bytes of the chain on offer, which stays there: the
-- chains before it are out, used and notified, the reply says so, and the rest of the slot stays.
abbrev pub IsRefusedTransmit : {A : Type 0} → SlotState → Health → Health → Outcome A → Type 0
IsRefusedTransmit state old new outcome =
    IsConsoleService (Notified transmit 1 (queue_at 1 state.console) Refused state.memory outcome.state.memory
    state.console outcome.state.console [] outcome.output) outcome (transmits state outcome NoMemory) old new

-- how a task may be refused for want of memory or by the image; some can't be
abbrev pub IsCutShort : {A : Type 0} → Task → SlotState → Health → Health → Outcome A → Type 0
IsCutShort Nothing state old new outcome = ⊥
IsCutShort (Serve Block) state old new outcome = IsFailedService state old new outcome
IsCutShort (Serve Receive) state old new outcome = ⊥
IsCutShort (Serve Transmit) state old new outcome = IsRefusedTransmit state old new outcome
IsCutShort (Serve (Further n q)) state old new outcome = ⊥
IsCutShort (PutOut byte) state old new outcome = IsDetermined outcome (replies state NoMemory) old new

-- and how an event may be
abbrev pub IsRefused : {A : Type 0} → SlotState → EventKind A → Health → Health → Outcome A → Type 0
IsRefused state (Read window offset width) old new outcome = ⊥
IsRefused state (Write window offset width value) old new outcome =
    IsCutShort (task_at window offset width value state) (with_write window offset width value state)
    old new outcome
IsRefused state (MemRead addr len) old new outcome = IsUnread state addr len old new outcome
IsRefused state (MemWrite addr bytes) old new outcome = ⊥
IsRefused state (Input bytes) old new outcome = ⊥
IsRefused state (Resize cols rows) old new outcome = ⊥
IsRefused state (Restore bytes) old new outcome = ⊥
IsRefused state (Host said) old new outcome = ⊥
IsRefused state (Device n what) old new outcome = IsRefusedAtDevice (image_asked n what state) n what state old new outcome

-- what may come of an event of a slot whose disk is of the image, which fared so before and after it
abbrev pub MayGiveOverImage : {A : Type 0} → SlotState → EventKind A → Health → Health → Outcome A → Type 0
MayGiveOverImage state what old new outcome =
    IsServed state what old new outcome ⊎ IsRefused state what old new outcome

-- and what may come of one by who has the guest's disk
abbrev pub MayGiveBy : {A : Type 0} → Option HostedDisk → SlotState → EventKind A → Health → Health → Outcome A
    → Type 0
MayGiveBy None state what old new outcome = MayGiveOverImage state what old new outcome
MayGiveBy (Some disk) state what old new outcome =
    GivesOnHost (MayGiveOverImage state what old old) state what old new outcome

abbrev pub MayGive : {A : Type 0} → SlotState → EventKind A → Health → Health → Outcome A → Type 0
MayGive state what old new outcome = MayGiveBy state.host state what old new outcome

-- A slot's guest is served so: an outcome that it may have, whose output was appended to what was
-- put out before.
pub record Serves {A : Type 0} (state : SlotState) (what : EventKind A) (old new : Health)
    (after : SlotState) (reply : Reply A) (out_before out_after : List ℕ) : Type 0 where
  pub output : List ℕ
  pub given : MayGive state what old new (record { state = after; reply = reply; output = output })
  pub appended : out_after ≡ out_before ++ output

-- ---- the whole board

-- whether a reply says that memory was wanting
abbrev pub lacks_memory : {A : Type 0} → Reply A → Bool
lacks_memory NoMemory = true
lacks_memory _ = false

-- whether an event that was answered so met a refusal, of memory or of the image
abbrev pub met_refusal : {A : Type 0} → Reply A → ℕ → ℕ → Bool
met_refusal reply old_failures new_failures = lacks_memory reply || nat_lt old_failures new_failures

-- an event of slot h that met a refusal is noted for it, once and for all
abbrev pub noted : ℕ → Bool → List Bool → List Bool
noted h met disturbed = if met then slice_set disturbed h true else disturbed

-- a board notes whether what slot h did met a refusal, by how often calls of the image failed in it
abbrev pub NotesRefusal : {I : Type 0} → (I → Disk) → ℕ → (ℕ → ℕ → Bool) → BoardState I
    → BoardState I → Type 0
NotesRefusal disk h met old new =
    disturbed_of new.slots
    ≡ noted h (met (disk old.image).failures (disk new.image).failures) (disturbed_of old.slots)

-- An event of slot h, which was in this state: it comes out as it may, its record says so, a refusal is
-- noted, and every other slot and each byte outside all extents stay as they are.
pub record SlotStep {A : Type 0} (old : World) (h : ℕ) (state : SlotState) (what : EventKind A)
    (written : Record A) (new : World) : Type 0 where
  pub outcome : Outcome A
  pub given : MayGive state what old.health new.health outcome
  pub recorded : written ≡ record_of h outcome
  pub slots : new.slots ≡ slice_set old.slots h outcome.state
  pub disturbed :
      new.disturbed
      ≡ noted h (met_refusal outcome.reply old.health.failures new.health.failures) old.disturbed
  pub outside : new.outside ≡ old.outside

-- the record of an event of slot h: what it was answered, what it put out, and both interrupt words after it
abbrev pub record_with : {A : Type 0} → ℕ → Reply A → List ℕ → ℕ → ℕ → Record A
record_with h reply output block console =
    record { slot = h; reply = reply; output = output; block_irq = block; console_irq = console }

-- the record of an event of a slot that isn't there
abbrev pub bad_slot : {A : Type 0} → ℕ → Record A
bad_slot h = record_with h BadSlot [] 0 0

-- an event of a slot that isn't there changes nothing
pub record MissingStep {A : Type 0} (old : World) (h : ℕ) (written : Record A) (new : World)
    : Type 0 where
  pub recorded : written ≡ bad_slot h
  pub same : new ≡ old

-- what an event may do to the whole board, and its record
abbrev pub Step : {A : Type 0} → World → Event A → Record A → World → Type 0
Step old event written new =
    MatchOption (slice_get old.slots event.slot)
    (MissingStep old event.slot written new)
    (λ state. SlotStep old event.slot state event.what written new)

-- The board handles an event: a step, with this reply and these interrupt words in its record,
-- whose output was appended to what was put out before.
pub record Handles {A : Type 0} (old : World) (event : Event A) (reply : Reply A)
    (block console : ℕ) (out_before out_after : List ℕ) (new : World) : Type 0 where
  pub output : List ℕ
  pub step : Step old event (record_with event.slot reply output block console) new
  pub appended : out_after ≡ out_before ++ output

-- The board answers an event: a step whose record has this reply, and whose output was appended to
-- what was put out before.
pub record Answers {A : Type 0} (old : World) (event : Event A) (reply : Reply A)
    (out_before out_after : List ℕ) (new : World) : Type 0 where
  pub written : Record A
  pub step : Step old event written new
  pub replied : written.reply ≡ reply
  pub appended : out_after ≡ out_before ++ written.output

-- A service of the transmit queue comes to a chain with readable bytes: before that chain it may stop.
pub record HasBytesToPutOut (memory : Memory) (console : WindowState) : Type 0 where
  pub queue : Queue
  pub ready : queue_at 1 console ≡ Some queue
  pub end : Site Queue (List ℕ)
  pub wanted : Bool
  pub stops :
      IsRefusedService queue_kind transmit (record { memory = memory; ring = queue; state = [] }) end wanted

-- the tasks that may find no memory
abbrev pub TakesMemory : Task → SlotState → Type 0
TakesMemory Nothing state = ⊥
TakesMemory (Serve Block) state = ⊥
TakesMemory (Serve Receive) state = ⊥
TakesMemory (Serve Transmit) state = HasBytesToPutOut state.memory state.console
TakesMemory (Serve (Further n q)) state = ⊥
TakesMemory (PutOut byte) state = ⊤

-- The events that may find no memory: a read of some bytes inside the guest's memory, a device that is plugged
-- in, the taking of a frame that was sent, and of the writes to a window the notification of a transmit queue
-- with some bytes on offer, and an emergency write.
abbrev pub MayLackMemory : {A : Type 0} → SlotState → EventKind A → Type 0
MayLackMemory state (Read window offset width) = ⊥
MayLackMemory state (Write window offset width value) =
    TakesMemory (task_at window offset width value state) (with_write window offset width value state)
MayLackMemory state (MemRead addr len) = (0 < len) × Inside state.memory addr len
MayLackMemory state (MemWrite addr bytes) = ⊥
MayLackMemory state (Input bytes) = ⊥
MayLackMemory state (Resize cols rows) = ⊥
MayLackMemory state (Restore bytes) = ⊥
MayLackMemory state (Host said) = ⊥
MayLackMemory state (Device n what) = TakesMemoryFor n what state

-- What can be seen of the board stays, but for what is noted of refusals, and nothing was put out.
pub record KeepsBoard {A : Type 0} (old : World) (written : Record A) (new : World) : Type 0 where
  pub slots : new.slots ≡ old.slots
  pub outside : new.outside ≡ old.outside
  pub health : new.health ≡ old.health
  pub output : written.output ≡ []

-- A call for a slot that isn't there changes nothing, puts nothing out and shows 0 for both interrupt words.
pub record IsMissed {I : Type 0} (old new : BoardState I) (out_before out_after : List ℕ)
    (block_irq console_irq : ℕ) : Type 0 where
  pub same : new ≡ old
  pub silent : out_after ≡ out_before
  pub block : block_irq ≡ 0
  pub console : console_irq ≡ 0

-- the slot of that number is there, and whatever the image has, this holds of what its guest can see
abbrev pub HoldsAt : ℕ → List BoardSlot → (SlotState → Type 0) → Type 0
HoldsAt slot slots Holds =
    IsSomeAnd (slice_get slots slot) (λ found. (image : List ℕ) → Holds (state_of image found))

-- every slot but that one is kept as it was
abbrev pub KeepsOthers : ℕ → List BoardSlot → List BoardSlot → Type 0
KeepsOthers slot old new = (other : ℕ) → other ≢ slot → slice_get new other ≡ slice_get old other
