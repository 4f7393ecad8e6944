-- An event whose service may pause: what each piece of the service comes to, for one slot.
use Rattle.std.specs.Prelude.{◌≡◌, ◌≢◌, ◌⊎◌, ⊤, ℕ, ◌<◌, ◌||◌, Bool, true, false, if◌then◌else◌, nat_lt, Option, Some, None, List, [], ◌++◌, slice_set}
use Rattle.std.specs.List.{slice_get}
use Rattle.chain.specs.declared.budget.Budget.{Budget}
use Rattle.chain.specs.declared.budget.Progress.{Progress}
use Rattle.chain.specs.declared.budget.Progress.TheVariants as progress
use Rattle.chain.specs.Service.{Device}
use Rattle.mmio_window.specs.declared.stage.Stage.{Stage}
use Rattle.mmio_window.specs.declared.stage.Stage.TheVariants.{First, Next}
use Rattle.mmio_window.specs.Pieces.{IsRefusedAt, ServesTo}
use Rattle.mmio_window.specs.Window.{queue_at}
use Rattle.sector_cache.specs.Disk.{Disk}
use Rattle.block_device.specs.declared.device.BlockDevice.{BlockDevice}
use Rattle.block_device.specs.Device.{block_device, exact_device}
use Rattle.console_device.specs.Device.{receive, transmit, exact_transmit}
use Rattle.console_device.specs.Input.{fitting}
use Rattle.board.specs.declared.event.EventKind.{EventKind}
use Rattle.device_list.specs.List.{DevicesServeTo}
use Rattle.board.specs.declared.event.EventKind.TheVariants.{Write, Input, Device as DeviceEvent}
use Rattle.board.specs.declared.pause.Pause.{Pause}
use Rattle.board.specs.declared.pause.Service.{Service}
use Rattle.board.specs.declared.pause.Service.TheVariants.{Block, Receive, Transmit, Further}
use Rattle.board.specs.declared.pause.Work.{Work}
use Rattle.board.specs.declared.pause.Work.TheVariants.{Begin, InPlace, Resume}
use Rattle.board.specs.declared.pause.Turn.{Turn}
use Rattle.board.specs.declared.pause.Turn.TheVariants.{Answered, More}
use Rattle.board.specs.declared.reply.Reply.{Reply}
use Rattle.board.specs.declared.reply.Reply.TheVariants.{Done, Took, NoMemory}
use Rattle.board.specs.Image.{Health, Tells, bytes_of, health_of, sectors_of, disk_with}
use Rattle.hosted_disk.specs.Disk.{HostedDisk}
use Rattle.board.specs.Devices.{device_asks}
use Rattle.board.specs.Hosting.{has_part}
use Rattle.board.specs.InPlace.{event_in}
use Rattle.board.specs.ImageDisks.{ServesImageDisk, image_device, image_served}
use Rattle.board.specs.Machine.{block_irq, console_irq, task_at}
pub use Rattle.board.specs.Machine.{readied}
use Rattle.board.specs.Slot.{BoardSlot, SlotState, state_of}
use Rattle.board.specs.Task.{Task, Serve, device_of}
use Rattle.board.specs.Outcome.{Outcome}
use Rattle.board.specs.World.{World, MayGive, MayGiveOverImage, MayLackMemory, lacks_memory, noted}

-- ---- one piece

-- A piece of the block device's service: its window, the memory and the guest's sectors may change.
pub record IsBlockPiece (device : Device Disk) (stage : Stage) (budget : Budget) (progress : Progress)
    (old : SlotState) (before after : Health) (new : SlotState) (output : List ℕ) : Type 0 where
  pub served :
      ServesTo stage device budget 0 (queue_at 0 old.block) progress old.memory new.memory old.block new.block
      (disk_with old.extent before) (disk_with new.extent after)
  pub is : new ≡ record old { memory = new.memory; extent = new.extent; block = new.block }
  pub size : sectors_of new.extent ≡ sectors_of old.extent
  pub silent : output ≡ []

-- one in which no call of the image failed
pub record IsExactPiece (stage : Stage) (budget : Budget) (progress : Progress) (old : SlotState)
    (before after : Health) (new : SlotState) (output : List ℕ) : Type 0 where
  pub piece : IsBlockPiece (exact_device (device_of old)) stage budget progress old before after new output
  pub failures : after.failures ≡ before.failures

-- and one in which some did
pub record IsFailedPiece (stage : Stage) (budget : Budget) (progress : Progress) (old : SlotState)
    (before after : Health) (new : SlotState) (output : List ℕ) : Type 0 where
  pub piece : IsBlockPiece (block_device (device_of old)) stage budget progress old before after new output
  pub failures : before.failures < after.failures

-- A piece of the receive queue's service: the console's window, the memory and pending input may change.
pub record IsReceivePiece (stage : Stage) (budget : Budget) (progress : Progress) (old : SlotState)
    (before after : Health) (new : SlotState) (output : List ℕ) : Type 0 where
  pub served :
      ServesTo stage receive budget 0 (queue_at 0 old.console) progress old.memory new.memory
      old.console new.console
      old.pending new.pending
  pub is : new ≡ record old { memory = new.memory; console = new.console; pending = new.pending }
  pub image : after ≡ before
  pub silent : output ≡ []

-- A piece of the transmit queue's service: the console's window and the memory may change.
pub record IsTransmitPiece (stage : Stage) (budget : Budget) (progress : Progress) (old : SlotState)
    (before after : Health) (new : SlotState) (output : List ℕ) : Type 0 where
  pub served :
      ServesTo stage exact_transmit budget 1 (queue_at 1 old.console) progress old.memory new.memory
      old.console new.console
      [] output
  pub is : new ≡ record old { memory = new.memory; console = new.console }
  pub image : after ≡ before

-- and one that finds no memory for the bytes of the chain on offer
pub record IsRefusedPiece (stage : Stage) (budget : Budget) (old : SlotState) (before after : Health)
    (new : SlotState) (output : List ℕ) : Type 0 where
  pub refused :
      IsRefusedAt stage transmit budget 1 (queue_at 1 old.console) old.memory new.memory old.console
      new.console [] output
  pub is : new ≡ record old { memory = new.memory; console = new.console }
  pub image : after ≡ before

-- A piece of the service of a further disk over the image.
pub record IsImageDiskPiece (device : Device Disk) (n : ℕ) (disk : BlockDevice) (stage : Stage) (budget : Budget)
    (progress : Progress) (old : SlotState) (before after : Health) (new : SlotState) (output : List ℕ) : Type 0 where
  pub serves : ServesImageDisk (λ queue m m' w w' s t. ServesTo stage device budget 0 queue progress m m' w w' s t)
      n disk old new before after
  pub silent : output ≡ []

-- one in which no call of the image failed, or some did
abbrev pub IsAnyImageDiskPiece : ℕ → BlockDevice → Stage → Budget → Progress → SlotState → Health → Health
    → SlotState → List ℕ → Type 0
IsAnyImageDiskPiece n disk stage budget progress old before after new output =
    (IsImageDiskPiece (exact_device (image_device disk)) n disk stage budget progress old before after new output
    × (after.failures ≡ before.failures))
    ⊎ (IsImageDiskPiece (block_device (image_device disk)) n disk stage budget progress old before after new output
    × (before.failures < after.failures))

-- A piece of another further device's service of a queue: the memory and the devices may change.
pub record IsFurtherPiece (n q : ℕ) (stage : Stage) (budget : Budget) (progress : Progress) (old : SlotState)
    (before after : Health) (new : SlotState) (output : List ℕ) : Type 0 where
  pub served : DevicesServeTo stage budget progress n q old.memory new.memory old.devices new.devices
  pub is : new ≡ record old { memory = new.memory; devices = new.devices }
  pub image : after ≡ before
  pub silent : output ≡ []

-- a piece of a further device's service, by the disk over the image that it is, if it is one
abbrev pub IsPieceAtDevice : Option BlockDevice → ℕ → ℕ → Stage → Budget → Progress → SlotState → Health → Health
    → SlotState → List ℕ → Type 0
IsPieceAtDevice None n q stage budget progress old before after new output =
    IsFurtherPiece n q stage budget progress old before after new output
IsPieceAtDevice (Some disk) n q stage budget progress old before after new output =
    IsAnyImageDiskPiece n disk stage budget progress old before after new output

abbrev pub IsPiece : Service → Stage → Budget → Progress → SlotState → Health → Health
    → SlotState → List ℕ → Type 0
IsPiece Block stage budget progress old before after new output =
    IsExactPiece stage budget progress old before after new output
    ⊎ IsFailedPiece stage budget progress old before after new output
IsPiece Receive stage budget progress old before after new output =
    IsReceivePiece stage budget progress old before after new output
IsPiece Transmit stage budget progress old before after new output =
    IsTransmitPiece stage budget progress old before after new output
IsPiece (Further n q) stage budget progress old before after new output =
    IsPieceAtDevice (image_served (Further n q) old) n q stage budget progress old before after new output

-- whether a budget has a limit: without one no service pauses
abbrev pub HasLimit : Budget → Type 0
HasLimit budget = (budget.chains ≢ None) ⊎ (budget.bytes ≢ None)

-- only within a budget that has a limit is this turn a pause
abbrev pub PausesByLimit : {A : Type 0} → Budget → Turn A → Type 0
PausesByLimit budget turn = (next : Pause) → turn ≡ More next → HasLimit budget

-- ---- its answer

-- what an event is answered at the end of its service
abbrev pub reply_by : {A : Type 0} → Option ℕ → Reply A
reply_by None = Done
reply_by (Some taken) = Took taken

abbrev pub reply_of : {A : Type 0} → Pause → Reply A
reply_of pause = reply_by pause.taken

-- and what a piece of it comes to
abbrev pub turn_of : {A : Type 0} → Pause → Progress → Turn A
turn_of pause progress.Done = Answered (reply_of pause)
turn_of pause progress.More = More pause

-- A piece that ends the service: it goes to the end, or finds no memory for what is put out.
abbrev pub EndsBy : {A : Type 0} → Pause → Stage → Budget → SlotState → Health → Health → SlotState
    → List ℕ → Reply A → Type 0
EndsBy pause stage budget old before after new output reply =
    ((reply ≡ reply_of pause) × IsPiece pause.service stage budget progress.Done old before after new output)
    ⊎ ((reply ≡ NoMemory) × ((pause.service ≡ Transmit)
    × IsRefusedPiece stage budget old before after new output))

-- What a piece of a service comes to.
abbrev pub ComesTo : {A : Type 0} → Pause → Stage → Budget → SlotState → Health → Health → SlotState
    → List ℕ → Turn A → Type 0
ComesTo pause stage budget old before after new output (Answered reply) =
    EndsBy pause stage budget old before after new output reply
ComesTo pause stage budget old before after new output (More next) =
    (next ≡ pause) × IsPiece pause.service stage budget progress.More old before after new output

-- ---- an event

-- the service that a task asks for, if any
abbrev pub asked_by : Task → Option Pause
asked_by (Serve service) = Some (record { service = service; taken = None })
asked_by task = None

-- the service of an input, and how many of its bytes the console took before it
abbrev pub input_service : List ℕ → List ℕ → Pause
input_service pending bytes = record { service = Receive; taken = Some (fitting pending bytes) }

-- the service that an event asks for, of a guest whose disk is of the image
abbrev pub asked_over_image : {A : Type 0} → EventKind A → SlotState → Option Pause
asked_over_image (Write window offset width value) state = asked_by (task_at window offset width value state)
asked_over_image (Input bytes) state = Some (input_service state.pending bytes)
asked_over_image (DeviceEvent n what) state = device_asks n what state
asked_over_image what state = None

-- and of any guest: no service in which the host has a part pauses
abbrev pub asked : {A : Type 0} → EventKind A → SlotState → Option Pause
asked what state = if has_part state.host what state then None else asked_over_image what state

-- What an event comes to, by the service that it asks for. One that asks for none is answered at once, as it
-- may be.
abbrev pub TurnsTo : {A : Type 0} → (Outcome A → Type 0) → Option Pause → EventKind A → Budget → SlotState
    → Health → Health → SlotState → List ℕ → Turn A → Type 0
TurnsTo May (Some pause) what budget old before after new output turn =
    ComesTo pause First budget (readied what old) before after new output turn
TurnsTo May None what budget old before after new output (Answered reply) =
    May (record { state = new; reply = reply; output = output })
TurnsTo May None what budget old before after new output (More pause) = ⊥

-- of a guest whose disk is of the image
abbrev pub BeginsOverImage : {A : Type 0} → EventKind A → Budget → SlotState → Health → Health → SlotState
    → List ℕ → Turn A → Type 0
BeginsOverImage what budget old before after new output turn =
    TurnsTo (MayGiveOverImage old what before after) (asked_over_image what old) what budget old before after
    new output turn

-- and of any guest
abbrev pub Begins : {A : Type 0} → EventKind A → Budget → SlotState → Health → Health → SlotState
    → List ℕ → Turn A → Type 0
Begins what budget old before after new output turn =
    TurnsTo (MayGive old what before after) (asked what old) what budget old before after new output turn

-- whether the host has the disk that this service serves: such a service never pauses
abbrev pub is_hosts : Option HostedDisk → Service → Bool
is_hosts (Some disk) Block = true
is_hosts host service = false

-- there is nothing to go on with
pub record HasNothingLeft {A : Type 0} (pause : Pause) (old : SlotState) (before after : Health)
    (new : SlotState) (output : List ℕ) (turn : Turn A) : Type 0 where
  pub answered : turn ≡ Answered (reply_of pause)
  pub same : new ≡ old
  pub image : after ≡ before
  pub silent : output ≡ []

-- What a service that paused comes to as it goes on.
abbrev pub GoesOnBy : {A : Type 0} → Bool → Pause → Budget → SlotState → Health → Health → SlotState
    → List ℕ → Turn A → Type 0
GoesOnBy true pause budget old before after new output turn =
    HasNothingLeft pause old before after new output turn
GoesOnBy false pause budget old before after new output turn =
    ComesTo pause Next budget old before after new output turn

abbrev pub GoesOn : {A : Type 0} → Pause → Budget → SlotState → Health → Health → SlotState
    → List ℕ → Turn A → Type 0
GoesOn pause budget old before after new output turn =
    GoesOnBy (is_hosts old.host pause.service) pause budget old before after new output turn

-- What a turn of a slot comes to, by what it is to do: an event begins, or a service that paused goes on.
abbrev pub Does : {A : Type 0} → Work A → Budget → SlotState → Health → Health → SlotState
    → List ℕ → Turn A → Type 0
Does {A} (Begin what) budget old before after new output turn =
    Begins what.now budget old before after new output turn
Does {A} (InPlace what) budget old before after new output turn =
    Begins {A = A} (event_in what) budget old before after new output turn
Does {A} (Resume pause) budget old before after new output turn =
    GoesOn pause budget old before after new output turn

-- the turns that may find no memory: those of the events that may, and any of a service that goes on
abbrev pub MayLackMemoryIn : {A : Type 0} → Work A → SlotState → Type 0
MayLackMemoryIn {A} (Begin what) state = MayLackMemory state what.now
MayLackMemoryIn {A} (InPlace what) state = MayLackMemory {A = A} state (event_in what)
MayLackMemoryIn {A} (Resume pause) state = ⊤

-- ---- what is noted of it

-- whether it found no memory
abbrev pub lacks_memory_in : {A : Type 0} → Turn A → Bool
lacks_memory_in (Answered reply) = lacks_memory reply
lacks_memory_in (More pause) = false

-- whether it met a refusal, of memory or of the image
abbrev pub met_in : {A : Type 0} → Turn A → ℕ → ℕ → Bool
met_in turn old_failures new_failures = lacks_memory_in turn || nat_lt old_failures new_failures

-- A slot's guest is served so: its event comes to a turn that it may come to, and the output was appended to
-- what was put out before.
pub record ServesTurn {A : Type 0}
    (Comes : SlotState → Health → Health → SlotState → List ℕ → Turn A → Type 0)
    (state : SlotState) (old new : Health) (after : SlotState) (turn : Turn A)
    (out_before out_after : List ℕ) : Type 0 where
  pub output : List ℕ
  pub comes : Comes state old new after output turn
  pub appended : out_after ≡ out_before ++ output

-- A slot of a board serves its guest so over an image that tells its bytes.
abbrev pub ServesOver : {A : Type 0} → (SlotState → Health → Health → SlotState → List ℕ → Turn A → Type 0)
    → BoardSlot → BoardSlot → Disk → Disk → Turn A → List ℕ → List ℕ → Type 0
ServesOver Comes old new before after turn out_before out_after =
    Tells before →
    ServesTurn Comes (state_of (bytes_of before) old) (health_of before) (health_of after)
    (state_of (bytes_of after) new) turn out_before out_after

-- A turn of slot h on the whole board, which shows these interrupt words after it: a refusal is noted, and
-- every other slot and each byte outside all extents stay as they are.
pub record SlotTurn {A : Type 0} (Comes : SlotState → Health → Health → SlotState → List ℕ → Turn A → Type 0)
    (old : World) (h : ℕ) (turn : Turn A) (output : List ℕ) (block console : ℕ) (new : World) : Type 0 where
  pub state : SlotState
  pub there : slice_get old.slots h ≡ Some state
  pub after : SlotState
  pub comes : Comes state old.health new.health after output turn
  pub block_is : block ≡ block_irq after
  pub console_is : console ≡ console_irq after
  pub slots : new.slots ≡ slice_set old.slots h after
  pub disturbed : new.disturbed ≡ noted h (met_in turn old.health.failures new.health.failures) old.disturbed
  pub outside : new.outside ≡ old.outside

-- The board takes a turn, whose output was appended to what was put out before.
pub record TakesTurn {A : Type 0} (Comes : SlotState → Health → Health → SlotState → List ℕ → Turn A → Type 0)
    (old : World) (h : ℕ) (turn : Turn A) (block console : ℕ) (out_before out_after : List ℕ)
    (new : World) : Type 0 where
  pub output : List ℕ
  pub taken : SlotTurn Comes old h turn output block console new
  pub appended : out_after ≡ out_before ++ output
