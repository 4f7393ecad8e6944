-- An event that leaves the image alone and puts nothing out.
use Rattle.std.specs.Prelude.{◌≡◌, ◌≢◌, ℕ, IsSome, None, Some, List, [], Result, Ok, Err}
use Rattle.guest_memory.specs.Memory.{SameRange}
use Rattle.chain.specs.declared.budget.Budget.{Budget}
use Rattle.mmio_window.specs.declared.stage.Stage.{Stage}
use Rattle.mmio_window.specs.declared.stage.Stage.TheVariants.{First}
use Rattle.board.specs.declared.slot.device_begins.Asked.{Asked}
use Rattle.board.specs.declared.event.DeviceEvent.{DeviceEvent}
use Rattle.board.specs.declared.event.EventKind.{EventKind}
use Rattle.board.specs.declared.event.EventKind.TheVariants.{Device}
use Rattle.board.specs.declared.pause.Pause.{Pause}
use Rattle.board.specs.declared.pause.Turn.{Turn}
use Rattle.board.specs.declared.pause.Turn.TheVariants.{Answered}
use Rattle.board.specs.declared.reply.Reply.{Reply}
use Rattle.board.specs.declared.reply.Reply.TheVariants.{BadRange, BadSlot, NoMemory}
use Rattle.board.specs.Devices.{TakesMemoryFor, device_asks, devices_readied, further_service}
use Rattle.board.specs.Image.{Health, sectors_of}
use Rattle.board.specs.ImageDisks.{image_served_in}
use Rattle.board.specs.Outcome.{replies}
use Rattle.board.specs.Pausing.{Begins, BeginsOverImage, ComesTo, PausesByLimit, asked_over_image, readied}
use Rattle.board.specs.Slot.{BoardSlot, KeepsPlace, state_of}
use Rattle.board.specs.World.{MayGive, MayGiveOverImage}

-- What a slot gives for it may be given over an image, whatever that has.
abbrev pub GivesQuietly : {A : Type 0} → BoardSlot → EventKind A → BoardSlot → Reply A → Type 0
GivesQuietly old what new reply =
    (image : List ℕ) (health : Health) →
    MayGiveOverImage (state_of image old) what health health (replies (state_of image new) reply)

-- A slot answers it so, whoever has its disk, and for no want of memory. Where the disk lies stays, and no refusal is
-- noted.
pub record AnswersQuietly {A : Type 0} (old : BoardSlot) (what : EventKind A) (new : BoardSlot) (reply : Reply A)
    : Type 0 where
  pub given : (image : List ℕ) (health : Health) → sectors_of (state_of image old).extent ≡ old.extent.count →
      MayGive (state_of image old) what health health (replies (state_of image new) reply)
  pub place : KeepsPlace old new
  pub disturbed : new.disturbed ≡ old.disturbed
  pub answered : reply ≢ NoMemory

-- What comes of this that is done to further device n of a slot, as over an image. Of the slot only its devices change,
-- and bytes of its memory. Only what takes memory finds none.
pub record DoesToDevice {A : Type 0} (n : ℕ) (what : DeviceEvent A) (old new : BoardSlot) (reply : Reply A)
    : Type 0 where
  pub given : GivesQuietly old (Device n what) new reply
  pub rest : new ≡ record old { memory = new.memory; devices = new.devices }
  pub range : SameRange old.memory new.memory
  pub there : reply ≢ BadSlot
  pub in_range : reply ≢ BadRange
  pub no_memory : reply ≡ NoMemory → (image : List ℕ) → TakesMemoryFor n what (state_of image old)

-- A piece of a further device's service, as over an image. Of the slot only its devices change, and bytes of its memory.
pub record ServesFurther {A : Type 0} (pause : Pause) (stage : Stage) (budget : Budget) (old new : BoardSlot) (turn : Turn A)
    : Type 0 where
  pub comes : (image : List ℕ) (health : Health) →
      ComesTo pause stage budget (state_of image old) health health (state_of image new) [] turn
  pub rest : new ≡ record old { memory = new.memory; devices = new.devices }
  pub range : SameRange old.memory new.memory
  pub limited : PausesByLimit budget turn
  pub there : turn ≢ Answered BadSlot
  pub in_range : turn ≢ Answered BadRange
  pub answered : turn ≢ Answered NoMemory

-- What is done to further device n of a slot asks for this service, and the slot is as that finds it.
pub record AsksAtDevice {A : Type 0} (n : ℕ) (what : DeviceEvent A) (old new : BoardSlot) (pause : Pause) : Type 0 where
  pub asks : device_asks n what (state_of [] old) ≡ Some pause
  pub readied : new ≡ record old { devices = devices_readied n what old.memory old.devices }

-- It asks for none, and is answered so.
pub record AnswersAtDevice {A : Type 0} (n : ℕ) (what : DeviceEvent A) (old new : BoardSlot) (reply : Reply A)
    : Type 0 where
  pub asks : device_asks n what (state_of [] old) ≡ None
  pub does : DoesToDevice n what old new reply

-- An event asks for this service of a further disk over the image, and the slot is as that finds it. Of the slot only its
-- devices changed.
pub record AsksImageDisk {A : Type 0} (what : EventKind A) (old new : BoardSlot) (pause : Pause) : Type 0 where
  pub asks : (image : List ℕ) → asked_over_image what (state_of image old) ≡ Some pause
  pub image : IsSome (image_served_in pause.service new)
  pub readied : (image : List ℕ) → state_of image new ≡ readied what (state_of image old)
  pub rest : new ≡ record old { devices = new.devices }

-- What a turn comes to in which this begins that is done to further device n of a slot, as over an image. Of the slot only
-- its devices change, and bytes of its memory. Only what takes memory finds none.
pub record BeginsAtDevice {A : Type 0} (n : ℕ) (what : DeviceEvent A) (budget : Budget) (old new : BoardSlot)
    (turn : Turn A) : Type 0 where
  pub begins : (image : List ℕ) (health : Health) →
      BeginsOverImage (Device n what) budget (state_of image old) health health (state_of image new) [] turn
  pub rest : new ≡ record old { memory = new.memory; devices = new.devices }
  pub range : SameRange old.memory new.memory
  pub limited : PausesByLimit budget turn
  pub there : turn ≢ Answered BadSlot
  pub in_range : turn ≢ Answered BadRange
  pub no_memory : turn ≡ Answered NoMemory → (image : List ℕ) → TakesMemoryFor n what (state_of image old)

-- An event begins so, whoever has the slot's disk, and for no want of memory. Where the disk lies stays, and no refusal is
-- noted.
pub record BeginsQuietly {A : Type 0} (old : BoardSlot) (what : EventKind A) (budget : Budget) (new : BoardSlot)
    (turn : Turn A) : Type 0 where
  pub begins : (image : List ℕ) (health : Health) →
      Begins what budget (state_of image old) health health (state_of image new) [] turn
  pub place : KeepsPlace old new
  pub disturbed : new.disturbed ≡ old.disturbed
  pub limited : PausesByLimit budget turn
  pub there : turn ≢ Answered BadSlot
  pub in_range : turn ≢ Answered BadRange
  pub answered : turn ≢ Answered NoMemory

-- What begins where so much was asked for of further device n: the first piece of its service, unless that is over the image,
-- which is to begin; or nothing more, where it was answered.
abbrev pub BeginsAsked : {A : Type 0} → ℕ → Result Asked (Reply A) → Budget → BoardSlot → BoardSlot
    → Result (Turn A) Pause → Type 0
BeginsAsked n (Ok asked) budget old new (Ok turn) =
    ServesFurther (further_service n asked.queue asked.taken) First budget old new turn
BeginsAsked n (Ok asked) budget old new (Err pause) =
    (pause ≡ further_service n asked.queue asked.taken) × (IsSome (image_served_in pause.service new) × (new ≡ old))
BeginsAsked n (Err reply) budget old new (Ok turn) = (turn ≡ Answered reply) × (new ≡ old)
BeginsAsked n (Err reply) budget old new (Err pause) = ⊥
