-- An event that was refused was so in one of five ways.
use Rattle.std.proofs.Common.{◌≡◌, ◌⊎◌, inl, inr, refl, Some, ℕ, zero, suc, ◌%◌, ◌==◌, Bool, true, false}
use Rattle.std.specs.Prelude.{if◌then◌else◌, ◌^◌, ⊤}
use Rattle.mmio_window.specs.declared.action.Action.{Action}
use Rattle.mmio_window.specs.declared.action.Action.TheVariants as action
use Rattle.console_device.specs.Config.{emergency_write}
use Rattle.board.specs.declared.event.SlotWindow.TheVariants.{Block, Console}
use Rattle.mmio_window.specs.Window.{WindowState}
use Rattle.block_device.specs.declared.device.BlockDevice.{BlockDevice}
use Rattle.board.specs.declared.event.DeviceEvent.{DeviceEvent}
use Rattle.board.specs.declared.event.EventKind.{EventKind}
use Rattle.board.specs.declared.event.EventKind.TheVariants.{Write, MemRead, Device}
use Rattle.board.specs.declared.reply.Reply.TheVariants.{NoMemory}
use Rattle.board.specs.Image.{Health}
use Rattle.board.specs.ImageDisks.{IsFailedAtImage, device_readied, image_asked}
use Rattle.board.specs.Machine.{action_at, with_write}
use Rattle.board.specs.Outcome.{Outcome, IsDetermined, replies}
use Rattle.board.specs.Slot.{SlotState}
use Rattle.board.specs.Task.{Nothing, PutOut, task_of}
use Rattle.board.specs.Within.{IsPuttingOut, MayPutOut}
use Rattle.board.proofs.AtDevice.{refused_by_image}
use Rattle.board.specs.World.{IsCutShort, IsFailedService, IsRefused, IsRefusedTransmit}

-- an event is no write of a window
abbrev IsNoWrite : {A : Type 0} → EventKind A → Type 0
IsNoWrite (Write window offset width value) = ⊥
IsNoWrite what = ⊤

-- Calls of the image failed, in a service of the slot's own disk or of a further one; or there was no memory for the bytes of a chain, for one byte, for a read, or for what
-- is done to a further device.
pub data WasRefused {A : Type 0} (state : SlotState) (what : EventKind A) (old new : Health)
    (outcome : Outcome A) : Type 0 where
  Failed :
      (block : WindowState) → IsFailedService (record state { block = block }) old new outcome
      → WasRefused state what old new outcome
  FailedImage :
      (n : ℕ) (disk : BlockDevice) (asked : DeviceEvent A) → what ≡ Device n asked → image_asked n asked state ≡ Some disk
      → IsFailedAtImage n disk (device_readied n asked state) old new outcome
      → WasRefused state what old new outcome
  Unsent :
      (console : WindowState) → MayPutOut state what
      → IsRefusedTransmit (record state { console = console }) old new outcome
      → WasRefused state what old new outcome
  Unput :
      (console : WindowState) → MayPutOut state what
      → IsDetermined outcome (replies (record state { console = console }) NoMemory) old new
      → WasRefused state what old new outcome
  Unread :
      IsNoWrite what → IsDetermined outcome (replies state NoMemory) old new
      → WasRefused state what old new outcome

block_refused : {A : Type 0} (act : Action) (state : SlotState) (old new : Health) (outcome : Outcome A)
    → IsCutShort (task_of Block act) state old new outcome → IsFailedService state old new outcome
block_refused (action.Notify zero) state old new outcome h = h
block_refused _ state old new outcome h = absurd h

-- what the console had no memory for
abbrev IsUnput : {A : Type 0} → SlotState → Health → Health → Outcome A → Type 0
IsUnput state old new outcome = IsRefusedTransmit state old new outcome
    ⊎ IsDetermined outcome (replies state NoMemory) old new

byte_refused : {A : Type 0} (is : Bool) (byte : ℕ) (state : SlotState) (old new : Health) (outcome : Outcome
    A)
    → IsCutShort (if is then PutOut byte else Nothing) state old new outcome
    → IsUnput state old new outcome × IsPuttingOut (if is then PutOut byte else Nothing)
byte_refused true byte state old new outcome h = (inr h, tt)
byte_refused false byte state old new outcome h = absurd h

console_refused : {A : Type 0} (act : Action) (state : SlotState) (old new : Health) (outcome : Outcome A)
    → IsCutShort (task_of Console act) state old new outcome
    → IsUnput state old new outcome × IsPuttingOut (task_of Console act)
console_refused (action.Notify (suc zero)) state old new outcome h = (inl h, tt)
console_refused (action.ConfigWrite offset width value) state old new outcome h =
    byte_refused (offset == emergency_write) (value % 2 ^ 8) state old new outcome h
console_refused _ state old new outcome h = absurd h

unput : {A : Type 0} (state : SlotState) (what : EventKind A) (console : WindowState) (old new : Health)
    (outcome : Outcome A) → IsUnput (record state { console = console }) old new outcome
    → MayPutOut state what
    → WasRefused state what old new outcome
unput state what console old new outcome (inl unsent) puts = Unsent console puts unsent
unput state what console old new outcome (inr silent) puts = Unput console puts silent

pub was_refused : {A : Type 0} (state : SlotState) (what : EventKind A) (old new : Health)
    (outcome : Outcome A) → IsRefused state what old new outcome → WasRefused state what old new outcome
was_refused state (Write Block offset width value) old new outcome h =
    Failed (with_write Block offset width value state).block
    (block_refused (action_at Block offset width value state) (with_write Block offset width value state) old
    new
    outcome h)
was_refused state (Write Console offset width value) old new outcome h =
    let came = console_refused (action_at Console offset width value state)
    (with_write Console offset width value state) old new outcome h in
    unput state (Write Console offset width value) (with_write Console offset width value state).console old
    new
    outcome came.0 came.1
was_refused state (MemRead addr len) old new outcome h =
    Unread tt (record { alike = h.unchanged; image = h.image })
was_refused state (Device n what) old new outcome h =
    refused_by_image n what state old new outcome (image_asked n what state)
    (λ none unmet. Unread tt (record { alike = unmet.unchanged; image = unmet.image }))
    (λ disk asked failed. FailedImage n disk what refl asked failed) h
was_refused state _ old new outcome h = absurd h
