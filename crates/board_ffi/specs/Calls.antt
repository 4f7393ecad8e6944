-- What a call does to the board behind its handle.
use Rattle.std.specs.Prelude.{◌≡◌, ℕ, ◌-◌, ◌==◌, nat_lt, if◌then◌else◌, List, Option, Some, None, MatchOption, IsSomeAnd, length}
use Rattle.std.specs.Global.{Global}
use Rattle.std.specs.List.{slice_get}
use Rattle.std.specs.Option.{option_map, option_map_or}
use Rattle.board.specs.declared.event.DeviceEvent.{DeviceEvent}
use Rattle.board.specs.declared.event.SlotWindow.{SlotWindow}
use Rattle.board.specs.declared.event.SlotWindow.TheVariants.{Block, Console}
use Rattle.board.specs.declared.slot_disk.SlotDisk.{SlotDisk}
use Rattle.board.specs.declared.slot_disk.SlotDisk.TheVariants.{Own, Further}
use Rattle.board.specs.Slot.{interrupt_words}
use Rattle.session.specs.Session.{SessionState, output_of}
use Rattle.session.specs.declared.told.Waits.{Waits}
use Rattle.board_ffi.specs.declared.handle.Handle.{Handle}
use Rattle.c_values.specs.declared.pending.Pending.{Pending}
use Rattle.board_ffi.specs.Codes.{code_at}
use Rattle.board_ffi.specs.Handle.{Held}
pub use Rattle.board.specs.declared.event.EventKind.{EventKind}
pub use Rattle.board.specs.declared.reply.Reply.{Reply}
pub use Rattle.board_ffi.specs.Devices.{HasDevicePending, IsNoDevice, IsTooShort, TakesFrame}
pub use Rattle.board_ffi.specs.Disk.{HasInFlight, IsAskedFor, IsAtRest, IsNoDisk}
pub use Rattle.board_ffi.specs.Events.{Completes, CopiesImage, GoesOn, HasImage, HasMemory, HasNoRegion, IsBusy, IsOutside, KeepsPages, LacksBits, MovesOutput, PausesBehind, Restores, Says, Takes, Writes}
pub use Rattle.board_ffi.specs.Kept.{HasLines, HasSavedLen, HasWords, IsMissing, IsThere, IsUndisturbed, Saves}

-- A call on a handle: where it holds no board it answers 1 and goes on holding none; a board does this, and
-- is still there.
abbrev pub Calls : Held → Held → ℕ → (SessionState → SessionState → Type 0) → Type 0
Calls before after code step =
    MatchOption before ((code ≡ 1) × (after ≡ None)) (λ old. IsSomeAnd after (step old))

-- The windows of a slot have numbers: 0 is its disk's and 1 its console's,
abbrev pub window_of : ℕ → Option SlotWindow
window_of number = if number == 0 then Some Block else (if number == 1 then Some Console else None)

-- and those from 2 on are its further devices', in their order
abbrev pub device_at : ℕ → Option ℕ
device_at number = if nat_lt number 2 then None else Some (number - 2)

-- a driver's read of the window of a number, and its write
abbrev pub read_event : ℕ → ℕ → ℕ → EventKind Global
read_event number offset width =
    option_map_or (λ window. EventKind.Read window offset width) (window_of number)
    (EventKind.Device (number - 2) (DeviceEvent.Read offset width))

abbrev pub write_event : ℕ → ℕ → ℕ → ℕ → EventKind Global
write_event number offset width value =
    option_map_or (λ window. EventKind.Write window offset width value) (window_of number)
    (EventKind.Device (number - 2) (DeviceEvent.Write offset width value))

-- A call for the disk's window or the console's: of another number it answers 6, and leaves the handle as it was.
abbrev pub AtWindow : ℕ → Handle → Handle → ℕ → (SlotWindow → SessionState → SessionState → Type 0) → Type 0
AtWindow number before after code step =
    MatchOption (window_of number) ((code ≡ 6) × (after ≡ before))
    (λ window. Calls before.session after.session code (step window))

-- the same of one for a further device's window
abbrev pub AtDevice : ℕ → Handle → Handle → ℕ → (ℕ → SessionState → SessionState → Type 0) → Type 0
AtDevice number before after code step =
    MatchOption (device_at number) ((code ≡ 6) × (after ≡ before))
    (λ device. Calls before.session after.session code (step device))

-- whose disk a window's number may name: the slot's own, or that of a further device
abbrev pub disk_window : ℕ → Option SlotDisk
disk_window number = if number == 0 then Some Own else option_map Further (device_at number)

-- A call for the disk of a window does this, where the window may be a disk's. Of the console's it answers 6, or 3 where there
-- is no such slot, and changes nothing.
abbrev pub AtDisk : ℕ → ℕ → ℕ → (SlotDisk → SessionState → SessionState → Type 0) → SessionState → SessionState
    → Type 0
AtDisk number slot code step old new =
    MatchOption (disk_window number) ((code ≡ code_at slot (length old.slots) 6) × (new ≡ old))
    (λ disk. step disk old new)

-- ---- what waits

-- what waits for a slot: both interrupt words, and how many bytes of its console's output
abbrev pub pending_of : (ℕ × ℕ) → List ℕ → Pending
pending_of words output = record { block = words.0; console = words.1; output = length output }

-- as a call told it
abbrev pub pending_by : Waits → Pending
pending_by waits = record { block = waits.block_irq; console = waits.console_irq; output = waits.output }

-- it is told of the session as the call leaves it; of a slot that isn't there nothing is
abbrev pub TellsOf : ℕ → SessionState → Pending → Pending → Type 0
TellsOf slot session before after =
    MatchOption (slice_get session.slots slot) (after ≡ before)
    (λ found. after ≡ pending_of (interrupt_words found) (output_of slot session))

-- and of a board that isn't there
abbrev pub Tells : ℕ → Held → Pending → Pending → Type 0
Tells slot board before after =
    MatchOption board (after ≡ before) (λ session. TellsOf slot session before after)
