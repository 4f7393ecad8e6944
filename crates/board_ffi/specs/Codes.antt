-- The number that stands for each answer.
use Rattle.std.specs.Prelude.{◌≡◌, ◌⊎◌, ℕ, ◌==◌, ◌||◌, nat_lt, Bool, List, [], ◌∷◌, if◌then◌else◌, Result, Ok, Err}
use Rattle.c_values.specs.Codes.{memory_code}
use Rattle.sector_cache.specs.declared.fault.CacheFault.TheVariants.{BadCapacity}
use Rattle.sector_cache.specs.declared.fault.CacheFault.TheVariants as cache
use Rattle.board.specs.declared.reply.Reply.{Reply}
use Rattle.board.specs.declared.reply.Reply.TheVariants as reply
use Rattle.session.specs.declared.response.Response.{Response}
use Rattle.session.specs.declared.response.Response.TheVariants as response
use Rattle.board.specs.declared.fault.BoardFault.{BoardFault}
use Rattle.board.specs.declared.fault.BoardFault.TheVariants as board
use Rattle.board.specs.declared.fault.SlotFault.{SlotFault}
use Rattle.board.specs.declared.fault.SlotFault.TheVariants as slot
use Rattle.board.specs.declared.saved.RestoreFault.{RestoreFault}
use Rattle.board.specs.declared.saved.RestoreFault.TheVariants.{Snapshot, OtherSlot, BadDevice, BadBlock, BadConsole, BadDeviceWindow, BadWaiting}
use Rattle.board.specs.declared.saved.RestoreRefusal.{RestoreRefusal}
use Rattle.board.specs.declared.saved.RestoreRefusal.TheVariants as restore
use Rattle.board.specs.declared.saved.SaveRefusal.{SaveRefusal}
use Rattle.board.specs.declared.saved.SaveRefusal.TheVariants as save
use Rattle.session.specs.declared.refusal.Refusal.{Refusal}
use Rattle.session.specs.declared.refusal.Refusal.TheVariants.{BadSlot, BadRange, BadDevice, NoRoom, Busy, Idle}
use Rattle.session.specs.declared.progress.Progress.{Progress}
use Rattle.session.specs.declared.progress.Progress.TheVariants.{Asks, Done, More}
use Rattle.session.specs.declared.handed.Handed.{Handed}
use Rattle.session.specs.declared.fault.SessionFault.{SessionFault}
use Rattle.session.specs.declared.fault.SessionFault.TheVariants as session

-- a call that was refused
abbrev pub refusal_code : Refusal → ℕ
refusal_code BadSlot = 3
refusal_code BadRange = 4
refusal_code BadDevice = 6
refusal_code NoRoom = 15
refusal_code Busy = 19
refusal_code Idle = 21

-- The board's response that a number stands for, where this one is what a call that is done is replied; what a disk is
-- then asked for is told aside. Where an outlet has no room the board has no memory for the output. A slot is busy where a
-- service of it is paused, and where the event waits for what is in flight. A device that isn't there, or takes no such
-- thing, is a window that isn't.
abbrev pub StandsFor : {A : Type 0} → ℕ → Reply A → Response A → Type 0
StandsFor code done told =
    ((code ≡ 0) × (told ≡ response.Answered done))
    ⊎ ((code ≡ 3) × (told ≡ response.Answered reply.BadSlot))
    ⊎ ((code ≡ 4) × (told ≡ response.Answered reply.BadRange))
    ⊎ ((code ≡ 6) × (told ≡ response.Answered reply.BadDevice))
    ⊎ ((code ≡ 15) × (told ≡ response.Answered reply.NoMemory))
    ⊎ ((code ≡ 18) × (told ≡ response.More))
    ⊎ ((code ≡ 19) × ((told ≡ response.Busy) ⊎ (told ≡ response.Answered reply.Busy)))
    ⊎ ((code ≡ 20) × (told ≡ response.Answered done))
    ⊎ ((code ≡ 21) × (told ≡ response.Answered reply.Idle))

-- the numbers that a call answers which comes to a board's response, but for 20
abbrev pub is_response : ℕ → Bool
is_response code =
    (code == 0) || (code == 3) || (code == 4) || (code == 6) || (code == 15) || (code == 18) || (code == 19) || (code == 21)

-- a call that is done, or was refused
abbrev pub code_by : {X : Type 0} → Result X Refusal → ℕ
code_by (Ok done) = 0
code_by (Err why) = refusal_code why

-- what is answered of a slot, if there is one of so many
abbrev pub code_at : ℕ → ℕ → ℕ → ℕ
code_at slot count code = if nat_lt slot count then code else 3

-- what is told of a call that is done, or whose service pauses: 20 where the disk is asked for something from now on
abbrev pub progress_code : Progress → ℕ
progress_code Done = 0
progress_code More = 18
progress_code Asks = 20

abbrev pub went_on_code : Result Progress Refusal → ℕ
went_on_code (Ok progress) = progress_code progress
went_on_code (Err why) = refusal_code why

-- and of one that hands bytes in
abbrev pub handed_code : Result Handed Refusal → ℕ
handed_code (Ok handed) = progress_code handed.progress
handed_code (Err why) = refusal_code why

-- an image of no bytes is none
abbrev pub image_code : List ℕ → ℕ
image_code [] = 22
image_code (byte ∷ bytes) = 0

-- a slot that isn't saved
abbrev pub save_refusal_code : SaveRefusal → ℕ
save_refusal_code save.BadSlot = 3
save_refusal_code save.Busy = 19
save_refusal_code save.ShortBuffer = 26

abbrev pub save_code : {X : Type 0} → Result X SaveRefusal → ℕ
save_code (Ok len) = 0
save_code (Err why) = save_refusal_code why

-- the numbers that a save answers
abbrev pub is_saving : ℕ → Bool
is_saving code = (code == 0) || (code == 3) || (code == 19) || (code == 26)

-- a snapshot that a slot doesn't take up: bytes that are none, one of another description, of other further devices, of
-- a window that can't be so, or of what can't wait in a further device
abbrev pub restore_fault_code : RestoreFault → ℕ
restore_fault_code (Snapshot fault) = 23
restore_fault_code OtherSlot = 24
restore_fault_code BadDevice = 31
restore_fault_code BadBlock = 25
restore_fault_code BadConsole = 25
restore_fault_code BadDeviceWindow = 25
restore_fault_code BadWaiting = 36

-- a slot that isn't restored
abbrev pub restore_refusal_code : RestoreRefusal → ℕ
restore_refusal_code restore.BadSlot = 3
restore_refusal_code restore.Busy = 19
restore_refusal_code (restore.Fault why) = restore_fault_code why

abbrev pub restore_code : Result (Unit {0}) RestoreRefusal → ℕ
restore_code (Ok done) = 0
restore_code (Err why) = restore_refusal_code why

-- a slot that was refused
abbrev pub slot_fault_code : SlotFault → ℕ
slot_fault_code (slot.Memory region why) = memory_code why
slot_fault_code slot.ExtentOutside = 12
slot_fault_code slot.ExtentsOverlap = 13
slot_fault_code slot.BadDepth = 30

-- a board that was refused
abbrev pub board_code : BoardFault → ℕ
board_code board.NoSlots = 8
board_code board.TooManySlots = 9
board_code (board.Slot number why) = slot_fault_code why
board_code (board.Cache BadCapacity) = 14
board_code (board.Cache cache.NoMemory) = 5
board_code board.NoMemory = 5

-- a session that was refused
abbrev pub fault_code : SessionFault → ℕ
fault_code session.BadLoan = 29
fault_code session.BadImage = 7
fault_code session.BadOutlet = 16
fault_code session.BadDevice = 32
fault_code session.BadExtent = 35
-- no budget that C describes is spent
fault_code session.SpentBudget = 0
fault_code (session.Board why) = board_code why
fault_code session.NoMemory = 5
