-- What comes of an event of a guest whose disk is of the image.
use Rattle.std.specs.Prelude.{ℕ, if◌then◌else◌, List, ◌++◌, length, take}
use Rattle.guest_memory.specs.Memory.{is_inside, part_of, stored}
use Rattle.mmio_window.specs.declared.action.Action.{Action}
use Rattle.board.specs.declared.event.SlotWindow.{SlotWindow}
use Rattle.board.specs.declared.event.SlotWindow.TheVariants.{Block, Console}
use Rattle.mmio_window.specs.Reading.{read_value}
use Rattle.mmio_window.specs.Window.{WindowState, with_config_changed}
use Rattle.mmio_window.specs.Writing.{action_of, written}
use Rattle.block_device.specs.Config as block
use Rattle.console_device.specs.Config as console
use Rattle.console_device.specs.Input.{fitting}
use Rattle.board.specs.declared.event.EventKind.{EventKind}
use Rattle.board.specs.declared.event.EventKind.TheVariants.{Read, Write, MemRead, MemWrite, Input, Resize, Restore, Host, Device}
use Rattle.board.specs.declared.reply.Reply.TheVariants.{Value, Bytes, BadRange, Took, Idle}
use Rattle.board.specs.Image.{Health}
use Rattle.board.specs.ImageDisks.{GivesAtDevice, device_readied, image_asked}
use Rattle.board.specs.Outcome.{Outcome, replies, does, IsDetermined}
use Rattle.board.specs.Restoring.{Restores}
use Rattle.board.specs.Slot.{SlotState, disk_sectors}
use Rattle.board.specs.Task.{Task, task_of, IsReceiveService, Finishes}

-- what comes of a read and of a write of memory
abbrev pub memory_read : {A : Type 0} → SlotState → ℕ → ℕ → Outcome A
memory_read state addr len =
    if is_inside state.memory addr len then replies state (Bytes (part_of state.memory addr len))
    else replies state BadRange

abbrev pub memory_written : {A : Type 0} → SlotState → ℕ → List ℕ → Outcome A
memory_written state addr bytes =
    if is_inside state.memory addr (length bytes)
    then does (record state { memory = stored state.memory addr bytes })
    else replies state BadRange

-- ---- registers

-- the window of each kind of device
abbrev pub window_of : SlotWindow → SlotState → WindowState
window_of Block state = state.block
window_of Console state = state.console

-- the configuration of each device
abbrev pub config_at : SlotWindow → SlotState → List ℕ
config_at Block state = block.config_of (disk_sectors state)
config_at Console state = console.config_of state.cols state.rows

-- what a read of a window gives
abbrev pub register : SlotState → SlotWindow → ℕ → ℕ → ℕ
register state window offset width =
    read_value offset width (config_at window state) (window_of window state)

-- the slot after a write to a window, before a device does its part
abbrev pub with_write : SlotWindow → ℕ → ℕ → ℕ → SlotState → SlotState
with_write Block offset width value state =
    record state { block = written offset width value state.memory state.block }
with_write Console offset width value state =
    record state { console = written offset width value state.memory state.console }

-- what the write leaves for the device to do
abbrev pub action_at : SlotWindow → ℕ → ℕ → ℕ → SlotState → Action
action_at window offset width value state = action_of offset width value (window_of window state)

-- what is left for the device to do
abbrev pub task_at : SlotWindow → ℕ → ℕ → ℕ → SlotState → Task
task_at window offset width value state = task_of window (action_at window offset width value state)

-- ---- the console

-- the slot with what is typed behind its pending input: the first bytes that fit
abbrev pub with_input : List ℕ → SlotState → SlotState
with_input bytes state =
    record state { pending = state.pending ++ take (fitting state.pending bytes) bytes }

-- the slot with another size of its console, whose driver is told of it where there is one (5.3.4)
abbrev pub resized : ℕ → ℕ → SlotState → SlotState
resized cols rows state =
    record state { console = with_config_changed state.console; cols = cols; rows = rows }

-- ---- events

-- the slot as the device finds it that the event asks for its part
abbrev pub readied : {A : Type 0} → EventKind A → SlotState → SlotState
readied (Write window offset width value) state = with_write window offset width value state
readied (Input bytes) state = with_input bytes state
readied (Device n what) state = device_readied n what state
readied what state = state

-- What comes of an event of a guest whose disk is of the image, where memory is found for it and no call of the
-- image fails; the image fares so before and after it. A write to a window writes its registers, and then the
-- device does its part. What is typed is pending, and then the console serves its receive queue. The host
-- has nothing to say. A further device does its part.
abbrev pub GivesOverImage : {A : Type 0} → SlotState → EventKind A → Health → Health → Outcome A → Type 0
GivesOverImage state (Read window offset width) before after outcome =
    IsDetermined outcome (replies state (Value (register state window offset width))) before after
GivesOverImage state (Write window offset width value) before after outcome =
    Finishes (task_at window offset width value state) (with_write window offset width value state)
    before after outcome
GivesOverImage state (MemRead addr len) before after outcome =
    IsDetermined outcome (memory_read state addr len) before after
GivesOverImage state (MemWrite addr bytes) before after outcome =
    IsDetermined outcome (memory_written state addr bytes) before after
GivesOverImage state (Input bytes) before after outcome =
    IsReceiveService (with_input bytes state) (Took (fitting state.pending bytes)) before after outcome
GivesOverImage state (Resize cols rows) before after outcome =
    IsDetermined outcome (does (resized cols rows state)) before after
GivesOverImage state (Restore bytes) before after outcome = Restores state bytes before after outcome
GivesOverImage state (Host said) before after outcome = IsDetermined outcome (replies state Idle) before after
GivesOverImage state (Device n what) before after outcome =
    GivesAtDevice (image_asked n what state) n what state before after outcome
