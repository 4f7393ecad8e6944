-- What a slot's devices have to do once a window was written, and what comes of it.
use Rattle.std.specs.Prelude.{◌≡◌, ℕ, zero, suc, ◌%◌, ◌^◌, ◌==◌, if◌then◌else◌, [], ◌∷◌}
use Rattle.chain.specs.Service.{Device}
use Rattle.mmio_window.specs.declared.action.Action.{Action}
use Rattle.mmio_window.specs.declared.action.Action.TheVariants.{Notify, ConfigWrite}
use Rattle.board.specs.declared.event.SlotWindow.{SlotWindow}
use Rattle.board.specs.declared.event.SlotWindow.TheVariants.{Block, Console}
use Rattle.mmio_window.specs.Serving.{IsNotified}
use Rattle.mmio_window.specs.Window.{queue_at}
use Rattle.sector_cache.specs.Disk.{Disk}
use Rattle.block_device.specs.declared.device.BlockDevice.{BlockDevice}
use Rattle.block_device.specs.Device.{exact_device}
use Rattle.console_device.specs.Config.{emergency_write}
use Rattle.console_device.specs.Device.{receive, exact_transmit}
use Rattle.board.specs.declared.reply.Reply.{Reply}
use Rattle.board.specs.declared.reply.Reply.TheVariants.{Done}
use Rattle.board.specs.declared.pause.Service.TheVariants as service
pub use Rattle.board.specs.declared.task.Task.{Task}
pub use Rattle.board.specs.declared.task.Task.TheVariants.{Nothing, Serve, PutOut}
use Rattle.board.specs.Image.{Health, sectors_of, disk_with}
use Rattle.board.specs.Outcome.{Outcome, replies, does, IsDetermined}
use Rattle.board.specs.Slot.{SlotState}

-- what a write to a window of this kind leaves to be done
abbrev pub task_of : SlotWindow → Action → Task
task_of Block (Notify zero) = Serve service.Block
task_of Console (Notify zero) = Serve service.Receive
task_of Console (Notify (suc zero)) = Serve service.Transmit
task_of Console (ConfigWrite offset width value) =
    if offset == emergency_write then PutOut (value % 2 ^ 8) else Nothing
task_of _ _ = Nothing

-- The block device as its guest knows it: its sectors are all that there are.
abbrev pub device_of : SlotState → BlockDevice
device_of state = record {
  extent = record { start = 0; count = sectors_of state.extent };
  read_only = state.read_only;
  identity = state.identity;
}

-- A block device serves its queue (5.2.6), over an image that holds the guest's sectors and nothing
-- else: its window, memory and those sectors may change, and the rest of the slot stays.
pub record IsBlockService {A : Type 0} (device : Device Disk) (old : SlotState) (before after : Health)
    (outcome : Outcome A) : Type 0 where
  pub notified :
      IsNotified device 0 (queue_at 0 old.block) old.memory outcome.state.memory
      old.block outcome.state.block
      (disk_with old.extent before) (disk_with outcome.state.extent after)
  pub is :
      outcome
      ≡ does (record old {
        memory = outcome.state.memory;
        extent = outcome.state.extent;
        block = outcome.state.block;
      })

-- The console serves one of its queues, as its notification says: this comes of it, and the image has no part
-- in it.
pub record IsConsoleService {A : Type 0} (Served : Type 0) (outcome wanted : Outcome A)
    (before after : Health) : Type 0 where
  pub notified : Served
  pub is : outcome ≡ wanted
  pub image : after ≡ before

-- The console fills the chains of its receive queue from pending input (5.3.6): its window, the memory
-- and pending input may change, and the rest of the slot stays.
abbrev pub IsReceiveService : {A : Type 0} → SlotState → Reply A → Health → Health → Outcome A → Type 0
IsReceiveService old reply before after outcome =
    IsConsoleService (IsNotified receive 0 (queue_at 0 old.console) old.memory outcome.state.memory
    old.console outcome.state.console old.pending outcome.state.pending) outcome
    (replies (record old {
      memory = outcome.state.memory;
      console = outcome.state.console;
      pending = outcome.state.pending;
    }) reply) before after

-- what comes of a service of the transmit queue: the console's window and the memory may change, and the rest
-- of the slot stays
abbrev pub transmits : {A : Type 0} → SlotState → Outcome A → Reply A → Outcome A
transmits old outcome reply = record {
  state = record old { memory = outcome.state.memory; console = outcome.state.console };
  reply = reply;
  output = outcome.output;
}

-- The console puts out the chains of its transmit queue (5.3.6).
abbrev pub IsTransmitService : {A : Type 0} → SlotState → Health → Health → Outcome A → Type 0
IsTransmitService old before after outcome =
    IsConsoleService (IsNotified exact_transmit 1 (queue_at 1 old.console) old.memory outcome.state.memory
    old.console outcome.state.console [] outcome.output) outcome (transmits old outcome Done) before after

-- a byte is put out, and nothing else happens
abbrev pub puts_out : {A : Type 0} → ℕ → SlotState → Outcome A
puts_out byte state = record { state = state; reply = Done; output = byte ∷ [] }

-- What comes of a task where memory is found and no call of the image fails. No write of the slot's own two windows leaves a
-- further device's service to be done.
abbrev pub Finishes : {A : Type 0} → Task → SlotState → Health → Health → Outcome A → Type 0
Finishes Nothing state before after outcome = IsDetermined outcome (does state) before after
Finishes (Serve service.Block) state before after outcome =
    IsBlockService (exact_device (device_of state)) state before after outcome
Finishes (Serve service.Receive) state before after outcome = IsReceiveService state Done before after outcome
Finishes (Serve service.Transmit) state before after outcome = IsTransmitService state before after outcome
Finishes (Serve (service.Further n q)) state before after outcome = ⊥
Finishes (PutOut byte) state before after outcome = IsDetermined outcome (puts_out byte state) before after
