-- The console of a guest whose CPUs run on (5.3): its window, what is typed to it, and its size. What becomes of them and of
-- its output at each call, whatever the guest writes meanwhile.
use Rattle.std.specs.Prelude.{◌≡◌, ℕ, zero, suc, ◌+◌, ◌%◌, ◌^◌, ◌==◌, ◌||◌, ◌++◌, Bool, true, false, Option, Some, None, List, [], ◌∷◌, length, take}
use Rattle.guest_memory.specs.Memory.{Memory}
use Rattle.chain.specs.declared.budget.Budget.{Budget}
use Rattle.chain.specs.declared.budget.Progress.{Progress}
use Rattle.chain.specs.declared.budget.Progress.TheVariants.{Done}
use Rattle.chain.specs.declared.segment.Buffer.{Buffer}
use Rattle.chain.specs.Service.{Entry, Spent}
use Rattle.mmio_window.specs.declared.action.Action.{Action}
use Rattle.mmio_window.specs.declared.action.Action.TheVariants as action
use Rattle.mmio_window.specs.declared.device_kind.DeviceKind.TheVariants.{Console}
use Rattle.mmio_window.specs.declared.queue.Queue.{Queue}
use Rattle.mmio_window.specs.Queue.{queue_kind}
use Rattle.mmio_window.specs.Reading.{read_value}
use Rattle.mmio_window.specs.Serving.{after_service}
use Rattle.mmio_window.specs.Soundness.{IsSound}
use Rattle.mmio_window.specs.Window.{WindowState, fresh_window, queue_at, with_config_changed, with_ring}
use Rattle.mmio_window.specs.Writing.{written}
use Rattle.shared_memory.specs.Sightings.{Sightings}
use Rattle.console_device.specs.declared.no_memory.NoMemory.{NoMemory}
use Rattle.console_device.specs.Config.{config_of, console_features, emergency_write}
use Rattle.console_device.specs.Console as console_device
use Rattle.console_device.specs.Device.{Fits, MayRefuse, receive, transmit_within}
use Rattle.console_device.specs.Input.{fitting}
use Rattle.racing_service.specs.declared.stage.Stage.TheVariants.{First}
use Rattle.racing_service.specs.declared.service.Limits.{Limits}
use Rattle.racing_service.specs.Service.{IsRefusedService, standing_at}
use Rattle.console_device.specs.Output.{NoRoom}
use Rattle.racing_window.specs.Queue.{racing_queue}
use Rattle.racing_window.specs.Serving.{Notified}
use Rattle.racing_guest.specs.declared.reply.GuestQueue.{GuestQueue}
use Rattle.racing_guest.specs.declared.reply.GuestQueue.TheVariants as queues
use Rattle.racing_guest.specs.declared.reply.Reply.{Reply}
use Rattle.racing_guest.specs.Reply.{AnswersBy, NothingHappens}

pub record RacingConsole : Type 0 where
  pub window : WindowState
  pub device : console_device.Console

-- one of this size, as after a reset, to which nothing was typed
abbrev pub fresh_console : ℕ → ℕ → RacingConsole
fresh_console cols rows = record {
  window = fresh_window Console console_features 0;
  device = record { pending = []; cols = cols; rows = rows };
}

-- what a read of its window gives (4.2.2)
abbrev pub console_register : ℕ → ℕ → RacingConsole → ℕ
console_register offset width console =
    read_value offset width (config_of console.device.cols console.device.rows) console.window

-- what holds between two calls: its window is sound for the memory
abbrev pub IsSoundConsole : Memory → RacingConsole → Type 0
IsSoundConsole m console = IsSound m console.window

module _ (races : Bool) (limits : Limits) (old new : Sightings) (before after : RacingConsole) (progress : Progress) where
  -- The receive queue is served (5.3.6.1), where the window is live and the queue ready: its chains are filled from pending
  -- input.
  pub record Receives : Type 0 where
    pub notified : Notified receive races limits.rounds 0 limits.budget (queue_at 0 before.window) progress old new
        before.window after.window before.device.pending after.device.pending
    pub rest : after.device ≡ record before.device { pending = after.device.pending }

  -- The transmit queue is served over an output with this limit, and these bytes in it.
  pub record Transmits (limit : Option ℕ) (out out' : List ℕ) : Type 0 where
    pub notified : Notified (transmit_within limit) races limits.rounds 1 limits.budget (queue_at 1 before.window) progress
        old new before.window after.window out out'
    pub rest : after.device ≡ before.device

-- The transmit queue of a window is closed behind a chain that is left, and the window shows what is owed of the chains before
-- it: a used buffer, where the driver wanted to be told of one then or wants to be now.
pub record ClosesQueue (races : Bool) (queue : Queue) (asked : Bool) (old new : Sightings) (before after : WindowState) : Type 0 where
  pub wanted : Bool
  pub closed : racing_queue.IsClosed races old new queue wanted
  pub window : after ≡ after_service Spent (asked || wanted) (with_ring 1 before (queue_kind.shut queue))

abbrev pub ClosesLeft : Bool → Option Queue → Bool → Sightings → Sightings → WindowState → WindowState → Type 0
ClosesLeft races None asked old new before after = ⊥
ClosesLeft races (Some queue) asked old new before after = ClosesQueue races queue asked old new before after

-- The transmit queue is served up to a chain for whose bytes an output with this limit has no room. The chain stays on offer,
-- and the queue is closed behind the chains before it.
pub record LacksRoom (races : Bool) (limits : Limits) (limit : Option ℕ) (queue : Queue) (old new : Sightings)
    (before after : WindowState) (out out' : List ℕ) : Type 0 where
  pub stopped : Sightings
  pub last : Queue
  pub left : Budget
  pub buffers : List Buffer
  pub entry : Entry
  pub why : NoMemory
  pub asked : Bool
  pub service : IsRefusedService racing_queue (transmit_within limit) races (NoRoom limit) First limits.rounds
      (standing_at old queue out limits.budget) (standing_at stopped last out' left) buffers entry why asked
  pub closes : ClosesQueue races last asked stopped new (with_ring 1 before last) after

-- that needs a queue which the device may serve
abbrev pub TransmitsUpTo : Bool → Limits → Option ℕ → Option Queue → Sightings → Sightings → WindowState → WindowState
    → List ℕ → List ℕ → Type 0
TransmitsUpTo races limits limit None old new before after out out' = ⊥
TransmitsUpTo races limits limit (Some queue) old new before after out out' =
    LacksRoom races limits limit queue old new before after out out'

-- and what stands behind the window stays
pub record IsRefused (races : Bool) (limits : Limits) (limit : Option ℕ) (old new : Sightings) (before after : RacingConsole)
    (out out' : List ℕ) : Type 0 where
  pub transmits : TransmitsUpTo races limits limit (queue_at 1 before.window) old new before.window after.window out out'
  pub rest : after.device ≡ before.device

-- ---- a write to the window

-- Nothing happens but that a byte goes out, or not even that.
abbrev pub PutsOutIf : Bool → ℕ → Option ℕ → List ℕ → List ℕ → Type 0
PutsOutIf true byte limit out out' = (out' ≡ out ++ byte ∷ []) × Fits limit (length out + 1)
PutsOutIf false byte limit out out' = out' ≡ out

module _ (races : Bool) (limits : Limits) (limit : Option ℕ) (old new : Sightings) (before after : RacingConsole)
    (out out' : List ℕ) where
  -- What a write leaves to be done, where the output has room: a notification of either queue (5.3.6), or the byte of an
  -- emergency write, of whatever width (5.3.4).
  abbrev pub ActsOnConsole : Action → Progress → Type 0
  ActsOnConsole (action.Notify zero) progress = Receives races limits old new before after progress × (out' ≡ out)
  ActsOnConsole (action.Notify (suc zero)) progress =
      Transmits races limits old new before after progress limit out out'
  ActsOnConsole (action.ConfigWrite offset width value) progress =
      NothingHappens old new before after progress
      × PutsOutIf (offset == emergency_write) (value % 2 ^ 8) limit out out'
  ActsOnConsole action progress = NothingHappens old new before after progress × (out' ≡ out)

  -- and where it has none
  abbrev pub FindsNoRoom : Action → Type 0
  FindsNoRoom (action.Notify (suc zero)) = IsRefused races limits limit old new before after out out'
  FindsNoRoom (action.ConfigWrite offset width value) = (offset ≡ emergency_write)
      × (NothingHappens old new before after Done × ((out' ≡ out) × MayRefuse limit (length out + 1)))
  FindsNoRoom action = ⊥

-- the registers are written
abbrev pub with_console_written : ℕ → ℕ → ℕ → Memory → RacingConsole → RacingConsole
with_console_written offset width value m console =
    record console { window = written offset width value m console.window }

-- the queue that a write notified, where it did
abbrev pub notified_by : Action → GuestQueue
notified_by (action.Notify zero) = queues.Receive
notified_by action = queues.Transmit

-- what a write comes to, by what is answered
abbrev pub IsActedOn : Bool → Limits → Option ℕ → Sightings → Sightings → RacingConsole → RacingConsole → List ℕ → List ℕ
    → Reply → Action → Type 0
IsActedOn races limits limit old new before after out out' reply what =
    AnswersBy reply (notified_by what) (ActsOnConsole races limits limit old new before after out out' what)
    (FindsNoRoom races limits limit old new before after out out' what)

-- ---- what comes from outside

-- what is typed: the first bytes that fit become pending
abbrev pub with_typed : List ℕ → RacingConsole → RacingConsole
with_typed bytes console = record console {
  device = record console.device {
    pending = console.device.pending ++ take (fitting console.device.pending bytes) bytes;
  };
}

-- another size, of which the driver is told where there is one
abbrev pub with_size : ℕ → ℕ → RacingConsole → RacingConsole
with_size cols rows console = record console {
  window = with_config_changed console.window;
  device = record console.device { cols = cols; rows = rows };
}
