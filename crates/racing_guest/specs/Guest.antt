-- A guest whose CPUs run on: a block device and a console, each with its window. What becomes of both at each call, whatever the
-- guest writes meanwhile.
use Rattle.std.specs.Prelude.{◌≡◌, ℕ, Bool, false, List, Option}
use Rattle.guest_memory.specs.Memory.{Memory}
use Rattle.chain.specs.declared.budget.Progress.{Progress}
use Rattle.mmio_window.specs.Window.{WindowState, queue_at}
use Rattle.mmio_window.specs.Writing.{action_of}
use Rattle.shared_memory.specs.Sightings.{Sightings, memory}
use Rattle.block_device.specs.declared.operation.HostEvent.{HostEvent}
use Rattle.racing_service.specs.declared.service.Limits.{Limits}
use Rattle.racing_hosted_disk.specs.declared.look.LookLimits.{LookLimits}
use Rattle.racing_guest.specs.declared.reply.GuestQueue.{GuestQueue}
use Rattle.racing_guest.specs.declared.reply.GuestQueue.TheVariants as queue
use Rattle.racing_guest.specs.declared.reply.GuestWindow.{GuestWindow}
use Rattle.racing_guest.specs.declared.reply.GuestWindow.TheVariants as window
use Rattle.racing_guest.specs.declared.reply.Reply.{Reply}
use Rattle.racing_guest.specs.declared.spec.GuestSpec.{GuestSpec}
use Rattle.racing_guest.specs.Block.{IsSoundBlock, IsToldBy, IsWrittenBy, NotifiesBlock, RacingBlock, block_register, fresh_block, must_wait}
use Rattle.racing_guest.specs.Console.{IsActedOn, IsRefused, IsSoundConsole, RacingConsole, Receives, Transmits, console_register, fresh_console, with_console_written, with_typed}
use Rattle.racing_guest.specs.Reply.{AnswersBy}

pub record RacingGuest : Type 0 where
  pub block : RacingBlock
  pub console : RacingConsole

-- both devices as after a reset
abbrev pub fresh_guest : GuestSpec → RacingGuest
fresh_guest spec = record {
  block = fresh_block spec.sectors spec.read_only spec.identity spec.depth;
  console = fresh_console spec.cols spec.rows;
}

-- What holds between two calls: both windows are sound for the memory, and nothing that the host is told lies outside the
-- guest's memory or its disk.
pub record IsSoundGuest (m : Memory) (guest : RacingGuest) : Type 0 where
  pub block : IsSoundBlock m guest.block
  pub console : IsSoundConsole m guest.console

abbrev pub window_of : GuestWindow → RacingGuest → WindowState
window_of window.Block guest = guest.block.window
window_of window.Console guest = guest.console.window

-- what a read of a window gives (4.2.2)
abbrev pub register : GuestWindow → ℕ → ℕ → RacingGuest → ℕ
register window.Block offset width guest = block_register offset width guest.block
register window.Console offset width guest = console_register offset width guest.console

-- how much one service of the console may do
abbrev pub service_limits : LookLimits → Limits
service_limits limits = record { budget = limits.budget; rounds = limits.rounds }

-- whether a write at this offset of a window waits for what is in flight: only the block device has such writes
abbrev pub write_waits : GuestWindow → ℕ → RacingGuest → Bool
write_waits window.Block offset guest = must_wait offset guest.block
write_waits window.Console offset guest = false

-- A write to a window is its device's. The other device has no part in it.
abbrev pub WritesGuest : GuestWindow → ℕ → ℕ → ℕ → Bool → LookLimits → Option ℕ → Sightings → Sightings → RacingGuest
    → RacingGuest → List ℕ → List ℕ → Reply → Type 0
WritesGuest window.Block offset width value races limits limit old new before after out out' reply =
    IsWrittenBy reply offset width value races limits old new before.block after.block
    × ((after.console ≡ before.console) × (out' ≡ out))
WritesGuest window.Console offset width value races limits limit old new before after out out' reply =
    IsActedOn races (service_limits limits) limit old new
    (with_console_written offset width value (memory old) before.console) after.console out out' reply
    (action_of offset width value before.console.window)
    × (after.block ≡ before.block)

-- ---- what comes from outside

-- What is typed becomes pending, as much of it as fits, and the console serves its receive queue.
pub record TakesInput (bytes : List ℕ) (races : Bool) (limits : LookLimits) (old new : Sightings) (before after : RacingGuest)
    (progress : Progress) : Type 0 where
  pub receives : Receives races (service_limits limits) old new (with_typed bytes before.console) after.console progress
  pub rest : after.block ≡ before.block

-- The host says something of the disk.
pub record IsTold (said : HostEvent) (races : Bool) (limits : LookLimits) (old new : Sightings) (before after : RacingGuest)
    (progress : Progress) : Type 0 where
  pub told : IsToldBy said races limits (queue_at 0 before.block.window) old new before.block after.block progress
  pub rest : after.console ≡ before.console

-- A queue is served once more.
module _ (races : Bool) (limits : LookLimits) (limit : Option ℕ) (old new : Sightings) (before after : RacingGuest)
    (out out' : List ℕ) where
  abbrev pub ServesAgain : GuestQueue → Progress → Type 0
  ServesAgain queue.Block progress =
      NotifiesBlock races limits (queue_at 0 before.block.window) old new before.block after.block progress
      × ((after.console ≡ before.console) × (out' ≡ out))
  ServesAgain queue.Receive progress =
      Receives races (service_limits limits) old new before.console after.console progress
      × ((after.block ≡ before.block) × (out' ≡ out))
  ServesAgain queue.Transmit progress =
      Transmits races (service_limits limits) old new before.console after.console progress limit out out'
      × (after.block ≡ before.block)

  -- where the output has no room
  abbrev pub FindsNone : GuestQueue → Type 0
  FindsNone queue.Transmit = IsRefused races (service_limits limits) limit old new before.console after.console out out'
      × (after.block ≡ before.block)
  FindsNone queue = ⊥

  abbrev pub IsServedAgain : GuestQueue → Reply → Type 0
  IsServedAgain queue reply = AnswersBy reply queue (ServesAgain queue) (FindsNone queue)
