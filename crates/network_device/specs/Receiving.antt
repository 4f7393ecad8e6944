-- A piece of a service of the receive queue.
use Rattle.std.specs.Prelude.{◌≡◌, ◌⊎◌, Option}
use Rattle.guest_memory.specs.Memory.{Memory}
use Rattle.chain.specs.declared.budget.Budget.{Budget}
use Rattle.chain.specs.declared.budget.Progress.{Progress}
use Rattle.chain.specs.declared.budget.Progress.TheVariants.{Done}
use Rattle.mmio_window.specs.declared.queue.Queue.{Queue}
use Rattle.mmio_window.specs.declared.stage.Stage.{Stage}
use Rattle.mmio_window.specs.Window.{WindowState}
use Rattle.racing_service.specs.declared.service.Limits.{Limits}
use Rattle.served_memory.specs.World.{World, one_round, standing}
use Rattle.network_device.specs.Device.{Passing, emptied, receive}

-- The piece ends at a chain that none of the waiting frames fits: they are dropped, and it stays on offer.
pub record DropsAll (world : World) (stage : Stage) (limits : Limits) (queue : Option Queue) (old new : world.Seen)
    (before after : WindowState) (waiting left : Passing) : Type 0 where
  pub last : Passing
  pub refused : world.RefusedTo receive stage limits 0 queue old new before after waiting last
  pub dropped : left ≡ emptied last

-- each chain gets a frame that fits, up to such an end if there is one
abbrev pub ReceivesIn : (world : World) → Stage → Limits → Option Queue → Progress → world.Seen → world.Seen → WindowState
    → WindowState → Passing → Passing → Type 0
ReceivesIn world stage limits queue progress old new before after waiting left =
    world.ServesTo receive stage limits 0 queue progress old new before after waiting left
    ⊎ ((progress ≡ Done) × DropsAll world stage limits queue old new before after waiting left)

-- and of a guest that stands still
abbrev pub ReceivesTo : Stage → Budget → Option Queue → Progress → Memory → Memory → WindowState
    → WindowState → Passing → Passing → Type 0
ReceivesTo stage budget = ReceivesIn standing stage (one_round budget)
