-- What holds in every world.
use Rattle.std.specs.Prelude.{◌≡◌, ℕ, Option}
use Rattle.chain.specs.declared.budget.Progress.{Progress}
use Rattle.chain.specs.declared.budget.Progress.TheVariants.{Done}
use Rattle.chain.specs.Service.{Device}
use Rattle.mmio_window.specs.declared.queue.Queue.{Queue}
use Rattle.mmio_window.specs.declared.stage.Stage.{Stage}
use Rattle.mmio_window.specs.Window.{WindowState}
use Rattle.racing_service.specs.declared.service.Limits.{Limits}
use Rattle.served_memory.specs.World.{World}

-- a window of the same device
pub record SameDevice (old new : WindowState) : Type 0 where
  pub kind : new.kind ≡ old.kind
  pub offered : new.negotiation.offered ≡ old.negotiation.offered

-- Nothing may happen. A service of either ending is done, and each leaves its device's window that.
pub record WorldLaws (world : World) : Type 1 where
  pub nothing : {State : Type 0} (m : world.Seen) (w : WindowState) (s : State) → world.NothingHappens m m w w s s
  pub serves_done : {State : Type 0} (device : Device State) (stage : Stage) (limits : Limits) (q : ℕ) (queue : Option Queue)
      (progress : Progress) (old new : world.Seen) (before after : WindowState) (s s' : State)
      → world.ServesTo device stage limits q queue progress old new before after s s'
      → world.DoneTo device stage limits q queue progress old new before after s s'
  pub refused_done : {State : Type 0} (device : Device State) (stage : Stage) (limits : Limits) (q : ℕ) (queue : Option Queue)
      (old new : world.Seen) (before after : WindowState) (s s' : State)
      → world.RefusedTo device stage limits q queue old new before after s s'
      → world.DoneTo device stage limits q queue Done old new before after s s'
  pub nothing_keeps : {State : Type 0} (old new : world.Seen) (before after : WindowState) (s s' : State)
      → world.NothingHappens old new before after s s' → SameDevice before after
  pub done_keeps : {State : Type 0} (device : Device State) (stage : Stage) (limits : Limits) (q : ℕ) (queue : Option Queue)
      (progress : Progress) (old new : world.Seen) (before after : WindowState) (s s' : State)
      → world.DoneTo device stage limits q queue progress old new before after s s' → SameDevice before after
