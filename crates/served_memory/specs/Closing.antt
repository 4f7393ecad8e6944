-- A queue is closed behind a chain that is left.
use Rattle.std.specs.Prelude.{◌≡◌, ℕ, Bool, ◌||◌, Option, Some, None}
use Rattle.chain.specs.Service.{Spent}
use Rattle.mmio_window.specs.declared.queue.Queue.{Queue}
use Rattle.mmio_window.specs.Queue.{queue_kind}
use Rattle.mmio_window.specs.Serving.{after_service}
use Rattle.mmio_window.specs.Window.{WindowState, with_ring}
use Rattle.shared_memory.specs.Sightings.{Sightings}
use Rattle.racing_window.specs.Queue.{racing_queue}

-- The window shows what is owed of the chains before: a used buffer, where the driver wanted to be told then or wants it now.
pub record ClosesQueue (races : Bool) (q : ℕ) (queue : Queue) (asked : Bool) (old new : Sightings) (before after : WindowState)
    : Type 0 where
  pub wanted : Bool
  pub closed : racing_queue.IsClosed races old new queue wanted
  pub window : after ≡ after_service Spent (asked || wanted) (with_ring q before (queue_kind.shut queue))

abbrev pub ClosesLeft : Bool → ℕ → Option Queue → Bool → Sightings → Sightings → WindowState → WindowState → Type 0
ClosesLeft races q None asked old new before after = ⊥
ClosesLeft races q (Some queue) asked old new before after = ClosesQueue races q queue asked old new before after
