-- A piece of a service of a queue, of any device.
use Rattle.std.proofs.Common.{◌≢◌, ◌⊎◌, inl, inr, ℕ, Option, None, Some, subst, sym}
use Rattle.guest_memory.specs.Memory.{Memory}
use Rattle.chain.specs.declared.budget.Budget.{Budget}
use Rattle.chain.specs.declared.budget.Progress.TheVariants.{More}
use Rattle.chain.specs.Service.{Device}
use Rattle.mmio_window.specs.declared.queue.Queue.{Queue}
use Rattle.mmio_window.specs.declared.stage.Stage.{Stage}
use Rattle.mmio_window.specs.declared.stage.Stage.TheVariants.{First, Next}
use Rattle.mmio_window.specs.Pieces.{IsNotifiedWithin, ServesTo}
use Rattle.mmio_window.specs.Serving.{IsNotified, NothingHappens}
use Rattle.mmio_window.specs.Window.{WindowState}
use Rattle.mmio_window.proofs.Devices.{KeepsDevice, KeepsDevice-self}
use Rattle.mmio_window.proofs.Pieces.{notified_once}
pub use Rattle.served_memory.specs.Fitting.{answers, piece_fits}

pub nothing_keeps : {State : Type 0} (m m' : Memory) (w w' : WindowState) (s s' : State)
    → NothingHappens m m' w w' s s' → KeepsDevice w w'
nothing_keeps m m' w w' s s' h = subst (KeepsDevice w) (sym h.window) (KeepsDevice-self w)

module _ {State : Type 0} (device : Device State) (budget : Budget) (q : ℕ) (m m' : Memory) (w w' : WindowState)
    (s s' : State) where
  -- a service in one piece is a service
  pub once : (queue : Option Queue) → IsNotifiedWithin device budget q queue m m' w w' s s'
      → IsNotified device q queue m m' w w' s s'
  once queue h = record {
    ending = h.ending;
    notified = notified_once device budget q queue h.ending m m' w w' s s' h.notified;
  }

  -- one that pauses has spent a limit
  pub spends_limit : (stage : Stage) (queue : Option Queue)
      → ServesTo stage device budget q queue More m m' w w' s s'
      → (budget.chains ≢ None) ⊎ (budget.bytes ≢ None)
  spends_limit First None h = absurd h
  spends_limit Next None h = absurd h
  spends_limit First (Some queue) h =
      elim h.begins.pauses.spent [ inl e ↦ inl (λ none. cc) | inr e ↦ inr (λ none. cc) ]
  spends_limit Next (Some queue) h = elim h.pauses.spent [ inl e ↦ inl (λ none. cc) | inr e ↦ inr (λ none. cc) ]
