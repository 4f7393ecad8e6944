-- The pieces of a device in which the count of its failures stayed are those of the exact device, as a window
-- shows them.
use Rattle.std.proofs.Common.{◌≡◌, ◌≢◌, ℕ, Option, Some}
use Rattle.guest_memory.specs.Memory.{Memory}
use Rattle.chain.specs.declared.budget.Budget.{Budget}
use Rattle.chain.specs.declared.budget.Progress.TheVariants.{More}
use Rattle.chain.specs.Service.{Device, Ending, Refused, IsExactUnless}
use Rattle.mmio_window.specs.declared.queue.Queue.{Queue}
use Rattle.mmio_window.specs.declared.stage.Stage.{Stage}
use Rattle.mmio_window.specs.declared.stage.Stage.TheVariants.{First, Next}
use Rattle.mmio_window.specs.Leaving.{site_at}
use Rattle.mmio_window.specs.Pieces.{CompletesAt, GoesOnIn, PausesIn, ServesTo}
use Rattle.mmio_window.specs.Window.{WindowState}
use Rattle.mmio_window.proofs.Stages.{completes_as, ends_exactly, pauses_as, pauses_exactly}

module _ {State : Type 0} (device exact : Device State) (count : State → ℕ)
    (is_exact : IsExactUnless device exact count) (budget : Budget) (q : ℕ) where
  module _ (queue : Queue) (old new : Memory) (before after : WindowState) (s s' : State)
      (stood : count s' ≡ count s) where
    pauses_as_exact : (stage : Stage)
        → ServesTo stage device budget q (Some queue) More old new before after s s'
        → ServesTo stage exact budget q (Some queue) More old new before after s s'
    pauses_as_exact stage =
        pauses_as device exact budget q old new before after s s' s s' stage queue
        (λ last. pauses_exactly device exact count is_exact budget (site_at old queue s) (site_at new last s')
        stood stage)

    pub pauses_in_exact : PausesIn device budget q queue old new before after s s'
        → PausesIn exact budget q queue old new before after s s'
    pauses_in_exact = pauses_as_exact First

    pub goes_on_in_exact : GoesOnIn device budget q queue old new before after s s'
        → GoesOnIn exact budget q queue old new before after s s'
    goes_on_in_exact = pauses_as_exact Next

  abbrev CompletesExactly : Stage → Type 0
  CompletesExactly stage =
      (queue : Option Queue) (ending : Ending) (old new : Memory) (before after : WindowState) (s s' : State)
      → ending ≢ Refused → count s' ≡ count s
      → CompletesAt stage device budget q queue ending old new before after s s'
      → CompletesAt stage exact budget q queue ending old new before after s s'

  completes_exactly : (stage : Stage) → CompletesExactly stage
  completes_exactly stage queue ending old new before after s s' answered stood =
      completes_as device exact budget q old new before after s s' s s' stage queue ending (λ same. same)
      (λ ring last wanted. ends_exactly device exact count is_exact budget (site_at old ring s)
      (site_at new last s') stood stage ending wanted answered)

  pub notified_within_exact : CompletesExactly First
  notified_within_exact = completes_exactly First

  pub finishes_within_exact : CompletesExactly Next
  finishes_within_exact = completes_exactly Next
