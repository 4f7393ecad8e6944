-- A piece of a service of a queue, of any device: one that leaves no chain on offer serves as one that may leave some.
use Rattle.std.proofs.Common.{◌≢◌, ℕ, arith, Option, None, Some, refl}
use Rattle.guest_memory.specs.Memory.{Memory}
use Rattle.chain.specs.declared.budget.Budget.{Budget}
use Rattle.chain.specs.declared.budget.Progress.{Progress}
use Rattle.chain.specs.declared.budget.Progress.TheVariants.{Done, More}
use Rattle.chain.specs.Service.{Device, Ending, Spent, Faulted, IsExactUnless, Refused}
use Rattle.mmio_window.specs.declared.queue.Queue.{Queue}
use Rattle.mmio_window.specs.declared.stage.Stage.{Stage}
use Rattle.mmio_window.specs.declared.stage.Stage.TheVariants.{First, Next}
use Rattle.mmio_window.specs.Pieces.{CompletesAt, IsRefusedAt, ServesTo, fitting}
use Rattle.mmio_window.specs.Serving.{site_at}
use Rattle.mmio_window.specs.Window.{WindowState}
use Rattle.mmio_window.proofs.Pieces.{notified_once}
use Rattle.mmio_window.proofs.Services.{notified_not_refused}
use Rattle.mmio_window.proofs.Stages.{completes_as, ends_exactly, pauses_as, pauses_exactly}

-- a piece that ends and leaves no chain on offer
pub record Answered {State : Type 0} (stage : Stage) (device : Device State) (budget : Budget) (q : ℕ)
    (queue : Option Queue) (m m' : Memory) (w w' : WindowState) (s s' : State) : Type 0 where
  pub ending : Ending
  pub answered : ending ≢ Refused
  pub completes : CompletesAt stage device budget q queue ending m m' w w' s s'

module _ {State : Type 0} (device : Device State) (budget : Budget) (q : ℕ) (m m' : Memory) (w w' : WindowState)
    (s s' : State) where
  is_exact : IsExactUnless (fitting device) device (λ s. 0)
  is_exact = record {
    takes = λ s. refl;
    rises = λ s readable w g h. omega arith;
    gives = λ s readable w g h e. h;
  }

  never_refused : (stage : Stage) (queue : Option Queue) (ending : Ending)
      → CompletesAt stage (fitting device) budget q queue ending m m' w w' s s' → ending ≢ Refused
  never_refused First queue ending h e =
      notified_not_refused (fitting device) (λ s readable w lacks. lacks) q queue ending m m' w w' s s'
      (notified_once (fitting device) budget q queue ending m m' w w' s s' h) e
  never_refused Next None ending h e = let spent = h.0 in cc
  never_refused Next (Some queue) Refused h e = h.ends.ends.runs.ends.lacks_memory
  never_refused Next (Some queue) Spent h e = cc
  never_refused Next (Some queue) (Faulted fault) h e = cc

  -- the end of a piece of the one is one of the other
  answered : (stage : Stage) (queue : Option Queue) (ending : Ending)
      → CompletesAt stage (fitting device) budget q queue ending m m' w w' s s'
      → Answered stage device budget q queue m m' w w' s s'
  answered stage queue ending h =
      let never = never_refused stage queue ending h in
      record {
        ending = ending;
        answered = never;
        completes = completes_as (fitting device) device budget q m m' w w' s s' s s' stage queue ending (λ e. e)
            (λ queue last wanted ends. ends_exactly (fitting device) device (λ s. 0) is_exact budget
            (site_at m queue s) (site_at m' last s') refl stage ending wanted never ends) h;
      }

  pub answers : (stage : Stage) (queue : Option Queue)
      → ServesTo stage (fitting device) budget q queue Done m m' w w' s s'
      → Answered stage device budget q queue m m' w w' s s'
  answers First queue h = answered First queue h.ending h.notified
  answers Next queue h = answered Next queue h.ending h.finished

  -- and so is every piece
  pub piece_fits : (stage : Stage) (queue : Option Queue) (progress : Progress)
      → ServesTo stage (fitting device) budget q queue progress m m' w w' s s'
      → ServesTo stage device budget q queue progress m m' w w' s s'
  piece_fits First queue Done h =
      let a = answers First queue h in record { ending = a.ending; notified = a.completes }
  piece_fits Next queue Done h =
      let a = answers Next queue h in record { ending = a.ending; finished = a.completes }
  piece_fits First None More h = absurd h
  piece_fits Next None More h = absurd h
  piece_fits stage (Some queue) More h =
      pauses_as (fitting device) device budget q m m' w w' s s' s s' stage queue
      (λ last pauses. pauses_exactly (fitting device) device (λ s. 0) is_exact budget (site_at m queue s)
      (site_at m' last s') refl stage pauses) h

  -- a piece that leaves a chain on offer is one that ends
  pub ends_refused : (stage : Stage) (queue : Option Queue) → IsRefusedAt stage device budget q queue m m' w w' s s'
      → ServesTo stage device budget q queue Done m m' w w' s s'
  ends_refused First queue h = record { ending = Refused; notified = h }
  ends_refused Next queue h = record { ending = Refused; finished = h }
