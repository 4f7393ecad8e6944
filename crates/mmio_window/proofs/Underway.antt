-- A service of a window's queue that is under way: its pieces so far are one part of the service, for any device.
use Rattle.std.proofs.Common.{◌≡◌, ℕ, Option, Some, None, refl, sym, ap, subst, ◌∙◌}
use Rattle.guest_memory.specs.Memory.{Memory}
use Rattle.chain.specs.declared.budget.Budget.{Budget}
use Rattle.chain.specs.declared.budget.Progress.TheVariants.{Done, More}
use Rattle.chain.specs.Service.{Device, Ending}
use Rattle.mmio_window.specs.declared.queue.Queue.{Queue}
use Rattle.mmio_window.specs.Pieces.{BeginsTo, FinishesWithin, GoesOnTo, IsPaused}
use Rattle.mmio_window.specs.Serving.{IsNotified, Notified}
use Rattle.mmio_window.specs.Window.{WindowState, queue_at}
use Rattle.mmio_window.proofs.Pieces.{pauses_first, pauses_again, paused_to_end, queue_stands_open}

module _ {State : Type 0} (device : Device State) (q : ℕ) where
  -- It is served in pieces, and stands open.
  pub record OnItsWay (old new : Memory) (before after : WindowState) (s s' : State) : Type 0 where
    pub queue : Queue
    pub there : queue_at q before ≡ Some queue
    pub paused : IsPaused device q queue old new before after s s'

  first_at : (budget : Budget) (found : Option Queue) (m0 m1 : Memory) (w0 w1 : WindowState) (s0 s1 : State)
      → queue_at q w0 ≡ found → BeginsTo device budget q found More m0 m1 w0 w1 s0 s1
      → OnItsWay m0 m1 w0 w1 s0 s1
  first_at budget None m0 m1 w0 w1 s0 s1 is h = absurd h
  first_at budget (Some queue) m0 m1 w0 w1 s0 s1 is h =
      record { queue = queue; there = is; paused = pauses_first device budget q queue m0 m1 w0 w1 s0 s1 h }

  pub first : (budget : Budget) {m0 m1 : Memory} {w0 w1 : WindowState} {s0 s1 : State}
      → BeginsTo device budget q (queue_at q w0) More m0 m1 w0 w1 s0 s1 → OnItsWay m0 m1 w0 w1 s0 s1
  first budget {m0} {m1} {w0} {w1} {s0} {s1} h = first_at budget (queue_at q w0) m0 m1 w0 w1 s0 s1 refl h

  -- the queue that goes on is the one that stands open
  open_now : (m0 m1 : Memory) (w0 w1 : WindowState) (s0 s1 : State) → (way : OnItsWay m0 m1 w0 w1 s0 s1)
      → queue_at q w1 ≡ Some way.paused.last
  open_now m0 m1 w0 w1 s0 s1 way = ap (λ w. queue_at q w) way.paused.window
      ∙ queue_stands_open q w0 way.queue way.paused.last way.there

  pub again : (budget : Budget) {m0 m1 m2 : Memory} {w0 w1 w2 : WindowState} {s0 s1 s2 : State}
      → OnItsWay m0 m1 w0 w1 s0 s1 → GoesOnTo device budget q (queue_at q w1) More m1 m2 w1 w2 s1 s2
      → OnItsWay m0 m2 w0 w2 s0 s2
  again budget {m0} {m1} {m2} {w0} {w1} {w2} {s0} {s1} {s2} way h = record {
    queue = way.queue;
    there = way.there;
    paused =
        pauses_again device budget q way.queue m0 m1 m2 w0 w1 w2 s0 s1 s2 way.paused
        (subst (λ (f : Option Queue). GoesOnTo device budget q f More m1 m2 w1 w2 s1 s2)
        (open_now m0 m1 w0 w1 s0 s1 way) h);
  }

  -- At its end it is one service, which ends so.
  pub ended_so : (budget : Budget) (ending : Ending) (m0 m1 m2 : Memory) (w0 w1 w2 : WindowState) (s0 s1 s2 : State)
      → OnItsWay m0 m1 w0 w1 s0 s1
      → FinishesWithin device budget q (queue_at q w1) ending m1 m2 w1 w2 s1 s2
      → Notified device q (queue_at q w0) ending m0 m2 w0 w2 s0 s2
  ended_so budget ending m0 m1 m2 w0 w1 w2 s0 s1 s2 way h =
      subst (λ (found : Option Queue). Notified device q found ending m0 m2 w0 w2 s0 s2) (sym way.there)
      (paused_to_end device budget q way.queue ending m0 m1 m2 w0 w1 w2 s0 s1 s2 way.paused
      (subst (λ (f : Option Queue). FinishesWithin device budget q f ending m1 m2 w1 w2 s1 s2)
      (open_now m0 m1 w0 w1 s0 s1 way) h))

  pub ended : (budget : Budget) {m0 m1 m2 : Memory} {w0 w1 w2 : WindowState} {s0 s1 s2 : State}
      → OnItsWay m0 m1 w0 w1 s0 s1 → GoesOnTo device budget q (queue_at q w1) Done m1 m2 w1 w2 s1 s2
      → IsNotified device q (queue_at q w0) m0 m2 w0 w2 s0 s2
  ended budget {m0} {m1} {m2} {w0} {w1} {w2} {s0} {s1} {s2} way h = record {
    ending = h.ending;
    notified = ended_so budget h.ending m0 m1 m2 w0 w1 w2 s0 s1 s2 way h.finished;
  }
