-- A piece of a service, whichever it is, from its opening to what its window shows.
use Rattle.std.proofs.Common.{◌≡◌, ◌≢◌, ◌↔◌, ℕ, Bool, Option, Some, None, refl, subst}
use Rattle.std.specs.Prelude.{IsTrue}
use Rattle.guest_memory.specs.Memory.{Memory}
use Rattle.chain.specs.declared.budget.Budget.{Budget}
use Rattle.chain.specs.declared.budget.Progress.TheVariants.{More, Done}
use Rattle.chain.specs.declared.fault.Fault.{Fault}
use Rattle.chain.specs.Pieces.{EndsWithin}
use Rattle.chain.specs.Service.{Device, Ending, Faulted, Refused, Site, Works, IsExactUnless}
use Rattle.chain.proofs.Budgets.{fault_within}
use Rattle.chain.proofs.Likewise.{begins_exact, ends_exact, pauses_exact, service_within_exact}
use Rattle.mmio_window.specs.declared.queue.Queue.{Queue}
use Rattle.mmio_window.specs.declared.stage.Stage.{Stage}
use Rattle.mmio_window.specs.declared.stage.Stage.TheVariants.{First, Next}
use Rattle.mmio_window.specs.Pieces.{CompletesAt, EndsAt, IsRefusedAt, PausesAt, ServesTo, fault_at, opened_at}
use Rattle.mmio_window.specs.Queue.{queue_kind}
use Rattle.mmio_window.specs.Leaving.{site_at}
use Rattle.mmio_window.specs.Serving.{NothingHappens, after_service}
use Rattle.mmio_window.specs.Window.{WindowState, with_ring}

-- ---- its opening

module _ {State : Type 0} (device : Device State) (budget : Budget) (stage : Stage) (m : Memory)
    (queue opened : Queue) (s : State) (is : opened ≡ opened_at stage m queue) where
  pub ends_at : (new : Site Queue State) (ending : Ending) (wanted : Bool) → None ≡ fault_at stage m queue
      → EndsWithin queue_kind device budget
      (record { memory = m; ring = opened; state = s }) new ending wanted
      → EndsAt stage device budget (record { memory = m; ring = queue; state = s }) new ending wanted
  ends_at new ending wanted none h = by_stage stage none (rw is at h)
    where
      by_stage : (stage : Stage) → None ≡ fault_at stage m queue
          → EndsWithin queue_kind device budget
          (record { memory = m; ring = opened_at stage m queue; state = s }) new ending wanted
          → EndsAt stage device budget (record { memory = m; ring = queue; state = s }) new ending wanted
      by_stage First none h = record {
        service = record {
          last = h.ends.last;
          works = subst (λ (o : Option Fault). Works queue_kind device o
              (record { memory = m; ring = queue_kind.opened m queue; state = s }) ending
              h.ends.last) none h.ends.runs;
          closed = h.ends.closed;
          wanted_is = h.ends.wanted_is;
        };
        within = λ opens. h;
      }
      by_stage Next none h = h

  -- after a fault the queue is closed at once
  pub faults_at : (new : Memory) (last : Queue) (fault : Fault) (wanted : Bool)
      → Some fault ≡ fault_at stage m queue
      → new ≡ queue_kind.closed m opened → last ≡ queue_kind.shut opened
      → (IsTrue wanted ↔ queue_kind.Wants new opened)
      → EndsAt stage device budget (record { memory = m; ring = queue; state = s })
      (record { memory = new; ring = last; state = s }) (Faulted fault) wanted
  faults_at new last fault wanted some closes shuts wants = by_stage stage some is
    where
      by_stage : (stage : Stage) → Some fault ≡ fault_at stage m queue → opened ≡ opened_at stage m queue
          → EndsAt stage device budget (record { memory = m; ring = queue; state = s })
          (record { memory = new; ring = last; state = s }) (Faulted fault) wanted
      by_stage First some is = fault_within queue_kind device budget m new queue opened last s fault wanted
          some is closes shuts wants
      by_stage Next some is = absurd (cc some)

-- ---- what the window shows

module _ {State : Type 0} (device : Device State) (budget : Budget) (q : ℕ) (queue last : Queue)
    (m m' : Memory) (w : WindowState) (s s' : State) where
  abbrev start : Site Queue State
  start = record { memory = m; ring = queue; state = s }

  abbrev end : Site Queue State
  end = record { memory = m'; ring = last; state = s' }

  pub pauses_to : (stage : Stage) → PausesAt stage device budget start end
      → ServesTo stage device budget q (Some queue) More m m' w (with_ring q w last) s s'
  pauses_to First h = record { last = last; begins = h; window = refl }
  pauses_to Next h = record { last = last; pauses = h; window = refl }

  pub ends_to : (stage : Stage) (ending : Ending) (wanted : Bool)
      → EndsAt stage device budget start end ending wanted
      → ServesTo stage device budget q (Some queue) Done m m' w
      (after_service ending wanted (with_ring q w last)) s s'
  ends_to First ending wanted h =
      record {
        ending = ending;
        notified = record { last = last; wanted = wanted; service = h; window = refl };
      }
  ends_to Next ending wanted h =
      record { ending = ending; finished = record { last = last; wanted = wanted; ends = h; window = refl } }

  pub refused_to : (stage : Stage) (wanted : Bool) → EndsAt stage device budget start end Refused wanted
      → IsRefusedAt stage device budget q (Some queue) m m' w
      (after_service Refused wanted (with_ring q w last)) s s'
  refused_to First wanted h = record { last = last; wanted = wanted; service = h; window = refl }
  refused_to Next wanted h = record { last = last; wanted = wanted; ends = h; window = refl }

-- ---- where the count of failures stayed

module _ {State : Type 0} (device exact : Device State) (count : State → ℕ)
    (is_exact : IsExactUnless device exact count) (budget : Budget) (old new : Site Queue State)
    (stood : count new.state ≡ count old.state) where
  pub pauses_exactly : (stage : Stage) → PausesAt stage device budget old new
      → PausesAt stage exact budget old new
  pauses_exactly First h = begins_exact queue_kind device exact count is_exact budget old new stood h
  pauses_exactly Next h = pauses_exact queue_kind device exact count is_exact budget old new stood h

  pub ends_exactly : (stage : Stage) (ending : Ending) (wanted : Bool) → ending ≢ Refused
      → EndsAt stage device budget old new ending wanted → EndsAt stage exact budget old new ending wanted
  ends_exactly First ending wanted answered h =
      service_within_exact queue_kind device exact count is_exact budget old new ending
      wanted answered stood h
  ends_exactly Next ending wanted answered h =
      ends_exact queue_kind device exact count is_exact budget old new ending wanted answered stood h

-- ---- another device whose chains do likewise

module _ {S T : Type 0} (device : Device S) (other : Device T) (budget : Budget) (q : ℕ) (m m' : Memory)
    (w w' : WindowState) (s s' : S) (t t' : T) where
  -- a piece that pauses
  pub pauses_as : (stage : Stage) (queue : Queue)
      → ((last : Queue) → PausesAt stage device budget (site_at m queue s) (site_at m' last s')
      → PausesAt stage other budget (site_at m queue t) (site_at m' last t'))
      → ServesTo stage device budget q (Some queue) More m m' w w' s s'
      → ServesTo stage other budget q (Some queue) More m m' w w' t t'
  pauses_as First queue likewise h =
      record { last = h.last; begins = likewise h.last h.begins; window = h.window }
  pauses_as Next queue likewise h =
      record { last = h.last; pauses = likewise h.last h.pauses; window = h.window }

  nothing_as : (s' ≡ s → t' ≡ t) → NothingHappens m m' w w' s s' → NothingHappens m m' w w' t t'
  nothing_as same h = record { memory = h.memory; window = h.window; state = same h.state }

  -- one that ends
  pub completes_as : (stage : Stage) (found : Option Queue) (ending : Ending) → (s' ≡ s → t' ≡ t)
      → ((queue last : Queue) (wanted : Bool)
      → EndsAt stage device budget (site_at m queue s) (site_at m' last s') ending wanted
      → EndsAt stage other budget (site_at m queue t) (site_at m' last t') ending wanted)
      → CompletesAt stage device budget q found ending m m' w w' s s'
      → CompletesAt stage other budget q found ending m m' w w' t t'
  completes_as First None ending same likewise h = (h.0, nothing_as same h.1)
  completes_as Next None ending same likewise h = (h.0, nothing_as same h.1)
  completes_as First (Some queue) ending same likewise h = record {
    last = h.last;
    wanted = h.wanted;
    service = likewise queue h.last h.wanted h.service;
    window = h.window;
  }
  completes_as Next (Some queue) ending same likewise h = record {
    last = h.last;
    wanted = h.wanted;
    ends = likewise queue h.last h.wanted h.ends;
    window = h.window;
  }
