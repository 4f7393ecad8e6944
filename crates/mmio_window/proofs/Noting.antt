-- Where a fault was met, as a piece tells it that ends by one.
use Rattle.std.proofs.Common.{◌≡◌, Option, Some, None, ap, refl, subst}
use Rattle.guest_memory.specs.Memory.{Memory}
use Rattle.chain.specs.declared.budget.Budget.{Budget}
use Rattle.chain.specs.declared.fault.Fault.{Fault}
use Rattle.chain.specs.Pieces.{RunsWithin}
use Rattle.chain.specs.Service.{Device, Faulted, Works}
use Rattle.mmio_window.specs.declared.queue.Queue.{Queue}
use Rattle.mmio_window.specs.declared.stage.Stage.{Stage}
use Rattle.mmio_window.specs.FaultNote.{IfMetIn, IsMetIn, fault_in, met_at, met_with}
use Rattle.mmio_window.specs.Pieces.{fault_at, opened_at}
use Rattle.mmio_window.specs.Queue.{queue_kind}
use Rattle.mmio_window.specs.Serving.{ending_of, site_at}

pub same_fault : (m : Memory) (queue : Queue) (fault : Option Fault) → fault_in (met_with m queue fault) ≡ fault
same_fault m queue None = refl
same_fault m queue (Some fault) = refl

module _ {State : Type 0} (device : Device State) (stage : Stage) (m m' : Memory) (queue opened last : Queue)
    (s : State) (is : opened ≡ opened_at stage m queue) where
  -- as the queue is opened
  pub met_opening : (fault : Fault) → Some fault ≡ fault_at stage m queue
      → m' ≡ queue_kind.closed m opened → last ≡ queue_kind.shut opened
      → IsMetIn device stage (site_at m queue s) (site_at m' last s) (met_at m opened fault)
  met_opening fault some closes shuts = record {
    last = site_at m opened s;
    works = subst (λ (o : Option Fault). Works queue_kind device o (site_at m (opened_at stage m queue) s)
        (Faulted fault) (site_at m opened s)) some (refl, ap (λ ring. site_at m ring s) is);
    told = refl;
    closed = rw (closes, shuts) refl;
  }

  -- behind some chains, or none
  pub met_ending : (budget : Budget) (between : Memory) (stood : Queue) (t : State) (fault : Option Fault)
      → None ≡ fault_at stage m queue
      → RunsWithin queue_kind device budget (site_at m opened s) (ending_of fault) (site_at between stood t)
      → m' ≡ queue_kind.closed between stood → last ≡ queue_kind.shut stood
      → IfMetIn device stage (site_at m queue s) (site_at m' last t) (met_with between stood fault)
  met_ending budget between stood t None none h closes shuts = tt
  met_ending budget between stood t (Some fault) none h closes shuts = record {
    last = site_at between stood t;
    works = subst (λ (o : Option Fault). Works queue_kind device o (site_at m (opened_at stage m queue) s)
        (Faulted fault) (site_at between stood t)) none (rw is at h.runs);
    told = refl;
    closed = rw (closes, shuts) refl;
  }
