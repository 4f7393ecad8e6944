-- From how a piece leaves its queue to what the window shows of it, for any device.
use Rattle.std.proofs.Common.{◌≡◌, ◌≢◌, ◌↔◌, ℕ, Bool, Option, Some, None, Result, Ok, Err, List, length, arith, refl, sym, subst}
use Rattle.std.specs.Prelude.{IfErr, IsTrue, OnErr}
use Rattle.guest_memory.specs.Memory.{Memory}
use Rattle.chain.specs.declared.budget.Budget.{Budget}
use Rattle.chain.specs.declared.budget.Progress.{Progress}
use Rattle.chain.specs.declared.fault.Fault.{Fault}
use Rattle.chain.specs.declared.segment.Buffer.{Buffer}
use Rattle.chain.specs.Bytes.{readable_of, writable_of}
use Rattle.chain.specs.Pieces.{RunsWithin}
use Rattle.chain.specs.Service.{Device, IsExactUnless, Refused, Site}
use Rattle.chain.proofs.Budgets.{piece_closes}
use Rattle.mmio_window.specs.declared.service.Left.{Left}
use Rattle.mmio_window.specs.declared.service.Left.TheVariants.{Open, Closed}
use Rattle.mmio_window.specs.declared.service.Refused as left
use Rattle.mmio_window.specs.declared.queue.Queue.{Queue}
use Rattle.mmio_window.specs.declared.stage.Stage.{Stage}
use Rattle.mmio_window.specs.FaultNote.{fault_in}
use Rattle.mmio_window.specs.Leaving.{LeavesQueue, RefusesAt, progress_of, shown, site_at}
use Rattle.mmio_window.specs.Pieces.{BeginsTo, EndsAt, IsRefusedAt, ServesTo, fitting, opened_at}
use Rattle.mmio_window.specs.Queue.{entry_of, queue_kind}
use Rattle.mmio_window.specs.Serving.{IsNotified, ending_of}
use Rattle.mmio_window.specs.Window.{WindowState, with_ring}
use Rattle.mmio_window.proofs.Pieces.{never_pauses, notified_once}
use Rattle.mmio_window.proofs.Stages.{ends_at, ends_exactly, ends_to, pauses_exactly, pauses_to, refused_to}

-- where no chain is left on offer, each is served
fitting_exact : {State : Type 0} (device : Device State) → IsExactUnless device (fitting device) (λ s. 0)
fitting_exact device = record {
  takes = λ s. refl;
  rises = λ s readable w given h. omega arith;
  gives = λ s readable w given h e. h;
}

no_refusal : (fault : Option Fault) → ending_of fault ≢ Refused
no_refusal None e = cc
no_refusal (Some fault) e = cc

pub leaves_fitting : {State : Type 0} (device : Device State) (stage : Stage) (budget : Budget)
    (old new : Site Queue State) (left : Left) → LeavesQueue device stage budget old new left
    → LeavesQueue (fitting device) stage budget old new left
leaves_fitting device stage budget old new Open h =
    pauses_exactly device (fitting device) (λ s. 0) (fitting_exact device) budget old new refl stage h
leaves_fitting device stage budget old new (Closed met wanted) h =
    ends_exactly device (fitting device) (λ s. 0) (fitting_exact device) budget old new refl stage
    (ending_of (fault_in met)) wanted (no_refusal (fault_in met)) h

module _ {State : Type 0} (device : Device State) (stage : Stage) (budget : Budget) (q : ℕ) where
  serves_at : (queue last : Queue) (left : Left) (m m' : Memory) (w : WindowState) (s s' : State)
      → LeavesQueue device stage budget (site_at m queue s) (site_at m' last s') left
      → ServesTo stage device budget q (Some queue) (progress_of left) m m' w
      (shown left (with_ring q w last)) s s'
  serves_at queue last Open m m' w s s' h = pauses_to device budget q queue last m m' w s s' stage h
  serves_at queue last (Closed met wanted) m m' w s s' h =
      ends_to device budget q queue last m m' w s s' stage (ending_of (fault_in met)) wanted h

  -- the queue that the window lends, and what it then shows
  pub serves_to : (found : Option Queue) (queue last : Queue) (left : Left) (progress : Progress)
      (m m' : Memory) (w w' : WindowState) (s s' : State)
      → Some queue ≡ found → progress ≡ progress_of left → w' ≡ shown left (with_ring q w last)
      → LeavesQueue device stage budget (site_at m queue s) (site_at m' last s') left
      → ServesTo stage device budget q found progress m m' w w' s s'
  serves_to found queue last left progress m m' w w' s s' is told shows h =
      subst (λ (f : Option Queue). ServesTo stage device budget q f progress m m' w w' s s') is
      (rw (told, shows) (serves_at queue last left m m' w s s' h))

  -- the same of a queue that is closed where the device left a chain on offer, since it had no memory for it
  pub refuses_to : {E : Type 0} (Refuses : State → Memory → List Buffer → E → Type 0) (found : Option Queue)
      (queue stood last : Queue) (m m' m'' : Memory) (w w' : WindowState) (s s' : State)
      (buffers : List Buffer) (refused : left.Refused E) (wanted : Bool)
      → device.LacksMemory s' (readable_of m' buffers) (length (writable_of buffers))
      → Some queue ≡ found → RefusesAt device Refuses stage budget (site_at m queue s)
      (site_at m' stood s') buffers refused
      → m'' ≡ queue_kind.closed m' stood → last ≡ queue_kind.shut stood
      → (IsTrue wanted ↔ queue_kind.Wants m'' stood)
      → w' ≡ shown (Closed None wanted) (with_ring q w last)
      → IsRefusedAt stage device budget q found m m'' w w' s s'
  refuses_to {E} Refuses found queue stood last m m' m'' w w' s s' buffers refused wanted lacks is h closes
      shuts wants shows =
      let left = h.left in
      let runs : RunsWithin queue_kind device budget (site_at m (opened_at stage m queue) s) Refused
      (site_at m' stood s') = record {
        runs = record {
          chains = left.course.chains;
          at = site_at m' stood s';
          serves = left.course.serves;
          ends = record {
            ready = left.ready;
            buffers = buffers;
            entry = entry_of refused.token;
            offered = left.offered;
            lacks_memory = lacks;
          };
          stands = refl;
        };
        within = record { each = left.within; refused = λ e. left.unspent };
      } in
      let ends : EndsAt stage device budget (site_at m queue s) (site_at m'' last s') Refused wanted =
      ends_at device budget stage m queue (opened_at stage m queue) s refl (site_at m'' last s') Refused
      wanted (sym h.opens)
      (piece_closes queue_kind device budget (site_at m (opened_at stage m queue) s) m' m'' stood last s'
      Refused wanted runs closes shuts wants) in
      subst (λ (f : Option Queue). IsRefusedAt stage device budget q f m m'' w w' s s') is
      (rw shows (refused_to device budget q queue last m m'' w s s' stage wanted ends))

-- what follows from why a chain is left holds where one is
pub on_err : {T E : Type 0} (result : Result T E) (P : E → Type 0) (Q : Type 0) → IfErr result P
    → ((why : E) → P why → Q) → OnErr result Q
on_err (Ok x) P Q h so = tt
on_err (Err why) P Q h so = so why h

-- without limits it is one service
pub whole : {State : Type 0} (device : Device State) (budget : Budget) (q : ℕ) (found : Option Queue)
    (progress : Progress) (m m' : Memory) (w w' : WindowState) (s t : State)
    → budget.chains ≡ None → budget.bytes ≡ None
    → BeginsTo device budget q found progress m m' w w' s t → IsNotified device q found m m' w w' s t
whole device budget q found progress m m' w w' s t chains bytes h =
    let once = never_pauses device budget q found progress m m' w w' s t chains bytes h in
    record {
      ending = once.ending;
      notified = notified_once device budget q found once.ending m m' w w' s t once.notified;
    }
