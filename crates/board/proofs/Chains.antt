-- What each chain of a service keeps, of the memory and of the device's state, the service keeps.
use Rattle.std.proofs.Common.{◌≡◌, ℕ, Bool, Option, Some, None, List, [], ◌∷◌, sym, subst}
use Rattle.guest_memory.specs.Memory.{Memory}
use Rattle.chain.specs.declared.fault.Fault.{Fault}
use Rattle.chain.specs.Pieces.{GoesToEnd}
use Rattle.chain.specs.Service.{Device, Ending, IsService, Served, ServesAll, ServesChain, Site, Spent, Works, after, open_site, stop}
use Rattle.mmio_window.specs.declared.queue.Queue.{Queue}
use Rattle.mmio_window.specs.Queue.{queue_kind}
use Rattle.mmio_window.specs.Serving.{Notified}
use Rattle.mmio_window.specs.Window.{WindowState}

module _ {State : Type 0} (device : Device State) (Keeps : Memory → State → Type 0) where
  -- a chain keeps it, and so does what is written when the ring is closed
  pub record KeptByEach : Type 0 where
    pub chain :
        (start : Site Queue State) (s : Served State) → ServesChain queue_kind device start s
        → Keeps start.memory start.state
        → Keeps (after queue_kind device start s).memory (after queue_kind device start s).state
    pub closed :
        (memory : Memory) (queue : Queue) (state : State) → Keeps memory state
        → Keeps (queue_kind.closed memory queue) state

  abbrev At : Site Queue State → Type 0
  At site = Keeps site.memory site.state

  pub kept_by_all : KeptByEach → (start at : Site Queue State) (chains : List (Served State))
      → ServesAll queue_kind device start chains at → At start → At at
  kept_by_all each start at [] p keeps = subst At p keeps
  kept_by_all each start at (s ∷ chains) p keeps =
      kept_by_all each (after queue_kind device start s) at chains p.1 (each.chain start s p.0 keeps)

  kept_by_stop : (at last : Site Queue State) (ending : Ending) → last ≡ stop queue_kind device at ending
      → At at → At last
  kept_by_stop at last Spent is keeps = subst At (sym is) keeps
  kept_by_stop at last _ is keeps = subst At (sym is) keeps

  kept_by_work : KeptByEach → (fault : Option Fault) (start last : Site Queue State) (ending : Ending)
      → Works queue_kind device fault start ending last → At start → At last
  kept_by_work each (Some fault) start last ending h keeps = subst At (sym h.1) keeps
  kept_by_work each None start last ending h keeps =
      kept_by_stop h.at last ending h.stands (kept_by_all each start h.at h.chains h.serves keeps)

  kept_by_service : KeptByEach → (old new : Site Queue State) (ending : Ending) (wanted : Bool)
      → IsService queue_kind device old new ending wanted → At old → At new
  kept_by_service each old new ending wanted h keeps =
      subst At (sym h.closed) (each.closed h.last.memory h.last.ring h.last.state
      (kept_by_work each _ (open_site queue_kind device old) h.last ending h.works keeps))

  -- what goes on from an open queue to the end of its service
  pub kept_by_end : KeptByEach → (now new : Site Queue State) (ending : Ending) (wanted : Bool)
      → GoesToEnd queue_kind device now new ending wanted → At now → At new
  kept_by_end each now new ending wanted h keeps =
      subst At (sym h.closed) (each.closed h.last.memory h.last.ring h.last.state
      (kept_by_work each None now h.last ending h.runs keeps))

  -- and a notification
  pub kept : KeptByEach → (q : ℕ) (queue : Option Queue) (ending : Ending) (old new : Memory)
      (before after : WindowState) (s t : State) → Notified device q queue ending old new before after s t
      → Keeps old s → Keeps new t
  kept each q None ending old new before after s t h keeps =
      subst (λ (m : Memory). Keeps m t) (sym h.1.memory)
      (subst (λ (d : State). Keeps old d) (sym h.1.state) keeps)
  kept each q (Some queue) ending old new before after s t h keeps =
      kept_by_service each (record { memory = old; ring = queue; state = s })
      (record { memory = new; ring = h.last; state = t }) ending h.wanted h.service keeps
