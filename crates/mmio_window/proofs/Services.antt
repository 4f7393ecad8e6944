-- Notifications of a queue: of a device that does as another does, and of one whose failures didn't rise.
use Rattle.std.proofs.Common.{◌≡◌, ◌≢◌, ℕ, Option, Some, None, List, refl, sym, subst}
use Rattle.guest_memory.specs.Memory.{Memory}
use Rattle.chain.specs.Service.{Device, Ending, Refused, Site, IsExactUnless}
use Rattle.chain.proofs.Servicing.{exact_service, never_refused}
use Rattle.chain.proofs.Simulating.{DoesAs, ServedAs, service_as}
use Rattle.mmio_window.specs.declared.queue.Queue.{Queue}
use Rattle.mmio_window.specs.Queue.{queue_kind}
use Rattle.mmio_window.specs.Serving.{Notified}
use Rattle.mmio_window.specs.Window.{WindowState}

-- the other device is notified in the same way, and left in a like state
pub record NotifiedAs {S T : Type 0} (other : Device T) (Alike : S → T → Type 0) (q : ℕ)
    (queue : Option Queue) (ending : Ending) (old new : Memory) (before after : WindowState)
    (s' : S) (t : T) : Type 0 where
  pub state : T
  pub alike : Alike s' state
  pub notified : Notified other q queue ending old new before after t state

module _ {S T : Type 0} (device : Device S) (other : Device T) (Alike : S → T → Type 0)
    (likewise : DoesAs device other Alike) where
  -- a notification of a device is one of each that does as it does
  pub notified_as : (q : ℕ) (queue : Option Queue) (ending : Ending) (old new : Memory)
      (before after : WindowState) (s s' : S) (t : T) → Alike s t
      → Notified device q queue ending old new before after s s'
      → NotifiedAs other Alike q queue ending old new before after s' t
  notified_as q None ending old new before after s s' t alike h = record {
    state = t;
    alike = subst (λ (x : S). Alike x t) (sym h.1.state) alike;
    notified = (h.0, record { memory = h.1.memory; window = h.1.window; state = refl });
  }
  notified_as q (Some queue) ending old new before after s s' t alike h =
      let start : Site Queue S = record { memory = old; ring = queue; state = s } in
      let end : Site Queue S = record { memory = new; ring = h.last; state = s' } in
      let served : ServedAs queue_kind device other Alike likewise
      (record { memory = old; ring = queue; state = t }) end ending h.wanted =
      service_as queue_kind device other Alike likewise start end t ending h.wanted alike h.service in
      record {
        state = served.state;
        alike = served.alike;
        notified = record { last = h.last; wanted = h.wanted; service = served.service; window = h.window };
      }

module _ {State : Type 0} (device : Device State) where
  -- a device that never lacks memory refuses nothing
  pub notified_not_refused : ((s : State) (readable : List ℕ) (w : ℕ) → device.LacksMemory s readable w → ⊥)
      → (q : ℕ) (queue : Option Queue) (ending : Ending) (old new : Memory)
      (before after : WindowState) (s s' : State)
      → Notified device q queue ending old new before after s s' → ending ≢ Refused
  notified_not_refused never q None ending old new before after s s' h e = let spent = h.0 in cc
  notified_not_refused never q (Some queue) ending old new before after s s' h e =
      never_refused queue_kind device (record { memory = old; ring = queue; state = s })
      (record { memory = new; ring = h.last; state = s' }) ending h.wanted never h.service e

module _ {State : Type 0} (device exact : Device State) (count : State → ℕ)
    (is_exact : IsExactUnless device exact count) where
  -- where the number of failures stayed, and nothing was refused, a notification is one of the exact device
  pub notified_exact : (q : ℕ) (queue : Option Queue) (ending : Ending) (old new : Memory)
      (before after : WindowState) (s s' : State) → ending ≢ Refused → count s' ≡ count s
      → Notified device q queue ending old new before after s s'
      → Notified exact q queue ending old new before after s s'
  notified_exact q None ending old new before after s s' n e h = h
  notified_exact q (Some queue) ending old new before after s s' n e h = record {
    last = h.last;
    wanted = h.wanted;
    service = exact_service queue_kind device exact count is_exact
        (record { memory = old; ring = queue; state = s })
        (record { memory = new; ring = h.last; state = s' }) ending h.wanted n e h.service;
    window = h.window;
  }
