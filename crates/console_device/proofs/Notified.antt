-- From a service of a queue to what its window's guest sees of it.
use Rattle.std.proofs.Common.{◌≡◌, ℕ, Option, Some, None, Result, Ok, Err, List, refl}
use Rattle.std.specs.Prelude.{OnErr}
use Rattle.guest_memory.specs.Memory.{Memory}
use Rattle.chain.specs.Service.{Refused}
use Rattle.mmio_window.specs.declared.queue.Queue.{Queue}
use Rattle.mmio_window.specs.Queue.{queue_kind}
use Rattle.mmio_window.specs.Serving.{IsNotified, Notified}
use Rattle.mmio_window.specs.Window.{WindowState}
use Rattle.mmio_window.proofs.Services.{notified_as, notified_exact}
use Rattle.console_device.specs.Input.{IsLeft}
use Rattle.console_device.specs.Device.{receive, transmit, exact_transmit, transmit_within}
use Rattle.console_device.specs.Output.{IsUnrefused}
use Rattle.console_device.proofs.Services.{exact_within, some_within, receive_left}

-- a service that wasn't refused is an exact one
pub served_exactly : (limit : Option ℕ) (q : ℕ) (at : Option Queue) (old new : Memory)
    (before after : WindowState) (s s' : List ℕ)
    → IsUnrefused (transmit_within limit) q at old new before after s s'
    → IsNotified exact_transmit q at old new before after s s'
served_exactly limit q at old new before after s s' h = record {
  ending = h.ending;
  notified = notified_exact (transmit_within limit) exact_transmit (λ out. 0) (exact_within limit) q at
      h.ending old new before after s s' h.unrefused refl h.notified;
}

-- and one that was refused may be so
pub refused_somewhere : (limit : Option ℕ) (q : ℕ) (at : Option Queue) (old new : Memory)
    (before after : WindowState) (s s' : List ℕ)
    → Notified (transmit_within limit) q at Refused old new before after s s'
    → Notified transmit q at Refused old new before after s s'
refused_somewhere limit q at old new before after s s' h =
    let own = notified_as (transmit_within limit) transmit (λ out sent. sent ≡ out) (some_within limit) q at
    Refused old new before after s s' s refl h in
    rw own.alike at own.notified

-- what holds where a call is refused holds of any that is
pub on_refusal : {E T : Type 0} (r : Result T E) (P : Type 0) → P → OnErr r P
on_refusal (Ok x) P p = tt
on_refusal (Err x) P p = p

-- what a notification of the receive queue leaves pending is the end of what was
pub notified_left : (q : ℕ) (queue : Option Queue) (old new : Memory) (before after : WindowState)
    (s s' : List ℕ) → IsNotified receive q queue old new before after s s' → IsLeft s s'
notified_left q None old new before after s s' h = record { taken = 0; rest = h.notified.1.state }
notified_left q (Some queue) old new before after s s' h =
    receive_left queue_kind (record { memory = old; ring = queue; state = s })
    (record { memory = new; ring = h.notified.last; state = s' }) h.ending
    h.notified.wanted h.notified.service
