-- A transmit without limits where each chain that is served fits.
use Rattle.std.proofs.Common.{◌≡◌, ℕ, Option, None, List, refl}
use Rattle.guest_memory.specs.Memory.{Memory}
use Rattle.chain.specs.declared.budget.Budget.{Budget}
use Rattle.chain.specs.declared.budget.Progress.{Progress}
use Rattle.chain.proofs.Simulating.{DoesAs}
use Rattle.mmio_window.specs.declared.queue.Queue.{Queue}
use Rattle.mmio_window.specs.Pieces.{BeginsTo}
use Rattle.mmio_window.specs.Serving.{Notified}
use Rattle.mmio_window.specs.Window.{WindowState}
use Rattle.mmio_window.proofs.Pieces.{never_pauses, notified_once}
use Rattle.mmio_window.proofs.Services.{notified_as, notified_not_refused}
use Rattle.console_device.specs.Device.{transmit_fitting, transmit_within}
use Rattle.console_device.specs.Output.{IsUnrefused}

pub fitting_within : (limit : Option ℕ)
    → DoesAs (transmit_fitting limit) (transmit_within limit) (λ out sent. sent ≡ out)
fitting_within limit = record {
  takes = λ out sent alike. refl;
  gives = λ out sent readable w given alike h.
      record { state = given.state; alike = refl; gives = rw alike h };
  lacks_memory = λ out sent readable w alike h. absurd h;
}

pub sent_whole : (limit : Option ℕ) (budget : Budget) (found : Option Queue) (progress : Progress)
    (m m' : Memory) (w w' : WindowState) (s t : List ℕ)
    → budget.chains ≡ None → budget.bytes ≡ None
    → BeginsTo (transmit_fitting limit) budget 1 found progress m m' w w' s t
    → IsUnrefused (transmit_within limit) 1 found m m' w w' s t
sent_whole limit budget found progress m m' w w' s t chains bytes h =
    let once = never_pauses (transmit_fitting limit) budget 1 found progress m m' w w' s t chains bytes h in
    let whole : Notified (transmit_fitting limit) 1 found once.ending m m' w w' s t =
    notified_once (transmit_fitting limit) budget 1 found once.ending m m' w w' s t once.notified in
    let own = notified_as (transmit_fitting limit) (transmit_within limit) (λ out sent. sent ≡ out)
    (fitting_within limit) 1 found once.ending m m' w w' s t s refl whole in
    record {
      ending = once.ending;
      unrefused = notified_not_refused (transmit_fitting limit) (λ out readable w lacks. lacks) 1 found
          once.ending m m' w w' s t whole;
      notified = rw own.alike at own.notified;
    }
