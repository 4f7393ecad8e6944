-- What the pieces of a slot's services come to, as its guest sees it.
use Rattle.std.proofs.Common.{◌≡◌, ℕ, ◌-◌, ◌≤◌, Option, Some, None, List, length, ap, ◌∙◌, arith, length-drop}
use Rattle.guest_memory.specs.Memory.{Memory}
use Rattle.chain.specs.declared.budget.Budget.{Budget}
use Rattle.chain.specs.declared.budget.Progress.{Progress}
use Rattle.chain.specs.declared.budget.Progress.TheVariants.{More, Done}
use Rattle.chain.specs.Service.{Site, open_site}
use Rattle.mmio_window.specs.declared.queue.Queue.{Queue}
use Rattle.mmio_window.specs.declared.stage.Stage.{Stage}
use Rattle.mmio_window.specs.declared.stage.Stage.TheVariants.{First, Next}
use Rattle.mmio_window.specs.Queue.{queue_kind}
use Rattle.mmio_window.specs.Window.{WindowState}
use Rattle.mmio_window.proofs.Pieces.{notified_once}
use Rattle.console_device.specs.Device.{receive}
use Rattle.console_device.specs.Input.{IsLeft}
use Rattle.console_device.proofs.Notified.{notified_left}
use Rattle.console_device.proofs.Services.{serves_left, stop_state}
use Rattle.mmio_window.specs.Pieces.{ServesTo}

-- what a piece of the receive queue's service leaves pending is the end of what was
piece_left : (stage : Stage) (budget : Budget) (queue : Option Queue) (progress : Progress) (m m' : Memory)
    (w w' : WindowState) (s s' : List ℕ)
    → ServesTo stage receive budget 0 queue progress m m' w w' s s' → IsLeft s s'
piece_left First budget queue Done m m' w w' s s' h =
    notified_left 0 queue m m' w w' s s'
    (record {
      ending = h.ending;
      notified = notified_once receive budget 0 queue h.ending m m' w w' s s' h.notified;
    })
piece_left First budget None More m m' w w' s s' h = absurd h
piece_left First budget (Some queue) More m m' w w' s s' h =
    serves_left queue_kind (open_site queue_kind receive (record { memory = m; ring = queue; state = s }))
    (record { memory = m'; ring = h.last; state = s' }) h.begins.pauses.course.chains
    h.begins.pauses.course.serves
piece_left Next budget None Done m m' w w' s s' h = record { taken = 0; rest = h.finished.1.state }
piece_left Next budget (Some queue) Done m m' w w' s s' h =
    let runs = h.finished.ends.ends.runs in
    let left = serves_left queue_kind (record { memory = m; ring = queue; state = s }) runs.at
    runs.chains runs.serves in
    record {
      taken = left.taken;
      rest =
          ap (λ (x : Site Queue (List ℕ)). x.state) h.finished.ends.ends.closed
          ∙ ap (λ (x : Site Queue (List ℕ)). x.state) runs.stands
          ∙ stop_state queue_kind runs.at h.ending
          ∙ left.rest;
    }
piece_left Next budget None More m m' w w' s s' h = absurd h
piece_left Next budget (Some queue) More m m' w w' s s' h =
    serves_left queue_kind (record { memory = m; ring = queue; state = s })
    (record { memory = m'; ring = h.last; state = s' }) h.pauses.course.chains h.pauses.course.serves

left_fits : (old new : List ℕ) → IsLeft old new → length old ≤ 4096 → length new ≤ 4096
left_fits old new left fits = let size : length new ≡ length old - left.taken = ap length left.rest
    ∙ length-drop left.taken old in omega (arith, size, fits)

-- so what fitted fits
pub piece_fits : (stage : Stage) (budget : Budget) (queue : Option Queue) (progress : Progress)
    (m m' : Memory) (w w' : WindowState) (s s' : List ℕ)
    → ServesTo stage receive budget 0 queue progress m m' w w' s s' → length s ≤ 4096 → length s' ≤ 4096
piece_fits stage budget queue progress m m' w w' s s' h fits =
    left_fits s s' (piece_left stage budget queue progress m m' w w' s s' h) fits
