-- A piece of a device's service in any world: it leaves the window its device's, and in that of a guest that stands still it is what a
-- board's is.
use Rattle.std.proofs.Common.{◌≡◌, ℕ, zero, suc, Option, None, Some, inl, inr, subst}
use Rattle.guest_memory.specs.Memory.{Memory}
use Rattle.chain.specs.declared.budget.Budget.{Budget}
use Rattle.chain.specs.declared.budget.Progress.{Progress}
use Rattle.chain.specs.declared.budget.Progress.TheVariants.{Done}
use Rattle.chain.specs.Service.{Device}
use Rattle.mmio_window.specs.declared.queue.Queue.{Queue}
use Rattle.mmio_window.specs.declared.stage.Stage.{Stage}
use Rattle.mmio_window.specs.Window.{WindowState, queue_at}
use Rattle.entropy_device.specs.Device.{entropy}
use Rattle.console_device.specs.Device as console
use Rattle.network_device.specs.Device.{passing, receive, transmit}
use Rattle.racing_service.specs.declared.service.Limits.{Limits}
use Rattle.served_memory.specs.Laws.{SameDevice, WorldLaws}
use Rattle.served_memory.specs.World.{World, one_round, standing}
use Rattle.device_list.specs.Card.{Card, CardServesIn, card_limits}
use Rattle.device_list.specs.Model.{ModelState, Entropy, Network, Block, Console, Image, ModelServesIn, ModelServesTo, disk_of}
use Rattle.device_list.specs.Terminal.{Terminal, TerminalServesIn, terminal_limit}

module _ (world : World) (laws : WorldLaws world) (stage : Stage) (limits : Limits) (m m' : world.Seen)
    (w w' : WindowState) where
  -- ---- of a device that is another one's equal

  module _ {State : Type 0} (given device : Device State) (same : given ≡ device) (q : ℕ) (queue : Option Queue)
      (progress : Progress) (s s' : State) where
    as_device : world.DoneTo given stage limits q queue progress m m' w w' s s'
        → world.DoneTo device stage limits q queue progress m m' w w' s s'
    as_device h = subst (λ (d : Device State). world.DoneTo d stage limits q queue progress m m' w w' s s') same h

    -- where each chain was served
    pub serves_each : world.ServesTo given stage limits q queue progress m m' w w' s s'
        → world.DoneTo device stage limits q queue progress m m' w w' s s'
    serves_each h = as_device (laws.serves_done given stage limits q queue progress m m' w w' s s' h)

    -- and where one was left on offer
    pub leaves_one : progress ≡ Done → world.RefusedTo given stage limits q queue m m' w w' s s'
        → world.DoneTo device stage limits q queue progress m m' w w' s s'
    leaves_one done h = as_device (rw done (laws.refused_done given stage limits q queue m m' w w' s s' h))

  -- ---- the window stays its device's

  served_same : {State : Type 0} (device : Device State) (q : ℕ) (queue : Option Queue) (progress : Progress) (s s' : State)
      → world.ServesTo device stage limits q queue progress m m' w w' s s' → SameDevice w w'
  served_same device q queue progress s s' h =
      laws.done_keeps device stage limits q queue progress m m' w w' s s'
      (laws.serves_done device stage limits q queue progress m m' w w' s s' h)

  card_same : (progress : Progress) (card : Card) (q : ℕ) (after : Card)
      → CardServesIn world stage limits progress card q m m' w w' after → SameDevice w w'
  card_same progress card zero after h = elim h.served [
    | inl fits ↦ served_same receive 0 (queue_at 0 w) progress card.network.waiting h.left fits
    | inr drops ↦ laws.done_keeps receive stage limits 0 (queue_at 0 w) Done m m' w w' card.network.waiting drops.1.last
        (laws.refused_done receive stage limits 0 (queue_at 0 w) m m' w w' card.network.waiting drops.1.last
        drops.1.refused)
  ]
  card_same progress card (suc zero) after h =
      laws.done_keeps (transmit card_limits) stage limits 1 (queue_at 1 w) progress m m' w w'
      (passing card.sent card.network.dropped) h.out h.served
  card_same progress card (suc (suc q)) after h = laws.nothing_keeps m m' w w' card after h.1

  terminal_same : (progress : Progress) (terminal : Terminal) (q : ℕ) (after : Terminal)
      → TerminalServesIn world stage limits progress terminal q m m' w w' after → SameDevice w w'
  terminal_same progress terminal zero after h =
      served_same console.receive 0 (queue_at 0 w) progress terminal.console.pending h.left h.served
  terminal_same progress terminal (suc zero) after h =
      laws.done_keeps (console.transmit_within (Some terminal_limit)) stage limits 1 (queue_at 1 w) progress m m' w w'
      terminal.waiting h.out h.served
  terminal_same progress terminal (suc (suc q)) after h = laws.nothing_keeps m m' w w' terminal after h.1

  pub model_same : (progress : Progress) (model : ModelState) (q : ℕ) (model' : ModelState)
      → ModelServesIn world stage limits progress model q m m' w w' model' → SameDevice w w'
  model_same progress (Entropy pool) zero model' h = served_same entropy 0 (queue_at 0 w) progress pool h.left h.served
  model_same progress (Entropy pool) (suc q) model' h = laws.nothing_keeps m m' w w' (Entropy pool) model' h.1
  model_same progress (Network card) q model' h = card_same progress card q h.after h.serves
  model_same progress (Block disk) q model' h = laws.nothing_keeps m m' w w' (Block disk) model' h.1
  model_same progress (Console terminal) q model' h = terminal_same progress terminal q h.after h.serves
  model_same progress (Image disk) q model' h = laws.nothing_keeps m m' w w' (Image disk) model' h.1

-- ---- a guest that stands still

pub as_standing : (stage : Stage) (budget : Budget) (progress : Progress) (model : ModelState) (q : ℕ) (m m' : Memory)
    (w w' : WindowState) (model' : ModelState) → disk_of model ≡ None
    → ModelServesIn standing stage (one_round budget) progress model q m m' w w' model'
    → ModelServesTo stage budget progress model q m m' w w' model'
as_standing stage budget progress (Entropy pool) q m m' w w' model' none h = h
as_standing stage budget progress (Network card) q m m' w w' model' none h = h
as_standing stage budget progress (Block disk) q m m' w w' model' none h = absurd (cc none)
as_standing stage budget progress (Console terminal) q m m' w w' model' none h = h
as_standing stage budget progress (Image disk) q m m' w w' model' none h = h
