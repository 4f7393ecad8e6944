-- A network card (5.1): a network device, and the frames that its driver transmitted and its host hasn't taken.
use Rattle.std.specs.Prelude.{◌≡◌, ℕ, zero, suc, ◌==◌, ◌&&◌, Bool, true, Option, Some, None, List, [], ◌∷◌, ◌++◌, drop, length}
use Rattle.std.specs.List.{slice_get}
use Rattle.std.specs.Option.{option_map}
use Rattle.guest_memory.specs.Memory.{Memory}
use Rattle.chain.specs.declared.budget.Budget.{Budget}
use Rattle.chain.specs.declared.budget.Progress.{Progress}
use Rattle.chain.specs.declared.budget.Progress.TheVariants.{Done}
use Rattle.chain.specs.Service.{Ending, Refused}
use Rattle.mmio_window.specs.declared.stage.Stage.{Stage}
use Rattle.mmio_window.specs.Offering.{is_offered}
use Rattle.mmio_window.specs.Serving.{IsNotified, NothingHappens, Notified}
use Rattle.mmio_window.specs.Window.{WindowState, queue_at}
use Rattle.network_device.specs.declared.limits.Limits.{Limits}
use Rattle.network_device.specs.Device.{Passing, emptied, passing, receive, transmit}
use Rattle.network_device.specs.Network.{Network, refusal}
use Rattle.network_device.specs.Receiving.{ReceivesIn}
use Rattle.racing_service.specs.declared.service.Limits.{Limits as ServiceLimits}
use Rattle.served_memory.specs.World.{World, one_round, standing}
use Rattle.device_list.specs.declared.refusal.ReceiveRefusal.{ReceiveRefusal}
use Rattle.device_list.specs.declared.refusal.ReceiveRefusal.TheVariants.{NoDevice, Frame}

-- the device, and the frames that wait for the host, the oldest first
pub record Card : Type 0 where
  pub network : Network
  pub sent : List (List ℕ)

-- how much may wait each way: this project's choice
abbrev pub card_limits : Limits
card_limits = record { bytes = 65536; frames = 64 }

-- a card for which nothing waits, with its link up
abbrev pub fresh_card : List ℕ → ℕ → Card
fresh_card mac mtu = record {
  network = record {
    configuration = record { mac = mac; link_up = true; mtu = mtu };
    waiting = passing [] 0;
    limits = card_limits;
    dropped = 0;
  };
  sent = [];
}

-- ---- its host

-- the card with the host's frame behind those that wait
abbrev pub with_frame : List ℕ → Card → Card
with_frame frame card = record card {
  network = record card.network {
    waiting = passing (card.network.waiting.frames ++ frame ∷ []) card.network.waiting.dropped;
  };
}

-- why the host's frame isn't received, if it isn't, by the card that there is
abbrev pub receive_refusal : List ℕ → Option Card → Option ReceiveRefusal
receive_refusal frame None = Some NoDevice
receive_refusal frame (Some card) = option_map Frame (refusal card.network frame)

-- the oldest frame that waits for the host
abbrev pub oldest_of : Card → Option (List ℕ)
oldest_of card = slice_get card.sent 0

-- the card without it
abbrev pub without_oldest : Card → Card
without_oldest card = record card { sent = drop 1 card.sent }

-- the card whose link is up or down (5.1.4)
abbrev pub with_link : Bool → Card → Card
with_link up card = record card {
  network = record card.network { configuration = record card.network.configuration { link_up = up } };
}

-- ---- its queues

-- What waits behind a service of the receive queue that ended so. Where it ended at a chain that none of the
-- waiting frames fits they are all dropped, and the chain stays on offer.
abbrev pub kept_behind : Ending → Passing → Passing
kept_behind Refused waiting = emptied waiting
kept_behind ending waiting = waiting

-- The waiting frames go into the chains on offer in the receive queue (5.1.6.4).
pub record ReceivesFrames (card : Card) (m m' : Memory) (w w' : WindowState) (card' : Card) : Type 0 where
  pub ending : Ending
  pub last : Passing
  pub notified : Notified receive 0 (queue_at 0 w) ending m m' w w' card.network.waiting last
  pub is : card' ≡ record card { network = record card.network { waiting = kept_behind ending last } }

-- The frames of the chains on offer in the transmit queue go behind those that wait for the host (5.1.6.2). The
-- first chain for whose frame there is no room stays on offer.
pub record TransmitsFrames (card : Card) (m m' : Memory) (w w' : WindowState) (card' : Card) : Type 0 where
  pub out : Passing
  pub notified : IsNotified (transmit card_limits) 1 (queue_at 1 w) m m' w w'
      (passing card.sent card.network.dropped) out
  pub is : card' ≡ record { network = record card.network { dropped = out.dropped }; sent = out.frames }

-- what a card does whose queue of this number is notified
abbrev pub ServesCard : Card → ℕ → Memory → Memory → WindowState → WindowState → Card → Type 0
ServesCard card zero m m' w w' card' = ReceivesFrames card m m' w w' card'
ServesCard card (suc zero) m m' w w' card' = TransmitsFrames card m m' w w' card'
ServesCard card (suc (suc q)) m m' w w' card' = NothingHappens m m' w w' card card'

-- ---- their pieces

-- A piece of a service of the receive queue: waiting frames go into the chains on offer, and more of it may be to come.
pub record ReceivesFramesIn (world : World) (stage : Stage) (limits : ServiceLimits) (progress : Progress) (card : Card)
    (m m' : world.Seen) (w w' : WindowState) (card' : Card) : Type 0 where
  pub left : Passing
  pub served : ReceivesIn world stage limits (queue_at 0 w) progress m m' w w' card.network.waiting left
  pub is : card' ≡ record card { network = record card.network { waiting = left } }

-- and one of the transmit queue
pub record TransmitsFramesIn (world : World) (stage : Stage) (limits : ServiceLimits) (progress : Progress) (card : Card)
    (m m' : world.Seen) (w w' : WindowState) (card' : Card) : Type 0 where
  pub out : Passing
  pub served : world.DoneTo (transmit card_limits) stage limits 1 (queue_at 1 w) progress m m' w w'
      (passing card.sent card.network.dropped) out
  pub is : card' ≡ record { network = record card.network { dropped = out.dropped }; sent = out.frames }

abbrev pub CardServesIn : (world : World) → Stage → ServiceLimits → Progress → Card → ℕ → world.Seen → world.Seen
    → WindowState → WindowState → Card → Type 0
CardServesIn world stage limits progress card zero m m' w w' card' =
    ReceivesFramesIn world stage limits progress card m m' w w' card'
CardServesIn world stage limits progress card (suc zero) m m' w w' card' =
    TransmitsFramesIn world stage limits progress card m m' w w' card'
CardServesIn world stage limits progress card (suc (suc q)) m m' w w' card' = (progress ≡ Done)
    × world.NothingHappens m m' w w' card card'

-- the same of a guest that stands still
abbrev pub ReceivesFramesTo : Stage → Budget → Progress → Card → Memory → Memory → WindowState → WindowState → Card → Type 0
ReceivesFramesTo stage budget = ReceivesFramesIn standing stage (one_round budget)

abbrev pub CardServesTo : Stage → Budget → Progress → Card → ℕ → Memory → Memory → WindowState → WindowState → Card
    → Type 0
CardServesTo stage budget = CardServesIn standing stage (one_round budget)

-- whether a chain is on offer in the receive queue and no frame waits for it
abbrev pub is_card_starving : Card → Memory → WindowState → Bool
is_card_starving card m w = length card.network.waiting.frames == 0 && is_offered m (queue_at 0 w)
