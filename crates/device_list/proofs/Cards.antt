-- A network card: each of its queues serves a chain or leaves it, and a piece of the receive queue that ends is the end of
-- the whole.
use Rattle.std.proofs.Common.{◌≡◌, ◌≢◌, arith, refl, ap, ◌∙◌, inl, inr}
use Rattle.std.proofs.lemmas.List.{drop_all}
use Rattle.guest_memory.specs.Memory.{Memory}
use Rattle.chain.specs.declared.budget.Budget.{Budget}
use Rattle.chain.specs.declared.budget.Progress.TheVariants.{Done}
use Rattle.chain.specs.Service.{Decides, Ending, Spent, Faulted, Refused}
use Rattle.mmio_window.specs.declared.stage.Stage.{Stage}
use Rattle.mmio_window.specs.Pieces.{CompletesAt}
use Rattle.mmio_window.specs.Serving.{Notified}
use Rattle.mmio_window.specs.Window.{WindowState, queue_at}
use Rattle.network_device.specs.declared.limits.Limits.{Limits}
use Rattle.network_device.specs.Device.{Delivers, Passing, misfits, receive, transmit}
use Rattle.device_list.specs.Card.{Card, ReceivesFrames, ReceivesFramesTo, kept_behind}
use Rattle.device_list.proofs.Services.{answers}

-- ---- each queue decides whether it serves a chain or leaves it

pub receive_decides : Decides receive
receive_decides = record {
  never_both = λ waiting readable w g (p : Delivers waiting w g) lacks.
      (let none = drop_all (misfits w waiting.frames) waiting.frames (omega (arith, lacks)) in cc (none, p.first));
}

pub transmit_decides : (limits : Limits) → Decides (transmit limits)
transmit_decides limits = record {
  never_both = λ out readable w g gives lacks. (let room = gives.1 lacks.0 in cc (room, lacks.1));
}

-- ---- what waits

-- the card for whose driver these frames wait
abbrev pub with_waiting : Card → Passing → Card
with_waiting card waiting = record card { network = record card.network { waiting = waiting } }

-- and the one for whose host these wait
abbrev pub with_sent : Card → Passing → Card
with_sent card out = record { network = record card.network { dropped = out.dropped }; sent = out.frames }

all_kept : (ending : Ending) (waiting : Passing) → ending ≢ Refused → waiting ≡ kept_behind ending waiting
all_kept Spent waiting n = refl
all_kept (Faulted fault) waiting n = refl
all_kept Refused waiting n = absurd (n refl)

-- A piece that ends is the end of the whole, where each end of the piece is one of the whole.
pub receives_whole : (stage : Stage) (budget : Budget) (card : Card) (left : Passing) (m0 m1 m2 : Memory)
    (w0 w1 w2 : WindowState) (card' : Card)
    → ((ending : Ending) (last : Passing)
    → CompletesAt stage receive budget 0 (queue_at 0 w1) ending m1 m2 w1 w2 left last
    → Notified receive 0 (queue_at 0 w0) ending m0 m2 w0 w2 card.network.waiting last)
    → ReceivesFramesTo stage budget Done (with_waiting card left) m1 m2 w1 w2 card'
    → ReceivesFrames card m0 m2 w0 w2 card'
receives_whole stage budget card left m0 m1 m2 w0 w1 w2 card' whole h = elim h.served [
  | inl fits ↦
      let a = answers receive budget 0 m1 m2 w1 w2 left h.left stage (queue_at 0 w1) fits in
      record {
        ending = a.ending;
        last = h.left;
        notified = whole a.ending h.left a.completes;
        is = h.is ∙ ap (λ (p : Passing). with_waiting card p) (all_kept a.ending h.left a.answered);
      }
  | inr ends ↦ record {
    ending = Refused;
    last = ends.1.last;
    notified = whole Refused ends.1.last ends.1.refused;
    is = h.is ∙ ap (λ (p : Passing). with_waiting card p) ends.1.dropped;
  }
]
