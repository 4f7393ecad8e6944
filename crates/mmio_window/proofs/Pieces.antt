-- A service in pieces, as a window shows it: the queue that stands open is the one that goes on.
use Rattle.std.proofs.Common.{◌≡◌, ℕ, Bool, true, false, cond, Option, Some, None, refl, ap, ◌∙◌, inl, inr}
use Rattle.std.specs.Option.{option_and_then}
use Rattle.guest_memory.specs.Memory.{Memory}
use Rattle.negotiation.specs.Negotiation.{is_live}
use Rattle.chain.specs.declared.budget.Budget.{Budget}
use Rattle.chain.specs.declared.budget.Progress.{Progress}
use Rattle.chain.specs.declared.budget.Progress.TheVariants.{More, Done}
use Rattle.chain.specs.Service.{Device, Ending}
use Rattle.chain.proofs.Pieces.{part_goes_on, part_to_end}
use Rattle.mmio_window.specs.declared.device_kind.QueueIndex.{QueueIndex}
use Rattle.mmio_window.specs.declared.device_kind.QueueIndex.TheVariants.{Queue0, Queue1}
use Rattle.mmio_window.specs.declared.queue.Queue.{Queue}
use Rattle.mmio_window.specs.DeviceKind.{queue_of}
use Rattle.mmio_window.specs.Pieces.{BeginsTo, EndsIn, GoesOnIn, IsNotifiedWithin, IsPaused, NotifiedWithin, PausesIn}
use Rattle.mmio_window.specs.Queue.{queue_kind}
use Rattle.mmio_window.specs.Serving.{Notified, ServesQueue, after_service}
use Rattle.mmio_window.specs.Window.{WindowState, queue_at, registers_in, with_registers_in, with_ring}

-- ---- the queue in the window

-- another ring in place of one that was put there
ring_twice : (queue : Option QueueIndex) (w : WindowState) (a b : Queue)
    → with_registers_in queue (λ registers. record registers { ring = Some b })
    (with_registers_in queue (λ registers. record registers { ring = Some a }) w)
    ≡ with_registers_in queue (λ registers. record registers { ring = Some b }) w
ring_twice None w a b = refl
ring_twice (Some Queue0) w a b = refl
ring_twice (Some Queue1) w a b = refl

same_kind : (queue : Option QueueIndex) (w : WindowState) (a : Queue)
    → (with_registers_in queue (λ registers. record registers { ring = Some a }) w).kind ≡ w.kind
same_kind None w a = refl
same_kind (Some Queue0) w a = refl
same_kind (Some Queue1) w a = refl

pub with_ring_twice : (q : ℕ) (w : WindowState) (a b : Queue)
    → with_ring q (with_ring q w a) b ≡ with_ring q w b
with_ring_twice q w a b =
    ap (λ kind. with_registers_in (queue_of kind q) (λ registers. record registers { ring = Some b })
    (with_ring q w a)) (same_kind (queue_of w.kind q) w a)
    ∙ ring_twice (queue_of w.kind q) w a b

-- the ring that was put there is the one that the device may serve next
ring_there : (live : Bool) (index : Option QueueIndex) (w : WindowState) (queue last : Queue)
    → cond live (option_and_then (λ registers. registers.ring) (registers_in index w)) None ≡ Some queue
    → cond live (option_and_then (λ registers. registers.ring)
    (registers_in index (with_registers_in index (λ registers. record registers { ring = Some last }) w)))
    None ≡ Some last
ring_there false index w queue last e = absurd (cc)
ring_there true None w queue last e = absurd (cc)
ring_there true (Some Queue0) w queue last e = refl
ring_there true (Some Queue1) w queue last e = refl

same_negotiation : (queue : Option QueueIndex) (w : WindowState) (a : Queue)
    → (with_registers_in queue (λ registers. record registers { ring = Some a }) w).negotiation
    ≡ w.negotiation
same_negotiation None w a = refl
same_negotiation (Some Queue0) w a = refl
same_negotiation (Some Queue1) w a = refl

pub with_ring_negotiation : (q : ℕ) (w : WindowState) (a : Queue) → (with_ring q w a).negotiation ≡ w.negotiation
with_ring_negotiation q w a = same_negotiation (queue_of w.kind q) w a

-- So a service that pauses finds its queue there.
pub queue_stands_open : (q : ℕ) (w : WindowState) (queue last : Queue) → queue_at q w ≡ Some queue
    → queue_at q (with_ring q w last) ≡ Some last
queue_stands_open q w queue last e =
    let there = ring_there (is_live w.negotiation) (queue_of w.kind q) w queue last e in
    let live = ap is_live (same_negotiation (queue_of w.kind q) w last) in
    let index = ap (λ kind. queue_of kind q) (same_kind (queue_of w.kind q) w last) in
    ap (λ l. cond l (option_and_then (λ registers. registers.ring)
    (registers_in (queue_of (with_ring q w last).kind q) (with_ring q w last))) None) live
    ∙ ap (λ i. cond (is_live w.negotiation)
    (option_and_then (λ registers. registers.ring) (registers_in i (with_ring q w last))) None) index
    ∙ there

-- ---- pieces, joined

module _ {State : Type 0} (device : Device State) where
  -- a service that pauses is paused
  pub pauses_first : (budget : Budget) (q : ℕ) (queue : Queue) (old new : Memory)
      (before after : WindowState) (s s' : State)
      → PausesIn device budget q queue old new before after s s'
      → IsPaused device q queue old new before after s s'
  pauses_first budget q queue old new before after s s' p = record {
    last = p.last;
    part = record { opens = p.begins.opens; course = p.begins.pauses.course };
    window = p.window;
  }

  -- One that goes on and pauses again is.
  pub pauses_again : (budget : Budget) (q : ℕ) (queue : Queue) (m0 m1 m2 : Memory)
      (w0 w1 w2 : WindowState) (s0 s1 s2 : State)
      → (p : IsPaused device q queue m0 m1 w0 w1 s0 s1) → GoesOnIn device budget q p.last m1 m2 w1 w2 s1 s2
      → IsPaused device q queue m0 m2 w0 w2 s0 s2
  pauses_again budget q queue m0 m1 m2 w0 w1 w2 s0 s1 s2 p g = record {
    last = g.last;
    part = part_goes_on queue_kind device (record { memory = m0; ring = queue; state = s0 })
        (record { memory = m1; ring = p.last; state = s1 })
        (record { memory = m2; ring = g.last; state = s2 }) p.part g.pauses.course;
    window = g.window ∙ ap (λ w. with_ring q w g.last) p.window ∙ with_ring_twice q w0 p.last g.last;
  }

  -- One that goes to its end is one service of the queue, as a notification that never paused has it.
  pub paused_to_end : (budget : Budget) (q : ℕ) (queue : Queue) (ending : Ending) (m0 m1 m2 : Memory)
      (w0 w1 w2 : WindowState) (s0 s1 s2 : State)
      → (p : IsPaused device q queue m0 m1 w0 w1 s0 s1)
      → EndsIn device budget q p.last m1 m2 w1 w2 s1 s2 ending
      → ServesQueue device q queue ending m0 m2 w0 w2 s0 s2
  paused_to_end budget q queue ending m0 m1 m2 w0 w1 w2 s0 s1 s2 p g = record {
    last = g.last;
    wanted = g.wanted;
    service = part_to_end queue_kind device (record { memory = m0; ring = queue; state = s0 })
        (record { memory = m1; ring = p.last; state = s1 })
        (record { memory = m2; ring = g.last; state = s2 }) ending g.wanted p.part g.ends.ends;
    window = g.window ∙ ap (λ w. after_service ending g.wanted w) (ap (λ w. with_ring q w g.last) p.window
        ∙ with_ring_twice q w0 p.last g.last);
  }

  -- A service in one piece is a service.
  pub notified_once : (budget : Budget) (q : ℕ) (queue : Option Queue) (ending : Ending) (old new : Memory)
      (before after : WindowState) (s s' : State)
      → NotifiedWithin device budget q queue ending old new before after s s'
      → Notified device q queue ending old new before after s s'
  notified_once budget q None ending old new before after s s' h = h
  notified_once budget q (Some queue) ending old new before after s s' h =
      record { last = h.last; wanted = h.wanted; service = h.service.service; window = h.window }

  -- Without limits there is no pause.
  pub never_pauses : (budget : Budget) (q : ℕ) (queue : Option Queue) (progress : Progress) (old new : Memory)
      (before after : WindowState) (s s' : State)
      → budget.chains ≡ None → budget.bytes ≡ None
      → BeginsTo device budget q queue progress old new before after s s'
      → IsNotifiedWithin device budget q queue old new before after s s'
  never_pauses budget q queue Done old new before after s s' c b h = h
  never_pauses budget q None More old new before after s s' c b h = absurd h
  never_pauses budget q (Some queue) More old new before after s s' c b h =
      absurd (elim h.begins.pauses.spent [ inl e ↦ cc | inr e ↦ cc ])
