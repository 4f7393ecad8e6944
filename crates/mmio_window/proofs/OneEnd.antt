-- A notification leaves what it leaves: from a state at which a device has at most one service there is one end.
use Rattle.std.proofs.Common.{◌≡◌, ℕ, Bool, Option, Some, None, sym, ◌∙◌, ap}
use Rattle.guest_memory.specs.Memory.{Memory}
use Rattle.chain.specs.Service.{Device, Site, Ending, IsService}
use Rattle.mmio_window.specs.declared.queue.Queue.{Queue}
use Rattle.mmio_window.specs.Queue.{queue_kind}
use Rattle.mmio_window.specs.Serving.{IsNotified, after_service}
use Rattle.mmio_window.specs.Window.{WindowState, with_ring}

-- what two services leave is the same
pub record SameEnd {State : Type 0} (m n : Memory) (v w : WindowState) (s t : State) : Type 0 where
  pub memory : m ≡ n
  pub window : v ≡ w
  pub state : s ≡ t

-- from a state there is at most one service
abbrev pub HasOneService : {State : Type 0} → Device State → State → Type 0
HasOneService {State} device s =
    (m : Memory) (queue : Queue) (a b : Site Queue State) (e f : Ending) (v w : Bool)
    → IsService queue_kind device (record { memory = m; ring = queue; state = s }) a e v
    → IsService queue_kind device (record { memory = m; ring = queue; state = s }) b f w
    → (a ≡ b) × (e ≡ f) × (v ≡ w)

pub one_end : {State : Type 0} (device : Device State) (q : ℕ) (queue : Option Queue) (old m n : Memory)
    (before v w : WindowState) (s0 s t : State) → HasOneService device s0
    → IsNotified device q queue old m before v s0 s → IsNotified device q queue old n before w s0 t
    → SameEnd m n v w s t
one_end device q None old m n before v w s0 s t once a b = record {
  memory = a.notified.1.memory ∙ sym b.notified.1.memory;
  window = a.notified.1.window ∙ sym b.notified.1.window;
  state = a.notified.1.state ∙ sym b.notified.1.state;
}
one_end {State} device q (Some queue) old m n before v w s0 s t once a b =
    let x = a.notified in
    let y = b.notified in
    let one : Site Queue State = record { memory = m; ring = x.last; state = s } in
    let other : Site Queue State = record { memory = n; ring = y.last; state = t } in
    let same = once old queue one other a.ending b.ending x.wanted y.wanted x.service y.service in
    let ring : x.last ≡ y.last = ap (λ (z : Site Queue State). z.ring) same.0 in
    record {
      memory = ap (λ (z : Site Queue State). z.memory) same.0;
      window = x.window ∙ (ap (λ (r : Queue). after_service a.ending x.wanted (with_ring q before r)) ring
          ∙ (ap (λ (e : Ending). after_service e x.wanted (with_ring q before y.last)) same.1
          ∙ (ap (λ (z : Bool). after_service b.ending z (with_ring q before y.last)) same.2 ∙ sym y.window)));
      state = ap (λ (z : Site Queue State). z.state) same.0;
    }
