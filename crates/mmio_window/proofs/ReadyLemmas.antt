-- What a write leaves of a ready queue, by cases on the register.
use Rattle.std.proofs.Common.{◌≡◌, ◌==◌, ◌∙◌, ℕ, Bool, true, false, cond, Option, Some, None, refl, sym, ap}
use Rattle.std.specs.Prelude.{◌&&◌, IsSome, is_some, is_none, nat_lt}
use Rattle.std.specs.Option.{option_and_then, option_map_or}
use Rattle.guest_memory.specs.Memory.{Memory}
use Rattle.negotiation.specs.Features.{with_feature_word}
use Rattle.negotiation.specs.Negotiation.{NegotiationState, is_live, negotiated_of, with_status_written}
use Rattle.negotiation.specs.Sets.{has}
use Rattle.negotiation.specs.Status.{features_ok}
use Rattle.mmio_window.specs.declared.device_kind.QueueIndex.{QueueIndex}
use Rattle.mmio_window.specs.declared.device_kind.QueueIndex.TheVariants.{Queue0, Queue1}
use Rattle.mmio_window.specs.declared.interrupts.Interrupts.{Interrupts}
use Rattle.mmio_window.specs.declared.queue.Queue.{Queue}
use Rattle.mmio_window.specs.declared.queue_registers.QueueRegisters.{QueueRegisters}
use Rattle.mmio_window.specs.declared.register.Register.{Register}
use Rattle.mmio_window.specs.declared.register.Register.TheVariants.{QueueNum, QueueReady, QueueDescLow, QueueDescHigh, QueueDriverLow, QueueDriverHigh, QueueDeviceLow, QueueDeviceHigh}
use Rattle.mmio_window.specs.DeviceKind.{queue_of}
use Rattle.mmio_window.specs.QueueRegisters.{queue_written, ring_of, set_up}
use Rattle.mmio_window.specs.Reading.{configuration_offset}
use Rattle.mmio_window.specs.Ready.{GenerationStays, ReadyQueueOutlasts, ReadyQueueStays, stops_queues}
use Rattle.mmio_window.specs.Registers.{register_at}
use Rattle.mmio_window.specs.Window.{WindowState, registers_in, reset, with_registers_in}
use Rattle.mmio_window.specs.Writing.{register_written, written}
use Rattle.mmio_window.proofs.Writes.{written_by_cases}

-- ---- one queue

-- a write to QueueReady, by what it tests
ready_stays : (m : Memory) (features : ℕ) (old : QueueRegisters) (stops one settled : Bool)
    (ring : Option Queue) → old.ring ≡ ring → IsSome ring
    → IsSome (cond stops (record old { ring = None })
    (cond (one && is_none ring && settled) (record old { ring = ring_of m features old }) old)).ring
    → cond stops (record old { ring = None })
    (cond (one && is_none ring && settled) (record old { ring = ring_of m features old }) old) ≡ old
ready_stays m features old true one settled ring e was is = cc
ready_stays m features old false false settled ring e was is = refl
ready_stays m features old false true settled None e was is = cc
ready_stays m features old false true settled (Some ring) e was is = refl

set_up_stays : (old set : QueueRegisters) (ring : Option Queue) → IsSome ring
    → cond (is_some ring) old set ≡ old
set_up_stays old set None was = cc
set_up_stays old set (Some ring) was = refl

queue_stays : (register : Register) (value : ℕ) (m : Memory) (n : NegotiationState) (old : QueueRegisters)
    → IsSome old.ring
    → IsSome (queue_written register value m n old).ring → queue_written register value m n old ≡ old
queue_stays QueueReady value m n old was is =
    ready_stays m (negotiated_of n) old (value == 0) (value == 1) (has n.status features_ok)
    old.ring refl was is
queue_stays register value m n old was is = set_up_stays old (set_up register value old) old.ring was

-- ---- the window

-- what a write leaves of kind and generation, and of each queue
record Stays (old new : WindowState) : Type 0 where
  kind : new.kind ≡ old.kind
  generation : new.config_generation ≡ old.config_generation
  queue_0 : IsSome old.queue_0.ring → IsSome new.queue_0.ring → new.queue_0 ≡ old.queue_0
  queue_1 : IsSome old.queue_1.ring → IsSome new.queue_1.ring → new.queue_1 ≡ old.queue_1

Stays-self : (w : WindowState) → Stays w w
Stays-self w = record { kind = refl; generation = refl; queue_0 = λ was is. refl; queue_1 = λ was is. refl }

Stays-queue_written : (register : Register) (value : ℕ) (m : Memory) (w : WindowState)
    (queue : Option QueueIndex)
    → Stays w (with_registers_in queue (queue_written register value m w.negotiation) w)
Stays-queue_written register value m w None = Stays-self w
Stays-queue_written register value m w (Some Queue0) = record {
  kind = refl;
  generation = refl;
  queue_0 = λ was is. queue_stays register value m w.negotiation w.queue_0 was is;
  queue_1 = λ was is. refl;
}
Stays-queue_written register value m w (Some Queue1) = record {
  kind = refl;
  generation = refl;
  queue_0 = λ was is. refl;
  queue_1 = λ was is. queue_stays register value m w.negotiation w.queue_1 was is;
}

Stays-status_written : (value : ℕ) (w : WindowState) (zero_written : Bool)
    → Stays w (cond zero_written (reset w)
    (record w { negotiation = with_status_written value w.negotiation }))
Stays-status_written value w true =
    record { kind = refl; generation = refl; queue_0 = λ was is. cc; queue_1 = λ was is. cc }
Stays-status_written value w false =
    record { kind = refl; generation = refl; queue_0 = λ was is. refl; queue_1 = λ was is. refl }

Stays-register_written : (register : Register) (value : ℕ) (m : Memory) (w : WindowState)
    → Stays w (register_written register value m w)
Stays-register_written register value m w =
    written_by_cases (Stays w) (λ r. Unit {0}) value m w
    (λ (r : Register) is. Stays-queue_written r value m w (queue_of w.kind w.queue_sel))
    (λ is. Stays-status_written value w (value == 0))
    (record { kind = refl; generation = refl; queue_0 = λ was is. refl; queue_1 = λ was is. refl })
    (λ (device_sel driver_sel queue_sel shm_sel : ℕ) (interrupts : Interrupts).
    record { kind = refl; generation = refl; queue_0 = λ was is. refl; queue_1 = λ was is. refl })
    (Stays-self w) register tt

Stays-written : (answered : Bool) (register : Option Register) (value : ℕ) (m : Memory) (w : WindowState)
    → Stays w (cond answered (option_map_or (λ r. register_written r value m w) register w) w)
Stays-written true None value m w = Stays-self w
Stays-written true (Some register) value m w = Stays-register_written register value m w
Stays-written false register value m w = Stays-self w

stays_by_cases : (queue queue' : Option QueueIndex) (w w' : WindowState) (old new : QueueRegisters)
    → Stays w w' → queue' ≡ queue
    → registers_in queue w ≡ Some old → IsSome old.ring → registers_in queue' w' ≡ Some new
    → IsSome new.ring → new ≡ old
stays_by_cases None queue' w w' old new s same e was e' is = cc
stays_by_cases (Some Queue0) queue' w w' old new s same e was e' is =
    let o : w.queue_0 ≡ old = cc in
    let e'' : registers_in (Some Queue0) w' ≡ Some new = rw same at e' in
    let n : w'.queue_0 ≡ new = cc in
    sym n ∙ s.queue_0 (rw o was) (rw n is) ∙ o
stays_by_cases (Some Queue1) queue' w w' old new s same e was e' is =
    let o : w.queue_1 ≡ old = cc in
    let e'' : registers_in (Some Queue1) w' ≡ Some new = rw same at e' in
    let n : w'.queue_1 ≡ new = cc in
    sym n ∙ s.queue_1 (rw o was) (rw n is) ∙ o

pub ready_queue_stays : ReadyQueueStays
ready_queue_stays offset width value m w q old new e was e' is =
    let s = Stays-written (nat_lt offset configuration_offset && width == 4) (register_at offset) value m w in
    stays_by_cases (queue_of w.kind q) (queue_of (written offset width value m w).kind q) w
    (written offset width value m w) old new s
    (rw s.kind refl) e was e' is

pub generation_stays : GenerationStays
generation_stays offset width value m w =
    (Stays-written (nat_lt offset configuration_offset && width == 4) (register_at offset)
    value m w).generation

-- ---- a queue that outlasts a write

-- a write to a register of a queue, other than QueueReady
queue_held : (register : Register) (value : ℕ) (m : Memory) (n : NegotiationState) (old : QueueRegisters)
    → stops_queues register ≡ false
    → IsSome old.ring → queue_written register value m n old ≡ old
queue_held QueueReady value m n old stops was = cc
queue_held register value m n old stops was = set_up_stays old (set_up register value old) old.ring was

-- and one that isn't ready doesn't become so
set_up_ring : (register : Register) (value : ℕ) (old : QueueRegisters)
    → (set_up register value old).ring ≡ old.ring
set_up_ring QueueNum value old = refl
set_up_ring QueueDescLow value old = refl
set_up_ring QueueDescHigh value old = refl
set_up_ring QueueDriverLow value old = refl
set_up_ring QueueDriverHigh value old = refl
set_up_ring QueueDeviceLow value old = refl
set_up_ring QueueDeviceHigh value old = refl
set_up_ring register value old = refl

without_ring : (taken : Bool) (old other : QueueRegisters) → other.ring ≡ old.ring
    → (cond taken old other).ring ≡ old.ring
without_ring true old other same = refl
without_ring false old other same = same

queue_unset : (register : Register) (value : ℕ) (m : Memory) (n : NegotiationState) (old : QueueRegisters)
    → stops_queues register ≡ false
    → old.ring ≡ None → (queue_written register value m n old).ring ≡ None
queue_unset QueueReady value m n old stops was = cc
queue_unset register value m n old stops was =
    without_ring (is_some old.ring) old (set_up register value old) (set_up_ring register value old) ∙ was

-- kind and live stay, so does each ready queue, and no other becomes ready
record Holds (old new : WindowState) : Type 0 where
  kind : new.kind ≡ old.kind
  live : is_live new.negotiation ≡ is_live old.negotiation
  queue_0 : IsSome old.queue_0.ring → new.queue_0 ≡ old.queue_0
  queue_1 : IsSome old.queue_1.ring → new.queue_1 ≡ old.queue_1
  unset_0 : old.queue_0.ring ≡ None → new.queue_0.ring ≡ None
  unset_1 : old.queue_1.ring ≡ None → new.queue_1.ring ≡ None

Holds-self : (w : WindowState) → Holds w w
Holds-self w = record {
  kind = refl;
  live = refl;
  queue_0 = λ was. refl;
  queue_1 = λ was. refl;
  unset_0 = λ was. was;
  unset_1 = λ was. was;
}

Holds-queue : (register : Register) (value : ℕ) (m : Memory) (w : WindowState) (queue : Option QueueIndex)
    → stops_queues register ≡ false
    → Holds w (with_registers_in queue (queue_written register value m w.negotiation) w)
Holds-queue register value m w None stops = Holds-self w
Holds-queue register value m w (Some Queue0) stops =
    record {
      kind = refl;
      live = refl;
      queue_0 = queue_held register value m w.negotiation w.queue_0 stops;
      queue_1 = λ was. refl;
      unset_0 = queue_unset register value m w.negotiation w.queue_0 stops;
      unset_1 = λ was. was;
    }
Holds-queue register value m w (Some Queue1) stops =
    record {
      kind = refl;
      live = refl;
      queue_0 = λ was. refl;
      queue_1 = queue_held register value m w.negotiation w.queue_1 stops;
      unset_0 = λ was. was;
      unset_1 = queue_unset register value m w.negotiation w.queue_1 stops;
    }

live_by_test : (settled : Bool) (n : NegotiationState) (accepted : ℕ)
    → is_live (cond settled n (record n { accepted = accepted })) ≡ is_live n
live_by_test true n accepted = refl
live_by_test false n accepted = refl

Holds-register_written : (register : Register) (value : ℕ) (m : Memory) (w : WindowState)
    → stops_queues register ≡ false → Holds w (register_written register value m w)
Holds-register_written register value m w =
    written_by_cases (Holds w) (λ r. stops_queues r ≡ false) value m w
    (λ (r : Register) stops. Holds-queue r value m w (queue_of w.kind w.queue_sel) stops)
    (λ stops. cc)
    (record {
      kind = refl;
      live = live_by_test (has w.negotiation.status features_ok) w.negotiation
          (with_feature_word w.driver_features_sel value w.negotiation.accepted);
      queue_0 = λ was. refl;
      queue_1 = λ was. refl;
      unset_0 = λ was. was;
      unset_1 = λ was. was;
    })
    (λ (device_sel driver_sel queue_sel shm_sel : ℕ) (interrupts : Interrupts).
    record {
      kind = refl;
      live = refl;
      queue_0 = λ was. refl;
      queue_1 = λ was. refl;
      unset_0 = λ was. was;
      unset_1 = λ was. was;
    })
    (Holds-self w) register

Holds-written : (answered : Bool) (register : Option Register) (value : ℕ) (m : Memory) (w : WindowState)
    → option_map_or stops_queues register false ≡ false
    → Holds w (cond answered (option_map_or (λ r. register_written r value m w) register w) w)
Holds-written true None value m w stops = Holds-self w
Holds-written true (Some register) value m w stops = Holds-register_written register value m w stops
Holds-written false register value m w stops = Holds-self w

ready_held : (queue : Option QueueIndex) (w w' : WindowState) (registers : QueueRegisters) → Holds w w'
    → registers_in queue w ≡ Some registers → IsSome registers.ring → registers_in queue w' ≡ Some registers
ready_held None w w' registers h e is = cc
ready_held (Some Queue0) w w' registers h e is = let o : w.queue_0 ≡ registers = cc in
    ap Some (h.queue_0 (rw o is) ∙ o)
ready_held (Some Queue1) w w' registers h e is = let o : w.queue_1 ≡ registers = cc in
    ap Some (h.queue_1 (rw o is) ∙ o)

some_ring : (ring : Option Queue) (queue : Queue) → ring ≡ Some queue → IsSome ring
some_ring None queue e = cc
some_ring (Some ring) queue e = refl

served_held : (live : Bool) (queue : Option QueueIndex) (w w' : WindowState) (ring : Queue) → Holds w w'
    → cond live (option_and_then (λ registers. registers.ring) (registers_in queue w)) None ≡ Some ring
    → cond live (option_and_then (λ registers. registers.ring) (registers_in queue w')) None ≡ Some ring
served_held false queue w w' ring h e = absurd (cc)
served_held true None w w' ring h e = absurd (cc)
served_held true (Some Queue0) w w' ring h e =
    ap (λ (r : QueueRegisters). r.ring) (h.queue_0 (some_ring w.queue_0.ring ring e)) ∙ e
served_held true (Some Queue1) w w' ring h e =
    ap (λ (r : QueueRegisters). r.ring) (h.queue_1 (some_ring w.queue_1.ring ring e)) ∙ e

unserved_held : (live : Bool) (queue : Option QueueIndex) (w w' : WindowState) → Holds w w'
    → cond live (option_and_then (λ registers. registers.ring) (registers_in queue w)) None ≡ None
    → cond live (option_and_then (λ registers. registers.ring) (registers_in queue w')) None ≡ None
unserved_held false queue w w' h e = refl
unserved_held true None w w' h e = refl
unserved_held true (Some Queue0) w w' h e = h.unset_0 e
unserved_held true (Some Queue1) w w' h e = h.unset_1 e

pub ready_queue_outlasts : ReadyQueueOutlasts
ready_queue_outlasts offset width value m w stops =
    let h = Holds-written (nat_lt offset configuration_offset && width == 4)
    (register_at offset) value m w stops in
    let w' = written offset width value m w in
    record {
      ready = λ q registers e is. rw h.kind (ready_held (queue_of w.kind q) w w' registers h e is);
      served = λ q queue e. rw (h.kind, h.live)
          (served_held (is_live w.negotiation) (queue_of w.kind q) w w' queue h e);
      unserved = λ q e. rw (h.kind, h.live)
          (unserved_held (is_live w.negotiation) (queue_of w.kind q) w w' h e);
    }
