-- What keeps a window sound: first of one queue, then of the registers by cases, and then of a window.
use Rattle.std.proofs.Common.{◌≡◌, ◌==◌, ◌∙◌, ℕ, Bool, true, false, cond, Option, Some, None, refl, sym, ap, subst, arith}
use Rattle.std.proofs.lemmas.Grind.{common_steps}
use Rattle.std.specs.Prelude.{◌&&◌, IfSome, is_some, is_none, [], ◌∷◌}
use Rattle.std.specs.Option.{option_and_then}
use Rattle.std.proofs.lemmas.List.Elements.{All-cons, All-nil}
use Rattle.guest_memory.specs.Memory.{Memory, SameRange}
use Rattle.negotiation.specs.History.{Change, Keeps, changed, is_reset, StatusWritten, FeaturesWritten}
use Rattle.negotiation.specs.Negotiation.{NegotiationState, is_live, negotiated_of, with_features_written, with_status_written}
use Rattle.negotiation.specs.Sets.{has, Has}
use Rattle.negotiation.specs.Status.{features_ok}
use Rattle.negotiation.proofs.BitLemmas.{Has-trans}
use Rattle.negotiation.proofs.HistoryLemmas.{only_reset_clears}
use Rattle.mmio_window.specs.declared.device_kind.QueueIndex.{QueueIndex}
use Rattle.mmio_window.specs.declared.device_kind.QueueIndex.TheVariants.{Queue0, Queue1}
use Rattle.mmio_window.specs.declared.interrupts.Interrupts.{Interrupts}
use Rattle.mmio_window.specs.declared.queue.Queue.{Queue}
use Rattle.mmio_window.specs.declared.queue_registers.QueueRegisters.{QueueRegisters}
use Rattle.mmio_window.specs.declared.register.Register.{Register}
use Rattle.mmio_window.specs.declared.register.Register.TheVariants.{QueueReady}
use Rattle.mmio_window.specs.Queue.{made_as}
use Rattle.mmio_window.specs.QueueRegisters.{queue_written, ring_of, set_up, with_ready_written}
use Rattle.mmio_window.specs.Soundness.{HasItsRing, IsRingOf, IsSound, ReadyQueueIsItsRing, ServingKeepsSound, SoundForTheRange}
use Rattle.mmio_window.specs.DeviceKind.{queue_of}
use Rattle.mmio_window.specs.Window.{WindowState, registers_in, reset, with_registers_in}
use Rattle.mmio_window.specs.Writing.{register_written, with_queue_written}
use Rattle.mmio_window.proofs.Writes.{written_by_cases}
use Rattle.mmio_window.proofs.Rings.{LiesIn-same, is_made, ring_of-same}

-- ---- one queue

-- the negotiated features are the accepted ones once FEATURES_OK stands
negotiated_of-settled : (n : NegotiationState) → Has n.status features_ok → negotiated_of n ≡ n.accepted
negotiated_of-settled n settled = let stands : has n.status features_ok ≡ true =
    grind (arith, common_steps) in rw stands refl

-- a ring stays its queue's while settled features stay
IsRingOf-kept : (m : Memory) (n n' : NegotiationState) (registers : QueueRegisters) (ring : Queue)
    → Keeps n n'
    → IsRingOf m n registers ring → IsRingOf m n' registers ring
IsRingOf-kept m n n' registers ring keeps r =
    let settled : Has n'.status features_ok =
    Has-trans n'.status n.status features_ok keeps.status r.settled in
    let same : negotiated_of n' ≡ negotiated_of n = negotiated_of-settled n' settled ∙ keeps.settled r.settled
    ∙ sym (negotiated_of-settled n r.settled) in
    record { settled = settled; made = rw same r.made; lies = r.lies }

kept_if_ready : (m : Memory) (n n' : NegotiationState) (registers : QueueRegisters) (ring : Option Queue)
    → Keeps n n'
    → IfSome ring (IsRingOf m n registers) → IfSome ring (IsRingOf m n' registers)
kept_if_ready m n n' registers None keeps h = h
kept_if_ready m n n' registers (Some ring) keeps h = IsRingOf-kept m n n' registers ring keeps h

pub HasItsRing-kept : (m : Memory) (n n' : NegotiationState) (registers : QueueRegisters) → Keeps n n'
    → HasItsRing m n registers → HasItsRing m n' registers
HasItsRing-kept m n n' registers keeps h = kept_if_ready m n n' registers registers.ring keeps h

-- a ring that a queue is given is its own
given_ring : (m : Memory) (n : NegotiationState) (registers : QueueRegisters) (ring : Option Queue)
    → Has n.status features_ok
    → ring_of m (negotiated_of n) registers ≡ ring
    → IfSome ring (IsRingOf m n (record registers { ring = ring }))
given_ring m n registers None settled e = tt
given_ring m n registers (Some ring) settled e =
    let made = is_made m (negotiated_of n) registers ring e in
    record { settled = settled; made = e ∙ ap Some (sym made.fresh); lies = made.lies }

-- a write to QueueReady, by what it tests
ready_by_tests : (m : Memory) (n : NegotiationState) (registers : QueueRegisters) (stops makes : Bool)
    → (makes ≡ true → Has n.status features_ok) → HasItsRing m n registers
    → HasItsRing m n (cond stops (record registers { ring = None })
    (cond makes (record registers { ring = ring_of m (negotiated_of n) registers }) registers))
ready_by_tests m n registers true makes settled h = tt
ready_by_tests m n registers false true settled h =
    given_ring m n registers (ring_of m (negotiated_of n) registers) (settled refl) refl
ready_by_tests m n registers false false settled h = h

HasItsRing-ready_written : (value : ℕ) (m : Memory) (n : NegotiationState) (registers : QueueRegisters)
    → HasItsRing m n registers
    → HasItsRing m n (with_ready_written value m n registers)
HasItsRing-ready_written value m n registers h =
    ready_by_tests m n registers (value == 0)
    (value == 1 && is_none registers.ring && has n.status features_ok)
    (λ e. grind (arith, common_steps)) h

-- what is set up is no ring
ring-set_up : (register : Register) (value : ℕ) (registers : QueueRegisters)
    → (set_up register value registers).ring ≡ registers.ring
ring-set_up register value registers = grind (arith, common_steps)

-- a queue without a ring has no ring that isn't its own
HasItsRing-none : (m : Memory) (n : NegotiationState) (registers : QueueRegisters) (ring : Option Queue)
    → is_some ring ≡ false
    → registers.ring ≡ ring → HasItsRing m n registers
HasItsRing-none m n registers None absent e = rw e tt
HasItsRing-none m n registers (Some ring) absent e = cc

set_up_by_test : (register : Register) (value : ℕ) (m : Memory) (n : NegotiationState)
    (registers : QueueRegisters) (ready : Bool)
    → is_some registers.ring ≡ ready → HasItsRing m n registers
    → HasItsRing m n (cond ready registers (set_up register value registers))
set_up_by_test register value m n registers true e h = h
set_up_by_test register value m n registers false e h =
    HasItsRing-none m n (set_up register value registers) registers.ring e
    (ring-set_up register value registers)

-- a write to a register of the queue
pub HasItsRing-written : (register : Register) (value : ℕ) (m : Memory) (n : NegotiationState)
    (registers : QueueRegisters) → HasItsRing m n registers
    → HasItsRing m n (queue_written register value m n registers)
HasItsRing-written QueueReady value m n registers h = HasItsRing-ready_written value m n registers h
HasItsRing-written register value m n registers h =
    set_up_by_test register value m n registers (is_some registers.ring) refl h

-- ---- the window

-- a change that is no reset keeps what is settled
Keeps-changed : (n : NegotiationState) (change : Change) → is_reset change ≡ false
    → Keeps n (changed change n)
Keeps-changed n change e =
    only_reset_clears n (change ∷ [])
    (All-cons (λ c. is_reset c ≡ false) change [] e (All-nil (λ c. is_reset c ≡ false)))

-- a window stays sound where its settled features stay
IsSound-negotiation : (m : Memory) (w : WindowState) (n : NegotiationState) → Keeps w.negotiation n
    → IsSound m w → IsSound m (record w { negotiation = n })
IsSound-negotiation m w n keeps sound = record {
  queue_0 = HasItsRing-kept m w.negotiation n w.queue_0 keeps sound.queue_0;
  queue_1 = HasItsRing-kept m w.negotiation n w.queue_1 keeps sound.queue_1;
}

registers_by_cases : (m : Memory) (w : WindowState) (change : QueueRegisters → QueueRegisters)
    (queue : Option QueueIndex)
    → ((registers : QueueRegisters) → HasItsRing m w.negotiation registers
    → HasItsRing m w.negotiation (change registers)) → IsSound m w
    → IsSound m (with_registers_in queue change w)
registers_by_cases m w change None kept sound = sound
registers_by_cases m w change (Some Queue0) kept sound =
    record { queue_0 = kept w.queue_0 sound.queue_0; queue_1 = sound.queue_1 }
registers_by_cases m w change (Some Queue1) kept sound =
    record { queue_0 = sound.queue_0; queue_1 = kept w.queue_1 sound.queue_1 }

IsSound-queue_written : (register : Register) (value : ℕ) (m : Memory) (w : WindowState) → IsSound m w
    → IsSound m (with_queue_written register value m w)
IsSound-queue_written register value m w sound =
    registers_by_cases m w (queue_written register value m w.negotiation) (queue_of w.kind w.queue_sel)
    (HasItsRing-written register value m w.negotiation) sound

status_by_test : (value : ℕ) (m : Memory) (w : WindowState) (zero_written : Bool)
    → (value == 0) ≡ zero_written → IsSound m w
    → IsSound m (cond zero_written (reset w)
    (record w { negotiation = with_status_written value w.negotiation }))
status_by_test value m w true e sound = record { queue_0 = tt; queue_1 = tt }
status_by_test value m w false e sound =
    IsSound-negotiation m w (with_status_written value w.negotiation)
    (Keeps-changed w.negotiation (StatusWritten value) e) sound

-- a write to a register
pub IsSound-register_written : (register : Register) (value : ℕ) (m : Memory) (w : WindowState) → IsSound m w
    → IsSound m (register_written register value m w)
IsSound-register_written register value m w sound =
    written_by_cases (λ (new : WindowState). IsSound m new) (λ r. Unit {0}) value m w
    (λ (r : Register) is. IsSound-queue_written r value m w sound)
    (λ is. status_by_test value m w (value == 0) refl sound)
    (IsSound-negotiation m w (with_features_written w.driver_features_sel value w.negotiation)
    (Keeps-changed w.negotiation (FeaturesWritten w.driver_features_sel value) refl) sound)
    (λ (device_sel driver_sel queue_sel shm_sel : ℕ) (interrupts : Interrupts).
    record { queue_0 = sound.queue_0; queue_1 = sound.queue_1 })
    sound register tt

-- ---- a service

-- a queue's ring after a service of it is its own
IsRingOf-served : (old new : Memory) (n : NegotiationState) (registers : QueueRegisters) (ring served : Queue)
    → SameRange old new
    → made_as served ≡ made_as ring → IsRingOf old n registers ring
    → IsRingOf new n (record registers { ring = Some served }) served
IsRingOf-served old new n registers ring served same e r = record {
  settled = r.settled;
  made = ring_of-same old new (negotiated_of n) registers same ∙ r.made ∙ ap Some (sym e);
  lies = LiesIn-same old new ring served same e r.lies;
}

-- another queue's ring is where it was
IsRingOf-same_range : (old new : Memory) (n : NegotiationState) (registers : QueueRegisters) (ring : Queue)
    → SameRange old new
    → IsRingOf old n registers ring → IsRingOf new n registers ring
IsRingOf-same_range old new n registers ring same r = record {
  settled = r.settled;
  made = ring_of-same old new (negotiated_of n) registers same ∙ r.made;
  lies = LiesIn-same old new ring ring same refl r.lies;
}

same_range_if_ready : (old new : Memory) (n : NegotiationState) (registers : QueueRegisters)
    (ring : Option Queue) → SameRange old new
    → IfSome ring (IsRingOf old n registers) → IfSome ring (IsRingOf new n registers)
same_range_if_ready old new n registers None same h = h
same_range_if_ready old new n registers (Some ring) same h =
    IsRingOf-same_range old new n registers ring same h

-- a sound window is so for every memory of the same range
pub IsSound-same_range : (old new : Memory) (w : WindowState) → SameRange old new
    → IsSound old w → IsSound new w
IsSound-same_range old new w same sound = record {
  queue_0 = same_range_if_ready old new w.negotiation w.queue_0 w.queue_0.ring same sound.queue_0;
  queue_1 = same_range_if_ready old new w.negotiation w.queue_1 w.queue_1.ring same sound.queue_1;
}

-- what a ready queue has
holds_at_some : (P : Queue → Type 0) (ready : Option Queue) (ring : Queue) → ready ≡ Some ring
    → IfSome ready P → P ring
holds_at_some P ready ring e h = rw e at h

ready_has : (m : Memory) (n : NegotiationState) (registers : QueueRegisters) (ring : Queue)
    → registers.ring ≡ Some ring → HasItsRing m n registers
    → IsRingOf m n registers ring
ready_has m n registers ring e h = holds_at_some (IsRingOf m n registers) registers.ring ring e h

served_by_cases : (old new : Memory) (w : WindowState) (live : Bool) (queue : Option QueueIndex)
    (ring served : Queue) → IsSound old w → SameRange old new
    → cond live (option_and_then (λ registers. registers.ring) (registers_in queue w)) None ≡ Some ring
    → made_as served ≡ made_as ring
    → IsSound new (with_registers_in queue (λ registers. record registers { ring = Some served }) w)
served_by_cases old new w false queue ring served sound same e as_made = cc
served_by_cases old new w true None ring served sound same e as_made = cc
served_by_cases old new w true (Some Queue0) ring served sound same e as_made =
    let others = IsSound-same_range old new w same sound in
    record {
      queue_0 = IsRingOf-served old new w.negotiation w.queue_0 ring served same as_made
          (ready_has old w.negotiation w.queue_0 ring e sound.queue_0);
      queue_1 = others.queue_1;
    }
served_by_cases old new w true (Some Queue1) ring served sound same e as_made =
    let others = IsSound-same_range old new w same sound in
    record {
      queue_0 = others.queue_0;
      queue_1 = IsRingOf-served old new w.negotiation w.queue_1 ring served same as_made
          (ready_has old w.negotiation w.queue_1 ring e sound.queue_1);
    }

-- a sound window stays so while its device serves a queue
pub serving_keeps_sound : ServingKeepsSound
serving_keeps_sound old new w q ring served sound same e as_made =
    served_by_cases old new w (is_live w.negotiation) (queue_of w.kind q) ring served sound same e as_made

-- and for every memory of the range
pub sound_for_the_range : SoundForTheRange
sound_for_the_range old new w sound same = IsSound-same_range old new w same sound

-- the ready queue of a sound window is its ring
its_ring_by_cases : (m : Memory) (w : WindowState) (queue : Option QueueIndex) (registers : QueueRegisters)
    (ring : Queue) → IsSound m w
    → registers_in queue w ≡ Some registers → registers.ring ≡ Some ring
    → IsRingOf m w.negotiation registers ring
its_ring_by_cases m w None registers ring sound e ready = cc
its_ring_by_cases m w (Some Queue0) registers ring sound e ready =
    let same : w.queue_0 ≡ registers = cc in
    ready_has m w.negotiation registers ring ready (subst (HasItsRing m w.negotiation) same sound.queue_0)
its_ring_by_cases m w (Some Queue1) registers ring sound e ready =
    let same : w.queue_1 ≡ registers = cc in
    ready_has m w.negotiation registers ring ready (subst (HasItsRing m w.negotiation) same sound.queue_1)

pub ready_queue_is_its_ring : ReadyQueueIsItsRing
ready_queue_is_its_ring m w q registers ring sound e ready =
    its_ring_by_cases m w (queue_of w.kind q) registers ring sound e ready
