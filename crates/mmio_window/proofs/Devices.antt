-- A window stays that of its device: whatever is written to it and however its queues are served, its kind
-- and the features that it offers stay, and ConfigGeneration where its configuration never changes.
use Rattle.std.proofs.Common.{◌≡◌, ◌==◌, ◌∙◌, ℕ, Bool, true, false, Option, Some, None, ap, refl, subst, sym}
use Rattle.std.specs.Prelude.{◌&&◌, if◌then◌else◌, nat_lt}
use Rattle.std.specs.Option.{option_map_or}
use Rattle.guest_memory.specs.Memory.{Memory}
use Rattle.chain.specs.declared.budget.Budget.{Budget}
use Rattle.chain.specs.declared.budget.Progress.{Progress}
use Rattle.chain.specs.declared.budget.Progress.TheVariants.{Done, More}
use Rattle.chain.specs.Service.{Device, Ending, Faulted, Refused, Spent}
use Rattle.negotiation.specs.Features.{with_feature_word}
use Rattle.negotiation.specs.Negotiation.{NegotiationState, fresh, with_status_written}
use Rattle.negotiation.specs.Sets.{has}
use Rattle.negotiation.specs.Status.{features_ok}
use Rattle.mmio_window.specs.declared.device_kind.QueueIndex.{QueueIndex}
use Rattle.mmio_window.specs.declared.device_kind.QueueIndex.TheVariants.{Queue0, Queue1}
use Rattle.mmio_window.specs.declared.interrupts.Interrupts.{Interrupts}
use Rattle.mmio_window.specs.declared.queue.Queue.{Queue}
use Rattle.mmio_window.specs.declared.queue_registers.QueueRegisters.{QueueRegisters}
use Rattle.mmio_window.specs.declared.register.Register.{Register}
use Rattle.mmio_window.specs.declared.stage.Stage.{Stage}
use Rattle.mmio_window.specs.declared.stage.Stage.TheVariants.{First, Next}
use Rattle.mmio_window.specs.DeviceKind.{configuration_changes, queue_of}
use Rattle.mmio_window.specs.Pieces.{CompletesAt, IsRefusedAt, ServesTo}
use Rattle.mmio_window.specs.QueueRegisters.{queue_written}
use Rattle.mmio_window.specs.Reading.{configuration_offset}
use Rattle.mmio_window.specs.Registers.{register_at}
use Rattle.mmio_window.specs.Serving.{after_ending, after_service}
use Rattle.mmio_window.specs.Window.{WindowState, reset, with_config_changed, with_config_interrupt, with_generation_counted, with_registers_in, with_ring, with_used_interrupt}
use Rattle.mmio_window.specs.Writing.{register_written, written}
use Rattle.negotiation.specs.Status.{driver_ok}
use Rattle.mmio_window.proofs.Writes.{written_by_cases}

-- the same device's window
pub record KeepsDevice (old new : WindowState) : Type 0 where
  pub kind : new.kind ≡ old.kind
  pub offered : new.negotiation.offered ≡ old.negotiation.offered
  pub generation : configuration_changes old.kind ≡ false → new.config_generation ≡ old.config_generation

pub KeepsDevice-self : (w : WindowState) → KeepsDevice w w
KeepsDevice-self w = record { kind = refl; offered = refl; generation = λ never. refl }

pub KeepsDevice-trans : (a b c : WindowState) → KeepsDevice a b → KeepsDevice b c → KeepsDevice a c
KeepsDevice-trans a b c first second = record {
  kind = second.kind ∙ first.kind;
  offered = second.offered ∙ first.offered;
  generation = λ never. second.generation (ap configuration_changes first.kind ∙ never)
      ∙ first.generation never;
}

KeepsDevice-at : (a b c : WindowState) → c ≡ b → KeepsDevice a b → KeepsDevice a c
KeepsDevice-at a b c is keeps = subst (KeepsDevice a) (sym is) keeps

-- ---- registers

with_registers_kept : (queue : Option QueueIndex) (change : QueueRegisters → QueueRegisters) (w : WindowState)
    → KeepsDevice w (with_registers_in queue change w)
with_registers_kept None change w = KeepsDevice-self w
with_registers_kept (Some Queue0) change w =
    record { kind = refl; offered = refl; generation = λ never. refl }
with_registers_kept (Some Queue1) change w =
    record { kind = refl; offered = refl; generation = λ never. refl }

status_kept : (zero_written : Bool) (s : NegotiationState) (status : ℕ)
    → (if zero_written then fresh s.offered else record s { status = status }).offered ≡ s.offered
status_kept true s status = refl
status_kept false s status = refl

features_kept : (stands : Bool) (s : NegotiationState) (accepted : ℕ)
    → (if stands then s else record s { accepted = accepted }).offered ≡ s.offered
features_kept true s accepted = refl
features_kept false s accepted = refl

status_by_test : (zero_written : Bool) (w : WindowState) (n : NegotiationState)
    → n.offered ≡ w.negotiation.offered
    → KeepsDevice w (if zero_written then reset w else record w { negotiation = n })
status_by_test true w n same = record { kind = refl; offered = refl; generation = λ never. refl }
status_by_test false w n same = record { kind = refl; offered = same; generation = λ never. refl }

register_kept : (register : Register) (value : ℕ) (m : Memory) (w : WindowState)
    → KeepsDevice w (register_written register value m w)
register_kept register value m w =
    written_by_cases (KeepsDevice w) (λ r. Unit {0}) value m w
    (λ (r : Register) is. with_registers_kept (queue_of w.kind w.queue_sel)
    (queue_written r value m w.negotiation) w)
    (λ is. status_by_test (value == 0) w (with_status_written value w.negotiation)
    (status_kept (value == 0) w.negotiation _))
    (record {
      kind = refl;
      offered = features_kept (has w.negotiation.status features_ok) w.negotiation
          (with_feature_word w.driver_features_sel value w.negotiation.accepted);
      generation = λ never. refl;
    })
    (λ (device_sel driver_sel queue_sel shm_sel : ℕ) (interrupts : Interrupts).
    record { kind = refl; offered = refl; generation = λ never. refl })
    (KeepsDevice-self w) register tt

by_register : (register : Option Register) (value : ℕ) (m : Memory) (w : WindowState)
    → KeepsDevice w (option_map_or (λ r. register_written r value m w) register w)
by_register None value m w = KeepsDevice-self w
by_register (Some register) value m w = register_kept register value m w

by_access : (control : Bool) (register : Option Register) (value : ℕ) (m : Memory) (w : WindowState)
    → KeepsDevice w (if control then option_map_or (λ r. register_written r value m w) register w else w)
by_access true register value m w = by_register register value m w
by_access false register value m w = KeepsDevice-self w

-- a write keeps it
pub KeepsDevice-written : (offset width value : ℕ) (m : Memory) (w : WindowState)
    → KeepsDevice w (written offset width value m w)
KeepsDevice-written offset width value m w =
    by_access (nat_lt offset configuration_offset && width == 4) (register_at offset) value m w

-- ---- the device's events

changed_kept : (changes ready : Bool) (w : WindowState) → configuration_changes w.kind ≡ changes
    → KeepsDevice w (if changes && ready then with_config_interrupt (with_generation_counted w) else if
    changes then with_generation_counted w else w)
changed_kept true true w is =
    record { kind = refl; offered = refl; generation = λ never. absurd (cc (is, never)) }
changed_kept true false w is =
    record { kind = refl; offered = refl; generation = λ never. absurd (cc (is, never)) }
changed_kept false ready w is = KeepsDevice-self w

-- a change of the configuration keeps it
pub KeepsDevice-config_changed : (w : WindowState) → KeepsDevice w (with_config_changed w)
KeepsDevice-config_changed w =
    changed_kept (configuration_changes w.kind) (has w.negotiation.status driver_ok) w refl

with_ring_kept : (q : ℕ) (w : WindowState) (ring : Queue) → KeepsDevice w (with_ring q w ring)
with_ring_kept q w ring =
    with_registers_kept (queue_of w.kind q) (λ registers. record registers { ring = Some ring }) w

used_kept : (wanted : Bool) (w : WindowState) → KeepsDevice w (if wanted then with_used_interrupt w else w)
used_kept true w = record { kind = refl; offered = refl; generation = λ never. refl }
used_kept false w = KeepsDevice-self w

ending_kept : (ending : Ending) (w : WindowState) → KeepsDevice w (after_ending ending w)
ending_kept Spent w = KeepsDevice-self w
ending_kept (Faulted fault) w = record { kind = refl; offered = refl; generation = λ never. refl }
ending_kept Refused w = KeepsDevice-self w

service_kept : (q : ℕ) (ending : Ending) (wanted : Bool) (w : WindowState) (last : Queue)
    → KeepsDevice w (after_service ending wanted (with_ring q w last))
service_kept q ending wanted w last =
    let ring = with_ring q w last in
    let used : WindowState = if wanted then with_used_interrupt ring else ring in
    KeepsDevice-trans w ring (after_ending ending used) (with_ring_kept q w last)
    (KeepsDevice-trans ring used (after_ending ending used) (used_kept wanted ring) (ending_kept ending used))

module _ {State : Type 0} (device : Device State) (budget : Budget) (q : ℕ) where
  -- a piece of a service that ends keeps it
  completed_kept : (stage : Stage) (queue : Option Queue) (ending : Ending) (old new : Memory)
      (before after : WindowState) (s s' : State)
      → CompletesAt stage device budget q queue ending old new before after s s' → KeepsDevice before after
  completed_kept First None ending old new before after s s' h =
      KeepsDevice-at before before after h.1.window (KeepsDevice-self before)
  completed_kept Next None ending old new before after s s' h =
      KeepsDevice-at before before after h.1.window (KeepsDevice-self before)
  completed_kept First (Some queue) ending old new before after s s' h =
      KeepsDevice-at before _ after h.window (service_kept q ending h.wanted before h.last)
  completed_kept Next (Some queue) ending old new before after s s' h =
      KeepsDevice-at before _ after h.window (service_kept q ending h.wanted before h.last)

  -- and so does every piece
  pub KeepsDevice-served : (stage : Stage) (queue : Option Queue) (progress : Progress) (old new : Memory)
      (before after : WindowState) (s s' : State)
      → ServesTo stage device budget q queue progress old new before after s s' → KeepsDevice before after
  KeepsDevice-served First queue Done old new before after s s' h =
      completed_kept First queue h.ending old new before after s s' h.notified
  KeepsDevice-served Next queue Done old new before after s s' h =
      completed_kept Next queue h.ending old new before after s s' h.finished
  KeepsDevice-served First None More old new before after s s' h = absurd h
  KeepsDevice-served Next None More old new before after s s' h = absurd h
  KeepsDevice-served First (Some queue) More old new before after s s' h =
      KeepsDevice-at before _ after h.window (with_ring_kept q before h.last)
  KeepsDevice-served Next (Some queue) More old new before after s s' h =
      KeepsDevice-at before _ after h.window (with_ring_kept q before h.last)

  -- one that is refused too
  pub KeepsDevice-refused : (stage : Stage) (queue : Option Queue) (old new : Memory)
      (before after : WindowState) (s s' : State)
      → IsRefusedAt stage device budget q queue old new before after s s' → KeepsDevice before after
  KeepsDevice-refused stage queue = completed_kept stage queue Refused
