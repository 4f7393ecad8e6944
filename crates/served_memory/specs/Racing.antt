-- The laws of a guest that runs on.
use Rattle.std.proofs.Common.{◌≡◌, ◌∙◌, ◌||◌, ◌&&◌, ◌==◌, ℕ, Bool, true, false, Option, None, Some, inl, inr, refl}
use Rattle.std.specs.Prelude.{if◌then◌else◌}
use Rattle.chain.specs.declared.budget.Progress.{Progress}
use Rattle.chain.specs.Service.{Device, Ending, Spent, Faulted, Refused}
use Rattle.mmio_window.specs.declared.device_kind.DeviceKind.TheVariants.{Network}
use Rattle.mmio_window.specs.declared.queue.Queue.{Queue}
use Rattle.mmio_window.specs.DeviceKind.{has_queue_1, queue_of}
use Rattle.mmio_window.specs.Queue.{queue_kind}
use Rattle.mmio_window.specs.Serving.{after_service, ending_of}
use Rattle.mmio_window.specs.Window.{WindowState, with_registers_in, with_ring}
use Rattle.shared_memory.specs.Sightings.{Sightings}
use Rattle.racing_service.specs.declared.service.Limits.{Limits}
use Rattle.racing_window.specs.Serving.{Notified, fault_of}
use Rattle.served_memory.specs.Laws.{SameDevice, WorldLaws}
use Rattle.served_memory.specs.World.{RefusedAt, racing}

-- ---- what a window shows of a service leaves it its device's

trans : (a b c : WindowState) → SameDevice a b → SameDevice b c → SameDevice a c
trans a b c first second =
    record { kind = second.kind ∙ first.kind; offered = second.offered ∙ first.offered }

ring_same : (q : ℕ) (w : WindowState) (last : Queue) → SameDevice w (with_ring q w last)
ring_same q w last = by_test (q == 0) (q == 1 && has_queue_1 w.kind)
  where
    by_test : (first second : Bool) → SameDevice w (with_registers_in (if first then queue_of Network 0
        else if second then queue_of Network 1 else None) (λ registers. record registers { ring = Some last }) w)
    by_test true second = record { kind = refl; offered = refl }
    by_test false true = record { kind = refl; offered = refl }
    by_test false false = record { kind = refl; offered = refl }

shown_same : (ending : Ending) (wanted : Bool) (w : WindowState) → SameDevice w (after_service ending wanted w)
shown_same Spent true w = record { kind = refl; offered = refl }
shown_same Spent false w = record { kind = refl; offered = refl }
shown_same (Faulted fault) true w = record { kind = refl; offered = refl }
shown_same (Faulted fault) false w = record { kind = refl; offered = refl }
shown_same Refused true w = record { kind = refl; offered = refl }
shown_same Refused false w = record { kind = refl; offered = refl }

served_same : (q : ℕ) (ending : Ending) (wanted : Bool) (w after : WindowState) (last : Queue)
    → after ≡ after_service ending wanted (with_ring q w last) → SameDevice w after
served_same q ending wanted w after last is =
    let ring = with_ring q w last in
    rw is (trans w ring (after_service ending wanted ring) (ring_same q w last) (shown_same ending wanted ring))

module _ {State : Type 0} (device : Device State) (races : Bool) (limits : Limits) (q : ℕ) (old new : Sightings)
    (before after : WindowState) (s s' : State) where
  notified_same : (queue : Option Queue) (progress : Progress)
      → Notified device races limits.rounds q limits.budget queue progress old new before after s s'
      → SameDevice before after
  notified_same None progress h = rw h.1.window (record { kind = refl; offered = refl })
  notified_same (Some queue) progress h =
      served_same q (ending_of (fault_of h.ending)) h.wanted before after h.last h.window

  refused_same : (queue : Option Queue) → RefusedAt races device limits q queue old new before after s s'
      → SameDevice before after
  refused_same None h = absurd h
  refused_same (Some queue) h =
      let open_at = with_ring q before h.last in
      trans before open_at after (ring_same q before h.last)
      (served_same q Spent (h.asked || h.closes.wanted) open_at after (queue_kind.shut h.last) h.closes.window)

pub racing_laws : (races : Bool) → WorldLaws (racing races)
racing_laws races = record {
  nothing = λ m w s. record { memory = refl; window = refl; state = refl };
  serves_done = λ device stage limits q queue progress old new before after s s' h. inl h;
  refused_done = λ device stage limits q queue old new before after s s' h. inr (refl, h);
  nothing_keeps = λ old new before after s s' h. rw h.window (record { kind = refl; offered = refl });
  done_keeps = λ device stage limits q queue progress old new before after s s' h. elim h [
    | inl served ↦ notified_same device races limits q old new before after s s' queue progress served
    | inr refused ↦ refused_same device races limits q old new before after s s' queue refused.1
  ];
}
