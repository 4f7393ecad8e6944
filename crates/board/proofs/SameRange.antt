-- A write to a register and a restore see where a memory lies, and none of its bytes.
use Rattle.std.proofs.Common.{◌≡◌, ℕ, ◌==◌, Option, Some, None, refl, ap}
use Rattle.std.specs.Prelude.{◌&&◌, if◌then◌else◌, is_none, nat_lt}
use Rattle.std.specs.Option.{option_and_then, option_map, option_map_or}
use Rattle.guest_memory.specs.Memory.{Memory, SameRange}
use Rattle.negotiation.specs.Negotiation.{NegotiationState, negotiated_of, standing}
use Rattle.negotiation.specs.Sets.{has}
use Rattle.negotiation.specs.Status.{features_ok}
use Rattle.mmio_window.specs.declared.device_kind.DeviceKind.{DeviceKind}
use Rattle.mmio_window.specs.declared.device_kind.DeviceKind.TheVariants.{Block}
use Rattle.mmio_window.specs.declared.queue.Queue.{Queue}
use Rattle.mmio_window.specs.declared.queue_registers.QueueRegisters.{QueueRegisters}
use Rattle.mmio_window.specs.declared.register.Register.{Register}
use Rattle.mmio_window.specs.declared.register.Register.TheVariants.{QueueReady}
use Rattle.mmio_window.specs.declared.saved.Reached.{Reached}
use Rattle.mmio_window.specs.declared.saved.SavedQueue.{SavedQueue}
use Rattle.mmio_window.specs.declared.saved.SavedWindow.{SavedWindow}
use Rattle.mmio_window.specs.QueueRegisters.{with_ready_written}
use Rattle.mmio_window.specs.Reading.{configuration_offset}
use Rattle.mmio_window.specs.Registers.{register_at}
use Rattle.mmio_window.specs.Saved.{negotiation_saved, queue_at_reached, queue_restored, registers_with, served_to, window_restored, window_with}
use Rattle.mmio_window.specs.Window.{WindowState, with_registers}
use Rattle.mmio_window.specs.Writing.{register_written, written}
use Rattle.mmio_window.proofs.Rings.{ring_of-same}
use Rattle.board.specs.Saved.{block_restored}

-- ---- a write to a register

ready_over : (value : ℕ) (m n : Memory) (negotiation : NegotiationState) (queue : QueueRegisters) → SameRange m n
    → with_ready_written value n negotiation queue ≡ with_ready_written value m negotiation queue
ready_over value m n negotiation queue same =
    ap (λ (ring : Option Queue).
    if value == 0 then record queue { ring = None }
    else if value == 1 && is_none queue.ring && has negotiation.status features_ok
    then record queue { ring = ring } else queue)
    (ring_of-same m n (negotiated_of negotiation) queue same)

register_over : (name : Register) (value : ℕ) (m n : Memory) (w : WindowState) → SameRange m n
    → register_written name value n w ≡ register_written name value m w
register_over QueueReady value m n w same =
    λ i. with_registers w.queue_sel (λ queue. ready_over value m n w.negotiation queue same i) w
register_over name value m n w same = refl

register_found : (found : Option Register) (value : ℕ) (m n : Memory) (w : WindowState) → SameRange m n
    → option_map_or (λ register. register_written register value n w) found w
    ≡ option_map_or (λ register. register_written register value m w) found w
register_found None value m n w same = refl
register_found (Some register) value m n w same = register_over register value m n w same

pub written_over : (offset width value : ℕ) (m n : Memory) (w : WindowState) → SameRange m n
    → written offset width value n w ≡ written offset width value m w
written_over offset width value m n w same =
    ap (λ (new : WindowState). if nat_lt offset configuration_offset && width == 4 then new else w)
    (register_found (register_at offset) value m n w same)

-- ---- a restore

reached_over : (m n : Memory) (negotiation : NegotiationState) (saved : SavedQueue) (reached : Option Reached)
    → SameRange m n → queue_at_reached n negotiation saved reached ≡ queue_at_reached m negotiation saved reached
reached_over m n negotiation saved None same = refl
reached_over m n negotiation saved (Some reached) same =
    ap (λ (ring : Option Queue). option_map (λ ring. registers_with saved (Some ring))
    (if has negotiation.status features_ok then option_and_then (served_to reached) ring else None))
    (ring_of-same m n (negotiated_of negotiation) (registers_with saved None) same)

-- the window over a memory, where status and features stand so
abbrev window_at : DeviceKind → Memory → SavedWindow → Option NegotiationState → Option WindowState
window_at kind m saved stands =
    option_and_then (λ negotiation.
    option_and_then (λ queue_0.
    option_map (λ queue_1. window_with kind saved negotiation queue_0 queue_1)
    (queue_restored m negotiation saved.queue_1)) (queue_restored m negotiation saved.queue_0)) stands

standing_over : (kind : DeviceKind) (m n : Memory) (saved : SavedWindow) (stands : Option NegotiationState)
    → SameRange m n → window_at kind n saved stands ≡ window_at kind m saved stands
standing_over kind m n saved None same = refl
standing_over kind m n saved (Some negotiation) same =
    rw (
      reached_over m n negotiation saved.queue_0 saved.queue_0.reached same,
      reached_over m n negotiation saved.queue_1 saved.queue_1.reached same,
    ) refl

pub window_over : (kind : DeviceKind) (m n : Memory) (saved : SavedWindow) → SameRange m n
    → window_restored kind n saved ≡ window_restored kind m saved
window_over kind m n saved same =
    standing_over kind m n saved (standing (negotiation_saved saved.negotiation)) same

pub block_over : (m n : Memory) (saved : SavedWindow) → SameRange m n → block_restored n saved ≡ block_restored m saved
block_over m n saved same =
    ap (λ (window : Option WindowState). if saved.config_generation == 0 then window else None)
    (window_over Block m n saved same)
