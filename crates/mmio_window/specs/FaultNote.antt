-- What is told of a fault that ended a service: where in its queue it was met.
use Rattle.std.specs.Prelude.{◌≡◌, ℕ, ⊤, Option, None, Some}
use Rattle.std.specs.Option.{option_map}
use Rattle.guest_memory.specs.Memory.{Memory}
use Rattle.chain.specs.declared.fault.Fault.{Fault}
use Rattle.chain.specs.declared.fault.Fault.TheVariants.{Jump}
use Rattle.chain.specs.Service.{Device, Faulted, Site, Works, close_site}
use Rattle.split_ring.specs.Ring as split_ring
use Rattle.packed_ring.specs.Ring as packed_ring
use Rattle.mmio_window.specs.declared.fault_note.QueueFault.{QueueFault}
use Rattle.mmio_window.specs.declared.queue.Queue.{Queue}
use Rattle.mmio_window.specs.declared.queue.Queue.TheVariants.{Split, Packed}
use Rattle.mmio_window.specs.declared.stage.Stage.{Stage}
use Rattle.mmio_window.specs.Pieces.{fault_at, opened_at}
use Rattle.mmio_window.specs.Queue.{queue_kind}

-- the fault itself
abbrev pub fault_in : Option QueueFault → Option Fault
fault_in met = option_map (λ known. known.fault) met

-- the index of the first descriptor of the chain on offer
abbrev pub head_at : Memory → Queue → ℕ
head_at m (Split ring) = split_ring.head_of m ring
head_at m (Packed ring) = packed_ring.head_of ring

-- the place of the chain on offer, behind those in flight
abbrev pub place_met : Queue → ℕ
place_met (Split ring) = split_ring.next_taken ring
place_met (Packed ring) = packed_ring.next_taken ring

-- a Jump is met before a head is read
abbrev pub head_met : Memory → Queue → Fault → Option ℕ
head_met m queue Jump = None
head_met m queue fault = Some (head_at m queue)

-- a fault of the chain on offer, or of the offer itself
abbrev pub met_at : Memory → Queue → Fault → QueueFault
met_at m queue fault = record {
  fault = fault;
  place = place_met queue;
  head = head_met m queue fault;
}

abbrev pub met_with : Memory → Queue → Option Fault → Option QueueFault
met_with m queue fault = option_map (met_at m queue) fault

-- A piece of a service ended by this fault, and where it was met is told of the site at which its work ended, before the
-- queue was closed.
pub record IsMetIn {State : Type 0} (device : Device State) (stage : Stage) (old new : Site Queue State)
    (met : QueueFault) : Type 0 where
  pub last : Site Queue State
  pub works : Works queue_kind device (fault_at stage old.memory old.ring)
      (record old { ring = opened_at stage old.memory old.ring }) (Faulted met.fault) last
  pub told : met ≡ met_at last.memory last.ring met.fault
  pub closed : new ≡ close_site queue_kind device last

-- the same of a piece that may have had no fault
abbrev pub IfMetIn : {State : Type 0} → Device State → Stage → Site Queue State → Site Queue State
    → Option QueueFault → Type 0
IfMetIn device stage old new None = ⊤
IfMetIn device stage old new (Some met) = IsMetIn device stage old new met
