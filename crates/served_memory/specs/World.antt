-- A world: how a device sees a guest's memory, and what a service of a queue is by that.
use Rattle.std.specs.Prelude.{◌≡◌, ◌⊎◌, ℕ, Bool, Option, Some, None, List, length}
use Rattle.guest_memory.specs.Memory.{Memory}
use Rattle.chain.specs.declared.budget.Budget.{Budget}
use Rattle.chain.specs.declared.budget.Progress.{Progress}
use Rattle.chain.specs.declared.budget.Progress.TheVariants.{Done}
use Rattle.chain.specs.declared.segment.Buffer.{Buffer}
use Rattle.chain.specs.Bytes.{writable_of}
use Rattle.chain.specs.Service.{Device, Entry}
use Rattle.mmio_window.specs.declared.queue.Queue.{Queue}
use Rattle.mmio_window.specs.declared.stage.Stage.{Stage}
use Rattle.mmio_window.specs.Pieces as pieces
use Rattle.mmio_window.specs.Pieces.{fitting}
use Rattle.mmio_window.specs.Serving as still
use Rattle.mmio_window.specs.Window.{WindowState, with_ring}
use Rattle.shared_memory.specs.Sightings.{Sightings, memory}
use Rattle.racing_service.specs.declared.stage.Stage.TheVariants.{First}
use Rattle.racing_service.specs.declared.service.Limits.{Limits}
use Rattle.racing_service.specs.Service.{IsRefusedService, standing_at}
use Rattle.racing_window.specs.Queue.{racing_queue}
use Rattle.racing_window.specs.Serving.{NothingHappens, Notified}
use Rattle.served_memory.specs.Closing.{ClosesQueue}

pub record World : Type 1 where
  -- what a memory is seen as, and what stands in it as it was seen last
  pub Seen : Type 0
  pub last : Seen → Memory
  pub NothingHappens : {State : Type 0} → Seen → Seen → WindowState → WindowState → State → State → Type 0
  -- a piece of a service of the queue of this number, and whether more is to come: no chain is left on offer
  pub ServesTo : {State : Type 0} → Device State → Stage → Limits → ℕ → Option Queue → Progress → Seen → Seen → WindowState
      → WindowState → State → State → Type 0
  -- one that ends since the device has no memory for the chain on offer
  pub RefusedTo : {State : Type 0} → Device State → Stage → Limits → ℕ → Option Queue → Seen → Seen → WindowState
      → WindowState → State → State → Type 0
  -- either of the two, where nobody is told which: one that is refused is done
  pub DoneTo : {State : Type 0} → Device State → Stage → Limits → ℕ → Option Queue → Progress → Seen → Seen → WindowState
      → WindowState → State → State → Type 0

-- The device leaves a chain with these buffers, of which it read these bytes, for this reason. It is a refused one if there was
-- no memory for that chain.
pub record LeftBy {State E : Type 0} (device : Device State) (Refuses : State → List ℕ → List Buffer → E → Type 0)
    (Refused : Type 0) (state : State) (why : E) : Type 0 where
  pub readable : List ℕ
  pub buffers : List Buffer
  pub refuses : Refuses state readable buffers why
  pub ends : device.LacksMemory state readable (length (writable_of buffers)) → Refused

-- ---- a guest that stands still: the definitions of mmio_window

-- the limits of a service that has a budget: it has one round
abbrev pub one_round : Budget → Limits
one_round budget = record { budget = budget; rounds = 1 }

abbrev pub standing : World
standing = record {
  Seen = Memory;
  last = λ m. m;
  NothingHappens = λ old new before after s s'. still.NothingHappens old new before after s s';
  ServesTo = λ device stage limits q queue progress old new before after s s'.
      pieces.ServesTo stage (fitting device) limits.budget q queue progress old new before after s s';
  RefusedTo = λ device stage limits q queue old new before after s s'.
      pieces.IsRefusedAt stage device limits.budget q queue old new before after s s';
  DoneTo = λ device stage limits q queue progress old new before after s s'.
      pieces.ServesTo stage device limits.budget q queue progress old new before after s s';
}

-- ---- a guest that runs on: the definitions of racing_window

-- there is no memory for the chain
abbrev pub Lacks : {State : Type 0} → Device State → State → List ℕ → List Buffer → Unit {0} → Type 0
Lacks device s readable buffers why = device.LacksMemory s readable (length (writable_of buffers))

-- The queue is served up to a chain for which there is no memory, and closed there. The window shows what is owed of the chains
-- before it.
pub record RefusesAt {State : Type 0} (races : Bool) (device : Device State) (limits : Limits) (q : ℕ) (queue : Queue)
    (old new : Sightings) (before after : WindowState) (s s' : State) : Type 0 where
  pub stopped : Sightings
  pub last : Queue
  pub left : Budget
  pub buffers : List Buffer
  pub entry : Entry
  pub asked : Bool
  pub service : IsRefusedService racing_queue device races (Lacks device) First limits.rounds
      (standing_at old queue s limits.budget) (standing_at stopped last s' left) buffers entry tt asked
  pub closes : ClosesQueue races q last asked stopped new (with_ring q before last) after

abbrev pub RefusedAt : {State : Type 0} → Bool → Device State → Limits → ℕ → Option Queue → Sightings → Sightings → WindowState
    → WindowState → State → State → Type 0
RefusedAt races device limits q None old new before after s s' = ⊥
RefusedAt races device limits q (Some queue) old new before after s s' =
    RefusesAt races device limits q queue old new before after s s'

abbrev pub racing : Bool → World
racing races = record {
  Seen = Sightings;
  last = memory;
  NothingHappens = λ old new before after s s'. NothingHappens old new before after s s';
  ServesTo = λ device stage limits q queue progress old new before after s s'.
      Notified device races limits.rounds q limits.budget queue progress old new before after s s';
  RefusedTo = λ device stage limits q queue old new before after s s'.
      RefusedAt races device limits q queue old new before after s s';
  DoneTo = λ device stage limits q queue progress old new before after s s'.
      Notified device races limits.rounds q limits.budget queue progress old new before after s s'
      ⊎ ((progress ≡ Done) × RefusedAt races device limits q queue old new before after s s');
}
