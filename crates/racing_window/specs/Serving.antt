-- One service of a queue of a window whose guest may write its memory meanwhile (2.7.13, 2.8.21, 4.2.2): what it comes to, and
-- what the window shows of it.
use Rattle.std.specs.Prelude.{◌≡◌, ℕ, Bool, Option, Some, None, List}
use Rattle.std.specs.Option.{option_map}
use Rattle.chain.specs.declared.budget.Budget.{Budget}
use Rattle.chain.specs.declared.budget.Progress.{Progress}
use Rattle.chain.specs.declared.budget.Progress.TheVariants.{Done}
use Rattle.chain.specs.declared.segment.Buffer.{Buffer}
use Rattle.chain.specs.declared.fault.Fault.{Fault}
use Rattle.chain.specs.Service.{Device}
use Rattle.packed_ring.specs.Ring.{head_of}
use Rattle.mmio_window.specs.declared.fault_note.QueueFault.{QueueFault}
use Rattle.mmio_window.specs.declared.queue.Queue.{Queue}
use Rattle.mmio_window.specs.declared.queue.Queue.TheVariants.{Split, Packed}
use Rattle.mmio_window.specs.declared.queue.Token.{Token}
use Rattle.mmio_window.specs.FaultNote.{place_met}
use Rattle.mmio_window.specs.Queue.{entry_of}
use Rattle.mmio_window.specs.Serving.{after_service, ending_of}
use Rattle.mmio_window.specs.Window.{WindowState, with_ring}
use Rattle.shared_memory.specs.Sightings.{Sightings}
use Rattle.racing_service.specs.declared.stage.Stage.TheVariants.{First}
use Rattle.racing_service.specs.declared.service.Ending.{Ending}
use Rattle.racing_service.specs.declared.service.Ending.TheVariants.{Settled, Faulted, More}
use Rattle.racing_service.specs.declared.service.Refused.{Refused}
use Rattle.racing_service.specs.Service.{IsRacingService, IsRefusedService, progress_of, standing_at}
use Rattle.racing_window.specs.Queue.{racing_queue}

-- the fault of an ending, if it has one
abbrev pub fault_of : Ending → Option Fault
fault_of Settled = None
fault_of (Faulted fault) = Some fault
fault_of More = None

-- the head of the chain on offer, where it can be told without a further read
abbrev pub head_kept : Queue → Option ℕ
head_kept (Split ring) = None
head_kept (Packed ring) = Some (head_of ring)

-- A fault of the chain on offer, and where that is. The head of a split ring's chain isn't told, since it would be read once
-- more, and may be another one by then.
abbrev pub met_at : Queue → Fault → QueueFault
met_at queue fault = record { fault = fault; place = place_met queue; head = head_kept queue }

abbrev pub met_with : Queue → Ending → Option QueueFault
met_with queue ending = option_map (met_at queue) (fault_of ending)

-- The device serves this queue of the window, which has the number q, in at most so many rounds. Its driver is told of a used
-- buffer where it wants to be; after a fault, and after nothing else, the device asks to be reset (2.1.2).
pub record ServesQueue {State : Type 0} (device : Device State) (races : Bool) (most q : ℕ) (budget : Budget) (queue : Queue)
    (progress : Progress) (old new : Sightings) (before after : WindowState) (s s' : State) : Type 0 where
  pub last : Queue
  pub left : Budget
  pub ending : Ending
  pub wanted : Bool
  pub service : IsRacingService racing_queue device races First most (standing_at old queue s budget)
      (standing_at new last s' left) ending wanted
  pub window : after ≡ after_service (ending_of (fault_of ending)) wanted (with_ring q before last)
  pub progress_is : progress ≡ progress_of ending

-- nothing happens
pub record NothingHappens {State : Type 0} (old new : Sightings) (before after : WindowState) (s s' : State) : Type 0 where
  pub memory : new ≡ old
  pub window : after ≡ before
  pub state : s' ≡ s

-- What a notification of the queue q does, by the queue that the device may serve: there is one where the window is live and
-- the queue ready. Where there is none nothing happens.
abbrev pub Notified : {State : Type 0} → Device State → Bool → ℕ → ℕ → Budget → Option Queue → Progress → Sightings → Sightings
    → WindowState → WindowState → State → State → Type 0
Notified device races most q budget None progress old new before after s s' = (progress ≡ Done)
    × NothingHappens old new before after s s'
Notified device races most q budget (Some queue) progress old new before after s s' =
    ServesQueue device races most q budget queue progress old new before after s s'

-- The device leaves a chain of this queue on offer. The queue stands open there, and the window shows nothing of it.
pub record LeavesChain {State E : Type 0} (device : Device State) (Refuses : State → List ℕ → List Buffer → E → Type 0)
    (races : Bool) (most q : ℕ) (budget : Budget) (queue : Queue) (buffers : List Buffer) (refused : Refused Token E)
    (old new : Sightings) (before after : WindowState) (s s' : State) : Type 0 where
  pub last : Queue
  pub service : IsRefusedService racing_queue device races Refuses First most (standing_at old queue s budget)
      (standing_at new last s' refused.left) buffers (entry_of refused.token) refused.why refused.wanted
  pub window : after ≡ with_ring q before last

-- That needs a queue which the device may serve.
abbrev pub IsLeft : {State E : Type 0} → Device State → (State → List ℕ → List Buffer → E → Type 0) → Bool → ℕ → ℕ → Budget
    → Option Queue → List Buffer → Refused Token E → Sightings → Sightings → WindowState → WindowState → State → State
    → Type 0
IsLeft device Refuses races most q budget None buffers refused old new before after s s' = ⊥
IsLeft device Refuses races most q budget (Some queue) buffers refused old new before after s s' =
    LeavesChain device Refuses races most q budget queue buffers refused old new before after s s'
