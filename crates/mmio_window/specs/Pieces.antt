-- A service of a queue in pieces as its driver sees it, for any device. In a pause the queue stands open in
-- the window, which shows nothing of the service yet.
use Rattle.std.specs.Prelude.{◌≡◌, ℕ, Bool, Option, None, Some, List, length}
use Rattle.guest_memory.specs.Memory.{Memory}
use Rattle.chain.specs.declared.budget.Budget.{Budget}
use Rattle.chain.specs.declared.budget.Progress.{Progress}
use Rattle.chain.specs.declared.budget.Progress.TheVariants.{More, Done}
use Rattle.chain.specs.declared.fault.Fault.{Fault}
use Rattle.chain.specs.declared.segment.Buffer.{Buffer}
use Rattle.chain.specs.Bytes.{readable_of, writable_of}
use Rattle.chain.specs.Pieces.{IsPart, BeginsWithin, Pauses, EndsWithin, IsServiceWithin}
use Rattle.chain.specs.Service.{Device, Ending, Refused, Site, Spent}
use Rattle.mmio_window.specs.declared.queue.Queue.{Queue}
use Rattle.mmio_window.specs.declared.stage.Stage.{Stage}
use Rattle.mmio_window.specs.declared.stage.Stage.TheVariants.{First, Next}
use Rattle.mmio_window.specs.Queue.{queue_kind}
use Rattle.mmio_window.specs.Serving.{NothingHappens, after_service, site_at}
use Rattle.mmio_window.specs.Window.{WindowState, with_ring}

-- Some chains of this queue were served, in one piece or more, and it stands open.
pub record IsPaused {State : Type 0} (device : Device State) (q : ℕ) (queue : Queue) (old new : Memory)
    (before after : WindowState) (s s' : State) : Type 0 where
  pub last : Queue
  pub part : IsPart queue_kind device (site_at old queue s) (site_at new last s')
  pub window : after ≡ with_ring q before last

module _ {State : Type 0} (device : Device State) (budget : Budget) (q : ℕ) (queue : Queue)
    (old new : Memory) (before after : WindowState) (s s' : State) where
  -- The device begins to serve this queue, and pauses.
  pub record PausesIn : Type 0 where
    pub last : Queue
    pub begins : BeginsWithin queue_kind device budget (site_at old queue s) (site_at new last s')
    pub window : after ≡ with_ring q before last

  -- It goes on with this queue, which stands open, and pauses again.
  pub record GoesOnIn : Type 0 where
    pub last : Queue
    pub pauses : Pauses queue_kind device budget (site_at old queue s) (site_at new last s')
    pub window : after ≡ with_ring q before last

  -- It goes on with this queue to the end of its service.
  pub record EndsIn (ending : Ending) : Type 0 where
    pub last : Queue
    pub wanted : Bool
    pub ends : EndsWithin queue_kind device budget (site_at old queue s) (site_at new last s') ending wanted
    pub window : after ≡ after_service ending wanted (with_ring q before last)

  -- It serves this queue in one piece.
  pub record ServesWithin (ending : Ending) : Type 0 where
    pub last : Queue
    pub wanted : Bool
    pub service : IsServiceWithin queue_kind device budget (site_at old queue s)
        (site_at new last s') ending wanted
    pub window : after ≡ after_service ending wanted (with_ring q before last)

-- What a piece does that ends so: the first one or one behind a pause, by the queue that the device may
-- serve.
-- Where there is none nothing happens.
abbrev pub CompletesAt : {State : Type 0} → Stage → Device State → Budget → ℕ → Option Queue → Ending → Memory
    → Memory → WindowState → WindowState → State → State → Type 0
CompletesAt stage device budget q None ending old new before after s s' = (ending ≡ Spent)
    × NothingHappens old new before after s s'
CompletesAt First device budget q (Some queue) ending old new before after s s' =
    ServesWithin device budget q queue old new before after s s' ending
CompletesAt Next device budget q (Some queue) ending old new before after s s' =
    EndsIn device budget q queue old new before after s s' ending

-- a notification of the queue q that isn't paused
abbrev pub NotifiedWithin : {State : Type 0} → Device State → Budget → ℕ → Option Queue → Ending → Memory
    → Memory → WindowState → WindowState → State → State → Type 0
NotifiedWithin device = CompletesAt First device

-- what comes of going on to the end
abbrev pub FinishesWithin : {State : Type 0} → Device State → Budget → ℕ → Option Queue → Ending → Memory
    → Memory → WindowState → WindowState → State → State → Type 0
FinishesWithin device = CompletesAt Next device

-- The same where nobody is told why the service ended.
pub record IsNotifiedWithin {State : Type 0} (device : Device State) (budget : Budget) (q : ℕ)
    (queue : Option Queue) (old new : Memory) (before after : WindowState) (s s' : State) : Type 0 where
  pub ending : Ending
  pub notified : NotifiedWithin device budget q queue ending old new before after s s'

pub record IsFinishedWithin {State : Type 0} (device : Device State) (budget : Budget) (q : ℕ)
    (queue : Option Queue) (old new : Memory) (before after : WindowState) (s s' : State) : Type 0 where
  pub ending : Ending
  pub finished : FinishesWithin device budget q queue ending old new before after s s'

-- The first piece of a service within a budget, or one behind a pause, and whether more is to come.
abbrev pub ServesTo : {State : Type 0} → Stage → Device State → Budget → ℕ → Option Queue → Progress → Memory
    → Memory → WindowState → WindowState → State → State → Type 0
ServesTo First device budget q queue Done old new before after s s' =
    IsNotifiedWithin device budget q queue old new before after s s'
ServesTo Next device budget q queue Done old new before after s s' =
    IsFinishedWithin device budget q queue old new before after s s'
ServesTo stage device budget q None More old new before after s s' = ⊥
ServesTo First device budget q (Some queue) More old new before after s s' =
    PausesIn device budget q queue old new before after s s'
ServesTo Next device budget q (Some queue) More old new before after s s' =
    GoesOnIn device budget q queue old new before after s s'

-- a notification within a budget, and going on within one
abbrev pub BeginsTo : {State : Type 0} → Device State → Budget → ℕ → Option Queue → Progress → Memory → Memory
    → WindowState → WindowState → State → State → Type 0
BeginsTo device = ServesTo First device

abbrev pub GoesOnTo : {State : Type 0} → Device State → Budget → ℕ → Option Queue → Progress → Memory → Memory
    → WindowState → WindowState → State → State → Type 0
GoesOnTo device = ServesTo Next device

-- one that ends since there is no memory for the chain on offer
abbrev pub IsRefusedAt : {State : Type 0} → Stage → Device State → Budget → ℕ → Option Queue → Memory → Memory
    → WindowState → WindowState → State → State → Type 0
IsRefusedAt stage device budget q queue = CompletesAt stage device budget q queue Refused

-- the device that serves a chain as this one does, and leaves none on offer
abbrev pub fitting : {State : Type 0} → Device State → Device State
fitting device = record { takes = device.takes; Gives = device.Gives; LacksMemory = λ s readable w. ⊥ }

-- The piece ends since the device leaves the chain with these buffers, for this reason. It is a refused one if there was
-- no memory for that chain.
pub record LeavesChain {State E : Type 0} (device : Device State) (Refuses : State → Memory → List Buffer → E → Type 0)
    (stage : Stage) (budget : Budget) (q : ℕ) (queue : Option Queue) (old new : Memory) (before after : WindowState)
    (s s' : State) (why : E) : Type 0 where
  pub memory : Memory
  pub buffers : List Buffer
  pub refuses : Refuses s' memory buffers why
  pub ends : device.LacksMemory s' (readable_of memory buffers) (length (writable_of buffers))
      → IsRefusedAt stage device budget q queue old new before after s s'

-- ---- a piece, whichever it is

-- the fault at which its opening ends: one behind a pause finds the queue open
abbrev pub fault_at : Stage → Memory → Queue → Option Fault
fault_at First m queue = queue_kind.opening_fault m queue
fault_at Next m queue = None

-- the queue from which its chains are taken
abbrev pub opened_at : Stage → Memory → Queue → Queue
opened_at First m queue = queue_kind.opened m queue
opened_at Next m queue = queue

abbrev pub PausesAt : {State : Type 0} → Stage → Device State → Budget → Site Queue State
    → Site Queue State → Type 0
PausesAt First device budget old new = BeginsWithin queue_kind device budget old new
PausesAt Next device budget old new = Pauses queue_kind device budget old new

abbrev pub EndsAt : {State : Type 0} → Stage → Device State → Budget → Site Queue State → Site Queue State
    → Ending → Bool → Type 0
EndsAt First device budget old new ending wanted =
    IsServiceWithin queue_kind device budget old new ending wanted
EndsAt Next device budget old new ending wanted = EndsWithin queue_kind device budget old new ending wanted

-- ---- what a piece comes to

-- It pauses, or it ends so.
abbrev pub PieceTo : {State : Type 0} → Stage → Device State → Budget → ℕ → Option Queue → Option Ending → Memory
    → Memory → WindowState → WindowState → State → State → Type 0
PieceTo stage device budget q queue None old new before after s s' =
    ServesTo stage device budget q queue More old new before after s s'
PieceTo stage device budget q queue (Some ending) old new before after s s' =
    CompletesAt stage device budget q queue ending old new before after s s'

-- two pieces come to the same, and leave the same
pub record SamePiece {State : Type 0} (x y : Option Ending) (m n : Memory) (v w : WindowState)
    (s t : State) : Type 0 where
  pub how : x ≡ y
  pub memory : m ≡ n
  pub window : v ≡ w
  pub state : s ≡ t

-- From where it begins a piece of this device comes to one thing: it pauses, ends, or is refused.
abbrev pub HasOnePiece : {State : Type 0} → Device State → Type 0
HasOnePiece {State} device =
    (stage : Stage) (budget : Budget) (q : ℕ) (queue : Option Queue) (x y : Option Ending) (old m n : Memory)
    (before v w : WindowState) (s0 s t : State)
    → PieceTo stage device budget q queue x old m before v s0 s
    → PieceTo stage device budget q queue y old n before w s0 t → SamePiece x y m n v w s t
