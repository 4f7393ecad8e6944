-- How a piece of a service leaves its queue, for any device: closed, open in a pause, or open at a chain that
-- the device leaves on offer.
use Rattle.std.specs.Prelude.{◌≡◌, ⊤, None, List, [], ◌∷◌}
use Rattle.guest_memory.specs.Memory.{Memory, SameRange}
use Rattle.chain.specs.declared.budget.Budget.{Budget}
use Rattle.chain.specs.declared.budget.Progress.{Progress}
use Rattle.chain.specs.declared.budget.Progress.TheVariants.{More, Done}
use Rattle.chain.specs.declared.segment.Buffer.{Buffer}
use Rattle.chain.specs.Budget.{AreWithin, IsSpent, chains_of, left_after, less_chain}
use Rattle.chain.specs.Buffers.{Good}
use Rattle.chain.specs.Pieces.{Pauses, RunsWithin}
use Rattle.chain.specs.Service.{Device, Site, Course, IsReady}
use Rattle.mmio_window.specs.declared.service.Left.{Left}
use Rattle.mmio_window.specs.declared.service.Left.TheVariants.{Open, Closed}
use Rattle.mmio_window.specs.declared.service.Refused.{Refused}
use Rattle.mmio_window.specs.declared.service.Stop.{Stop}
use Rattle.mmio_window.specs.declared.service.Stop.TheVariants.{Pause, End}
use Rattle.mmio_window.specs.declared.queue.Queue.{Queue}
use Rattle.mmio_window.specs.declared.stage.Stage.{Stage}
use Rattle.mmio_window.specs.FaultNote.{IfMetIn, fault_in}
use Rattle.mmio_window.specs.Pieces.{EndsAt, PausesAt, fault_at, opened_at}
use Rattle.mmio_window.specs.Queue.{IsTaken, LiesIn, entry_of, made_as, queue_kind}
use Rattle.mmio_window.specs.Serving.{after_service, ending_of}
pub use Rattle.mmio_window.specs.Serving.{site_at}
use Rattle.mmio_window.specs.Window.{WindowState}

-- the queue stays one of the same registers, in a memory of the same range
pub record QueueStays (old new : Memory) (queue last : Queue) : Type 0 where
  pub range : SameRange old new
  pub lies : LiesIn new last
  pub made : made_as last ≡ made_as queue

-- the chains of a piece
abbrev pub Stops : {State : Type 0} → Device State → Budget → Site Queue State
    → Site Queue State → Stop → Type 0
Stops device budget start now Pause = Pauses queue_kind device budget start now
Stops device budget start now (End fault) = RunsWithin queue_kind device budget start (ending_of fault) now

-- a piece, by how it leaves the queue
abbrev pub LeavesQueue : {State : Type 0} → Device State → Stage → Budget → Site Queue State
    → Site Queue State → Left → Type 0
LeavesQueue device stage budget old new Open = PausesAt stage device budget old new
LeavesQueue device stage budget old new (Closed met wanted) =
    EndsAt stage device budget old new (ending_of (fault_in met)) wanted

-- where the fault was met that ended its service, if one did
abbrev pub TellsWhere : {State : Type 0} → Device State → Stage → Site Queue State → Site Queue State → Left
    → Type 0
TellsWhere device stage old new Open = ⊤
TellsWhere device stage old new (Closed met wanted) = IfMetIn device stage old new met

-- Chains were served within the budget and haven't spent it, and the one on offer has these buffers; the device leaves
-- it, for a reason that it has then. What is left of the budget is told, with that chain taken off.
pub record IsLeftAt {State E : Type 0} (device : Device State)
    (Refuses : State → Memory → List Buffer → E → Type 0) (budget : Budget) (start now : Site Queue State)
    (buffers : List Buffer)
    (refused : Refused E) : Type 0 where
  pub course : Course queue_kind device start now
  pub within : AreWithin budget (chains_of course.chains)
  pub unspent : ¬ IsSpent (left_after budget (chains_of course.chains))
  pub ready : IsReady queue_kind device now
  pub offered : queue_kind.Offers now.memory now.ring buffers (entry_of refused.token)
  pub taken : IsTaken now.ring refused.token
  pub good : Good now.memory buffers
  pub refuses : Refuses now.state now.memory buffers refused.why
  pub left : refused.left ≡ less_chain (left_after budget (chains_of course.chains)) buffers

-- the same of a piece, from its opening on
pub record RefusesAt {State E : Type 0} (device : Device State)
    (Refuses : State → Memory → List Buffer → E → Type 0) (stage : Stage) (budget : Budget)
    (old new : Site Queue State) (buffers : List Buffer)
    (refused : Refused E) : Type 0 where
  pub opens : fault_at stage old.memory old.ring ≡ None
  pub left : IsLeftAt device Refuses budget (record old { ring = opened_at stage old.memory old.ring })
      new buffers refused

-- what a window shows of a queue that is left so
abbrev pub shown : Left → WindowState → WindowState
shown Open w = w
shown (Closed met wanted) w = after_service (ending_of (fault_in met)) wanted w

abbrev pub progress_of : Left → Progress
progress_of Open = More
progress_of (Closed met wanted) = Done

-- ---- what chains keep

-- a device and its backend between two chains
pub record Moment (D B : Type 0) : Type 0 where
  pub device : D
  pub backend : B

-- Each of some chains, one after another, keeps this.
abbrev pub KeepsAlong : {D B : Type 0} → (D → B → D → B → Type 0) → D → B → List (Moment D B) → D → B → Type 0
KeepsAlong Keeps d b [] d' b' = (d' ≡ d) × (b' ≡ b)
KeepsAlong Keeps d b (m ∷ later) d' b' = Keeps d b m.device m.backend
    × KeepsAlong Keeps m.device m.backend later d' b'

-- the same of a piece, whose chains are as many as they are
pub record IsKept {D B : Type 0} (Keeps : D → B → D → B → Type 0) (d : D) (b : B) (d' : D)
    (b' : B) : Type 0 where
  pub moments : List (Moment D B)
  pub along : KeepsAlong Keeps d b moments d' b'
