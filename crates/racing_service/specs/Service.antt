-- One service of a queue whose guest may write it meanwhile (2.7.13, 2.8.21), for each kind of racing ring and every device:
-- rounds of opening, chains and closing, until a look behind the closing writes finds no chain on offer.
use Rattle.std.specs.Prelude.{◌≡◌, ℕ, ◌<◌, ◌≤◌, Bool, true, false, ◌||◌, Option, Some, None, List, [], ◌∷◌, ◌⊎◌, length}
use Rattle.chain.specs.declared.budget.Budget.{Budget}
use Rattle.chain.specs.declared.budget.Progress.{Progress}
use Rattle.chain.specs.declared.budget.Progress.TheVariants as progress
use Rattle.chain.specs.declared.segment.Buffer.{Buffer}
use Rattle.chain.specs.declared.fault.Fault.{Fault}
use Rattle.chain.specs.Budget.{IsSpent, less_chain}
use Rattle.chain.specs.Service.{Device, Entry}
use Rattle.guest_memory.specs.Memory.{Memory}
use Rattle.shared_memory.specs.Sightings.{Sightings, Loads, memory}
use Rattle.racing_service.specs.declared.service.Ending.{Ending}
use Rattle.racing_service.specs.declared.service.Ending.TheVariants.{Settled, Faulted, More}
use Rattle.racing_service.specs.declared.stage.Stage.{Stage}
use Rattle.racing_service.specs.declared.stage.Stage.TheVariants.{First, Next, Again}
use Rattle.racing_service.specs.declared.service.Stop.{Stop}
use Rattle.racing_service.specs.declared.service.Stop.TheVariants.{Idle, Dry, Paused, Broken}
use Rattle.racing_service.specs.Queue.{RacingKind}
use Rattle.chain_handler.specs.Device.{DoesRaced, RefusesRaced}

-- where a service stands: what the memory was seen as, the ring, the device's state, and what is left of the budget
pub record Standing (Ring State : Type 0) : Type 0 where
  pub sightings : Sightings
  pub ring : Ring
  pub state : State
  pub left : Budget

abbrev pub standing_at : {Ring State : Type 0} → Sightings → Ring → State → Budget → Standing Ring State
standing_at sightings ring state left = record { sightings = sightings; ring = ring; state = state; left = left }

-- why a round serves no more chains: none is on offer, or the device takes none; the chain on offer has a fault, or
-- the opening met one; or the budget is spent
pub data Halt : Type 0 where
  Drained : Halt
  Met : Fault → Halt
  Limited : Halt

-- a round that ended with none on offer: whether a notification was wanted, and where the service stood behind it
pub record Round (Ring State : Type 0) : Type 0 where
  pub wanted : Bool
  pub after : Standing Ring State

-- a notification was wanted in one of them
abbrev pub any_wanted : {Ring State : Type 0} → List (Round Ring State) → Bool
any_wanted [] = false
any_wanted (r ∷ rounds) = r.wanted || any_wanted rounds

-- where the next round begins: behind the closing writes of the last one, or where the service began
abbrev pub stage_behind : {Ring State : Type 0} → Stage → List (Round Ring State) → Stage
stage_behind stage [] = stage
stage_behind stage (r ∷ rounds) = Again

-- the fault that opening meets at a stage, and the ring then: a ring that stands open isn't opened
abbrev pub fault_at : {Ring : Type 0} → RacingKind Ring → Stage → Memory → Ring → Option Fault
fault_at kind First m ring = kind.still.opening_fault m ring
fault_at kind Next m ring = None
fault_at kind Again m ring = kind.still.opening_fault m ring

abbrev pub opened_at : {Ring : Type 0} → RacingKind Ring → Stage → Memory → Ring → Ring
opened_at kind First m ring = kind.still.opened m ring
opened_at kind Next m ring = ring
opened_at kind Again m ring = kind.still.opened m ring

module _ {Ring State : Type 0} (kind : RacingKind Ring) (device : Device State) (races : Bool) where
  -- One chain was seen on offer, was served, and was given back: its used entry is stored behind what the device wrote.
  pub record ServesOne (a b : Standing Ring State) : Type 0 where
    pub taken : Sightings
    pub served : Sightings
    pub buffers : List Buffer
    pub entry : Entry
    pub len : ℕ
    pub any : Bool
    pub takes : device.takes a.state ≡ true
    pub within : ¬ IsSpent a.left
    pub loads : Loads races a.sightings taken
    pub told : kind.IsTold a.sightings taken a.ring true
    pub offered : kind.IsOffered a.sightings taken a.ring buffers entry
    pub does : DoesRaced device races taken served buffers a.state b.state len any
    pub given : kind.IsGiven races served b.sightings a.ring entry len any
    pub past : b.ring ≡ kind.still.past a.ring entry
    pub left : b.left ≡ less_chain a.left buffers

  -- chains one after another; the list has where the service stood behind each
  abbrev pub ServesSome : Standing Ring State → List (Standing Ring State) → Standing Ring State → Type 0
  ServesSome a [] b = b ≡ a
  ServesSome a (x ∷ between) b = ServesOne a x × ServesSome x between b

  -- at most the memory was read
  pub record OnlyLoads (a b : Standing Ring State) : Type 0 where
    pub loads : Loads races a.sightings b.sightings
    pub state : b.state ≡ a.state
    pub left : b.left ≡ a.left

  -- no chain was seen on offer, or the device takes none
  pub record FindsNone (a b : Standing Ring State) : Type 0 where
    pub only : OnlyLoads a b
    pub none : device.takes a.state ≡ true → kind.IsTold a.sightings b.sightings a.ring false
    pub ring : b.ring ≡ a.ring

  -- the chain that was seen on offer has a fault
  pub record FindsFault (fault : Fault) (a b : Standing Ring State) : Type 0 where
    pub only : OnlyLoads a b
    pub takes : device.takes a.state ≡ true
    pub faulty : kind.IsFaulty a.sightings b.sightings a.ring fault
    pub ring : b.ring ≡ kind.still.stopped a.ring

  -- a chain was seen on offer, and nothing is left of the budget
  pub record FindsOneMore (a b : Standing Ring State) : Type 0 where
    pub only : OnlyLoads a b
    pub takes : device.takes a.state ≡ true
    pub spent : IsSpent a.left
    pub told : kind.IsTold a.sightings b.sightings a.ring true
    pub buffers : List Buffer
    pub entry : Entry
    pub offered : kind.IsOffered a.sightings b.sightings a.ring buffers entry
    pub ring : b.ring ≡ a.ring

  abbrev pub HaltsBy : Halt → Standing Ring State → Standing Ring State → Type 0
  HaltsBy Drained a b = FindsNone a b
  HaltsBy (Met fault) a b = FindsFault fault a b
  HaltsBy Limited a b = FindsOneMore a b

  -- chains were served from here on, until the round served no more
  pub record Serves (a : Standing Ring State) (halt : Halt) (b : Standing Ring State) : Type 0 where
    pub between : List (Standing Ring State)
    pub at : Standing Ring State
    pub serves : ServesSome a between at
    pub halts : HaltsBy halt at b

  -- the ring was opened, by what was seen last, or stands open
  pub record IsOpened (stage : Stage) (a b : Standing Ring State) : Type 0 where
    pub only : OnlyLoads a b
    pub ring : b.ring ≡ opened_at kind stage (memory b.sightings) a.ring

  -- what comes behind the opening: nothing where it met a fault
  abbrev pub Works : Option Fault → Standing Ring State → Halt → Standing Ring State → Type 0
  Works (Some fault) a halt b = (halt ≡ Met fault) × (b ≡ a)
  Works None a halt b = Serves a halt b

  -- a round, up to its closing
  pub record IsRun (stage : Stage) (a : Standing Ring State) (halt : Halt) (b : Standing Ring State) : Type 0 where
    pub opened : Standing Ring State
    pub opens : IsOpened stage a opened
    pub works : Works (fault_at kind stage (memory opened.sightings) a.ring) opened halt b

  -- the queue was closed
  pub record IsClosing (a b : Standing Ring State) (wanted : Bool) : Type 0 where
    pub closed : kind.IsClosed races a.sightings b.sightings a.ring wanted
    pub ring : b.ring ≡ kind.still.shut a.ring
    pub state : b.state ≡ a.state
    pub left : b.left ≡ a.left

  -- a round: opening, chains, and closing
  pub record IsRound (stage : Stage) (a : Standing Ring State) (halt : Halt) (b : Standing Ring State) (wanted : Bool)
      : Type 0 where
    pub last : Standing Ring State
    pub run : IsRun stage a halt last
    pub closes : IsClosing last b wanted

  -- at least one chain was served from here on, until none was on offer
  pub record ServesAny (a b : Standing Ring State) : Type 0 where
    pub first : Standing Ring State
    pub one : ServesOne a first
    pub more : Serves first Drained b

  -- a round of at least one chain, up to its closing
  pub record IsBusyRun (stage : Stage) (a b : Standing Ring State) : Type 0 where
    pub opened : Standing Ring State
    pub opens : IsOpened stage a opened
    pub no_fault : fault_at kind stage (memory opened.sightings) a.ring ≡ None
    pub serves : ServesAny opened b

  -- and with it, behind the closing writes of the round before
  pub record IsBusyRound (a b : Standing Ring State) (wanted : Bool) : Type 0 where
    pub last : Standing Ring State
    pub run : IsBusyRun Again a last
    pub closes : IsClosing last b wanted

  -- rounds one after another, each of which served a chain and ended with none on offer
  abbrev pub AreBusyRounds : Standing Ring State → List (Round Ring State) → Standing Ring State → Type 0
  AreBusyRounds a [] b = b ≡ a
  AreBusyRounds a (r ∷ rounds) b = IsBusyRound a r.after r.wanted × AreBusyRounds r.after rounds b

  -- a first round, which may have served none unless closing writes were made right before
  abbrev pub IsFirstRound : Stage → Standing Ring State → Standing Ring State → Bool → Type 0
  IsFirstRound First a b wanted = IsRound First a Drained b wanted
  IsFirstRound Next a b wanted = IsRound Next a Drained b wanted
  IsFirstRound Again a b wanted = IsBusyRound a b wanted

  -- rounds from this stage on, each of which ended with none on offer
  abbrev pub AreRounds : Stage → Standing Ring State → List (Round Ring State) → Standing Ring State → Type 0
  AreRounds stage a [] b = b ≡ a
  AreRounds stage a (r ∷ rounds) b = IsFirstRound stage a r.after r.wanted × AreBusyRounds r.after rounds b

  -- A look at the ring finds nothing new: it is opened without a fault, and no chain is seen on offer.
  pub record IsLook (stage : Stage) (a b : Standing Ring State) : Type 0 where
    pub opened : Standing Ring State
    pub opens : IsOpened stage a opened
    pub no_fault : fault_at kind stage (memory opened.sightings) a.ring ≡ None
    pub finds : FindsNone opened b

  -- The service is settled: behind the closing writes of its last round, or those right before the service, a look finds
  -- nothing new, and the ring is shut. So a driver that offered a chain before them was seen, and one that offers a chain behind
  -- them sees them, and notifies (2.7.10, 2.8.10).
  pub record IsSettled (stage : Stage) (rounds : List (Round Ring State)) (at b : Standing Ring State)
      (wanted : Bool) : Type 0 where
    pub behind : stage_behind stage rounds ≡ Again
    pub looked : Standing Ring State
    pub look : IsLook Again at looked
    pub shut : b ≡ record looked { ring = kind.still.shut looked.ring }
    pub wanted_is : wanted ≡ any_wanted rounds

  -- one more round ends so, and the service with it
  pub record EndsWith (stage : Stage) (halt : Halt) (rounds : List (Round Ring State)) (at b : Standing Ring State)
      (wanted : Bool) : Type 0 where
    pub asked : Bool
    pub round : IsRound (stage_behind stage rounds) at halt b asked
    pub wanted_is : wanted ≡ (any_wanted rounds || asked)

  -- it has had as many rounds as it may
  pub record HasHadAll (most : ℕ) (rounds : List (Round Ring State)) (at b : Standing Ring State)
      (wanted : Bool) : Type 0 where
    pub all : length rounds ≡ most
    pub stands : b ≡ at
    pub wanted_is : wanted ≡ any_wanted rounds

  abbrev pub EndsBy : Stage → Ending → ℕ → List (Round Ring State) → Standing Ring State → Standing Ring State → Bool
      → Type 0
  EndsBy stage Settled most rounds at b wanted = IsSettled stage rounds at b wanted
  EndsBy stage (Faulted fault) most rounds at b wanted = EndsWith stage (Met fault) rounds at b wanted
  EndsBy stage More most rounds at b wanted =
      EndsWith stage Limited rounds at b wanted ⊎ HasHadAll most rounds at b wanted

  -- one service from this stage on, of at most so many rounds
  pub record IsRacingService (stage : Stage) (most : ℕ) (a b : Standing Ring State) (ending : Ending) (wanted : Bool)
      : Type 0 where
    pub rounds : List (Round Ring State)
    pub few : length rounds ≤ most
    pub at : Standing Ring State
    pub serves : AreRounds stage a rounds at
    pub ends : EndsBy stage ending most rounds at b wanted

  -- ---- a chain that its device leaves

  -- The chain that was seen on offer is left there, for a reason that the device has then.
  pub record LeavesOne {E : Type 0} (Refuses : State → List ℕ → List Buffer → E → Type 0) (buffers : List Buffer) (entry : Entry) (why : E)
      (a b : Standing Ring State) : Type 0 where
    pub taken : Sightings
    pub takes : device.takes a.state ≡ true
    pub within : ¬ IsSpent a.left
    pub loads : Loads races a.sightings taken
    pub told : kind.IsTold a.sightings taken a.ring true
    pub offered : kind.IsOffered a.sightings taken a.ring buffers entry
    pub refuses : RefusesRaced Refuses races taken b.sightings buffers a.state why
    pub ring : b.ring ≡ a.ring
    pub state : b.state ≡ a.state
    pub left : b.left ≡ less_chain a.left buffers

  -- chains were served up to it
  pub record ServesUpTo {E : Type 0} (Refuses : State → List ℕ → List Buffer → E → Type 0) (buffers : List Buffer) (entry : Entry) (why : E)
      (a b : Standing Ring State) : Type 0 where
    pub between : List (Standing Ring State)
    pub at : Standing Ring State
    pub serves : ServesSome a between at
    pub leaves : LeavesOne Refuses buffers entry why at b

  -- a round up to it, whose ring stands open
  pub record RunsUpTo {E : Type 0} (Refuses : State → List ℕ → List Buffer → E → Type 0) (stage : Stage)
      (buffers : List Buffer) (entry : Entry) (why : E) (a b : Standing Ring State) : Type 0 where
    pub opened : Standing Ring State
    pub opens : IsOpened stage a opened
    pub no_fault : fault_at kind stage (memory opened.sightings) a.ring ≡ None
    pub serves : ServesUpTo Refuses buffers entry why opened b

  -- a service up to it; a notification was wanted in one of the rounds before
  pub record IsRefusedService {E : Type 0} (Refuses : State → List ℕ → List Buffer → E → Type 0) (stage : Stage) (most : ℕ)
      (a b : Standing Ring State) (buffers : List Buffer) (entry : Entry) (why : E) (wanted : Bool) : Type 0 where
    pub rounds : List (Round Ring State)
    pub few : length rounds < most
    pub at : Standing Ring State
    pub serves : AreRounds stage a rounds at
    pub leaves : RunsUpTo Refuses (stage_behind stage rounds) buffers entry why at b
    pub wanted_is : wanted ≡ any_wanted rounds

  -- ---- a round up to its closing, by how the code tells it

  abbrev pub RunsAs : Stage → Stop → Standing Ring State → Standing Ring State → Type 0
  RunsAs stage Idle a b = IsLook stage a b
  RunsAs stage Dry a b = IsBusyRun stage a b
  RunsAs stage Paused a b = IsRun stage a Limited b
  RunsAs stage (Broken fault) a b = IsRun stage a (Met fault) b

  abbrev pub ServesAs : Stop → Standing Ring State → Standing Ring State → Type 0
  ServesAs Idle a b = FindsNone a b
  ServesAs Dry a b = ServesAny a b
  ServesAs Paused a b = Serves a Limited b
  ServesAs (Broken fault) a b = Serves a (Met fault) b

-- whether the queue is to be served once more
abbrev pub progress_of : Ending → Progress
progress_of Settled = progress.Done
progress_of (Faulted fault) = progress.Done
progress_of More = progress.More

-- why a service ends with a round that stops so, if it does
abbrev pub ending_of : Stop → Option Ending
ending_of Idle = None
ending_of Dry = None
ending_of Paused = Some More
ending_of (Broken fault) = Some (Faulted fault)
