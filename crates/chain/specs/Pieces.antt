-- A service in pieces (2.7.13, 2.8.14 and 2.8.21), for every kind of ring and every device: some of its
-- chains are served, then it pauses, and its ring stands open until it goes on. What its driver finds at the
-- end is one service.
use Rattle.std.specs.Prelude.{◌≡◌, ◌↔◌, Bool, IsTrue, None, List, [], ◌∷◌}
use Rattle.chain.specs.declared.budget.Budget.{Budget}
use Rattle.chain.specs.declared.segment.Buffer.{Buffer}
use Rattle.chain.specs.Budget.{AreWithin, IsSpent, chains_of, left_after}
use Rattle.chain.specs.Service.{Entry, Kind, Device, Ending, Refused, Site, IsReady, Runs, open_site, close_site, IsService, Course}

-- a pause: where the service stands, and the device's state as it goes on
pub record Pause (Ring State : Type 0) : Type 0 where
  pub at : Site Ring State
  pub state : State

-- The chains of a piece that ends so are within the budget. One that leaves a chain for want of memory hasn't spent it
-- before: else it pauses there.
pub record IsInBudget (budget : Budget) (ending : Ending) (chains : List (List Buffer)) : Type 0 where
  pub each : AreWithin budget chains
  pub refused : ending ≡ Refused → ¬ IsSpent (left_after budget chains)

module _ {Ring State : Type 0} (kind : Kind Ring) (device : Device State) where
  -- A service that was opened and isn't closed: its ring met no fault, and chains were served up to here.
  pub record IsPart (old now : Site Ring State) : Type 0 where
    pub opens : kind.opening_fault old.memory old.ring ≡ None
    pub course : Course kind device (open_site kind device old) now

  -- From here on chains are served until the service ends, and the ring is closed.
  pub record GoesToEnd (now new : Site Ring State) (ending : Ending) (wanted : Bool) : Type 0 where
    pub last : Site Ring State
    pub runs : Runs kind device now ending last
    pub closed : new ≡ close_site kind device last
    pub wanted_is : IsTrue wanted ↔ kind.Wants (kind.closed last.memory last.ring) last.ring

  -- ---- within a budget

  -- A piece that pauses: the chains that it served have spent the budget, and one more is on offer, which
  -- isn't touched.
  pub record Pauses (budget : Budget) (start now : Site Ring State) : Type 0 where
    pub course : Course kind device start now
    pub within : AreWithin budget (chains_of course.chains)
    pub spent : IsSpent (left_after budget (chains_of course.chains))
    pub ready : IsReady kind device now
    pub buffers : List Buffer
    pub entry : Entry
    pub offered : kind.Offers now.memory now.ring buffers entry

  -- the chains of a piece that doesn't pause
  pub record RunsWithin (budget : Budget) (start : Site Ring State) (ending : Ending)
      (last : Site Ring State) : Type 0 where
    pub runs : Runs kind device start ending last
    pub within : IsInBudget budget ending (chains_of runs.chains)

  -- A piece that goes to the end.
  pub record EndsWithin (budget : Budget) (now new : Site Ring State) (ending : Ending)
      (wanted : Bool) : Type 0 where
    pub ends : GoesToEnd now new ending wanted
    pub within : IsInBudget budget ending (chains_of ends.runs.chains)

  -- A service whose first piece pauses.
  pub record BeginsWithin (budget : Budget) (old now : Site Ring State) : Type 0 where
    pub opens : kind.opening_fault old.memory old.ring ≡ None
    pub pauses : Pauses budget (open_site kind device old) now

  -- A service in one piece: after a fault of the opening it is closed at once.
  pub record IsServiceWithin (budget : Budget) (old new : Site Ring State) (ending : Ending)
      (wanted : Bool) : Type 0 where
    pub service : IsService kind device old new ending wanted
    pub within : kind.opening_fault old.memory old.ring ≡ None
        → EndsWithin budget (open_site kind device old) new ending wanted

  -- ---- with pauses

  -- From here on it goes to its end with pauses. In a pause memory and ring stay, and the device's state may
  -- become another one that its driver can't tell from it.
  abbrev pub GoesInPieces : (State → State → Type 0) → Site Ring State → List (Pause Ring State)
      → Site Ring State → Ending → Bool → Type 0
  GoesInPieces Alike now [] new ending wanted = GoesToEnd now new ending wanted
  GoesInPieces Alike now (pause ∷ pauses) new ending wanted =
      Course kind device now pause.at × Alike pause.state pause.at.state
      × GoesInPieces Alike (record pause.at { state = pause.state }) pauses new ending wanted

  -- It is one service, but for a state of the device that its driver can't tell from the one that it ends in.
  pub record IsOneService (Alike : State → State → Type 0) (old new : Site Ring State) (ending : Ending)
      (wanted : Bool) : Type 0 where
    pub state : State
    pub alike : Alike new.state state
    pub service : IsService kind device old (record new { state = state }) ending wanted
