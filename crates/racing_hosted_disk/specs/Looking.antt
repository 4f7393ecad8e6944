-- What a notification of the queue comes to, whatever the guest writes meanwhile: looks one after another, of which each
-- finds a request, until one finds none.
use Rattle.std.specs.Prelude.{◌≡◌, ℕ, ◌≤◌, Bool, true, false, ◌||◌, Option, Some, None, List, [], ◌∷◌, length, set}
use Rattle.chain.specs.declared.budget.Budget.{Budget}
use Rattle.chain.specs.declared.budget.Progress.{Progress}
use Rattle.chain.specs.declared.budget.Progress.TheVariants as progress
use Rattle.chain.specs.declared.segment.Buffer.{Buffer}
use Rattle.chain.specs.Service.{Entry}
use Rattle.shared_memory.specs.Sightings.{Sightings}
use Rattle.block_device.specs.declared.device.BlockDevice.{BlockDevice}
use Rattle.block_device.specs.Hosting.{hosted_device}
use Rattle.racing_service.specs.declared.service.Ending.{Ending}
use Rattle.racing_service.specs.declared.stage.Stage.{Stage}
use Rattle.racing_service.specs.declared.stage.Stage.TheVariants.{First, Next}
use Rattle.racing_service.specs.Queue.{RacingKind}
use Rattle.racing_service.specs.Service as services
use Rattle.racing_service.specs.Service.{IsClosing, IsRacingService, Standing, standing_at}
use Rattle.racing_disk.specs.Looking.{FindsOneThatAsks, FindsOneToAnswer}
use Rattle.racing_hosted_disk.specs.declared.look.LookEnding.{LookEnding}
use Rattle.racing_hosted_disk.specs.declared.look.Served as outcome
use Rattle.racing_hosted_disk.specs.declared.look.LookEnding.TheVariants.{Served, Full, Limited, Idle}
use Rattle.racing_hosted_disk.specs.declared.look.LookLimits.{LookLimits}
use Rattle.racing_hosted_disk.specs.Disk.{RacingHostedDisk}
use Rattle.block_device.specs.Tags.{InFlight, free_tag}

-- where a disk stands between two looks: its service, and its tags
pub record Place (Ring T : Type 0) : Type 0 where
  pub service : Standing Ring (Unit {0})
  pub tags : List (Option (InFlight T))

abbrev pub place_at : {Ring T : Type 0} → Sightings → Ring → Budget → List (Option (InFlight T)) → Place Ring T
place_at sightings ring left tags = record { service = standing_at sightings ring tt left; tags = tags }

-- a look that found a request: what asks the host for something, whether a notification was wanted, and where the disk stood
-- behind it
pub record Look (Ring T : Type 0) : Type 0 where
  pub asks : Option (InFlight T)
  pub wanted : Bool
  pub after : Place Ring T

-- a notification was wanted in one of them
abbrev pub any_wanted : {Ring T : Type 0} → List (Look Ring T) → Bool
any_wanted [] = false
any_wanted (l ∷ looks) = l.wanted || any_wanted looks

-- where the next look begins: behind a request the queue stands open
abbrev pub stage_behind : {Ring T : Type 0} → Stage → List (Look Ring T) → Stage
stage_behind stage [] = stage
stage_behind stage (l ∷ looks) = Next

module _ {Ring T : Type 0} (queues : RacingKind Ring) (entry_of : T → Entry) (IsTaken : Ring → T → Type 0)
    (device : BlockDevice) (races : Bool) (stage : Stage) (most : ℕ) (stable : Bool) where
  -- A chain that asks is in flight, by a token of the ring as it was taken from it.
  pub record AsksIn (here : InFlight T) (a b : Standing Ring (Unit {0})) (wanted : Bool) : Type 0 where
    pub buffers : List Buffer
    pub finds : FindsOneThatAsks queues device races stage most (λ ring. IsTaken ring here.flight.token) stable a b
        (entry_of here.flight.token) here.flight.operation here.flight.status here.flight.writable buffers here.runs wanted

  -- or one that asks for nothing was answered
  abbrev pub FindsIn : Option (InFlight T) → Standing Ring (Unit {0}) → Standing Ring (Unit {0}) → Bool → Type 0
  FindsIn (Some here) a b wanted = AsksIn here a b wanted
  FindsIn None a b wanted = FindsOneToAnswer queues device races stage most a b wanted

  -- A look finds a request, and the queue stands open behind its chain. What asks is in the lowest free tag from then on; no
  -- other tag changes.
  pub record LooksOn (asks : Option (InFlight T)) (a b : Place Ring T) (wanted : Bool) : Type 0 where
    pub tag : ℕ
    pub free : free_tag a.tags ≡ Some tag
    pub finds : FindsIn asks a.service b.service wanted
    pub tags : b.tags ≡ set a.tags tag asks

module _ {Ring T : Type 0} (queues : RacingKind Ring) (entry_of : T → Entry) (IsTaken : Ring → T → Type 0)
    (device : BlockDevice) (races : Bool) (limits : LookLimits) (stable : Bool) where
  -- looks one after another, each behind the first in the queue as it stands open
  abbrev pub AreLooks : Stage → Place Ring T → List (Look Ring T) → Place Ring T → Type 0
  AreLooks stage a [] b = b ≡ a
  AreLooks stage a (l ∷ looks) b =
      LooksOn queues entry_of IsTaken device races stage limits.rounds stable l.asks a l.after l.wanted
      × AreLooks Next l.after looks b

  -- A further look finds no request, and the service ends so; a tag is free then.
  pub record EndsServed (stage : Stage) (ending : Ending) (looks : List (Look Ring T)) (at b : Place Ring T)
      (wanted : Bool) : Type 0 where
    pub tag : ℕ
    pub free : free_tag at.tags ≡ Some tag
    pub asked : Bool
    pub service : IsRacingService queues (hosted_device device) races (stage_behind stage looks) limits.rounds at.service
        b.service ending asked
    pub tags : b.tags ≡ at.tags
    pub wanted_is : wanted ≡ (any_wanted looks || asked)

  -- No tag is free, so there is no further look, and the queue is left as it stands.
  pub record EndsFull (looks : List (Look Ring T)) (at b : Place Ring T) (wanted : Bool) : Type 0 where
    pub full : free_tag at.tags ≡ None
    pub stands : b ≡ at
    pub wanted_is : wanted ≡ any_wanted looks

  -- There were as many looks as there may be, and the queue was closed behind them.
  pub record EndsLimited (looks : List (Look Ring T)) (at b : Place Ring T) (wanted : Bool) : Type 0 where
    pub all : length looks ≡ limits.looks
    pub asked : Bool
    pub closes : IsClosing queues (hosted_device device) races at.service b.service asked
    pub tags : b.tags ≡ at.tags
    pub wanted_is : wanted ≡ (any_wanted looks || asked)

  abbrev pub EndsLooks : Stage → LookEnding → List (Look Ring T) → Place Ring T → Place Ring T → Bool → Type 0
  EndsLooks stage (Served ending) looks at b wanted = EndsServed stage ending looks at b wanted
  EndsLooks stage Full looks at b wanted = EndsFull looks at b wanted
  EndsLooks stage Limited looks at b wanted = EndsLimited looks at b wanted
  EndsLooks stage Idle looks at b wanted = ⊥

  -- the looks that a notification, or what the host says, comes to
  pub record ServesLooks (stage : Stage) (a b : Place Ring T) (ending : LookEnding) (wanted : Bool) : Type 0 where
    pub looks : List (Look Ring T)
    pub few : length looks ≤ limits.looks
    pub at : Place Ring T
    pub are : AreLooks stage a looks at
    pub ends : EndsLooks stage ending looks at b wanted

  -- the same, with something left of the budget
  pub record HasLooked (stage : Stage) (a : Place Ring T) (new : Sightings) (after : Ring)
      (tags : List (Option (InFlight T))) (ending : LookEnding) (wanted : Bool) : Type 0 where
    pub left : Budget
    pub serves : ServesLooks stage a (place_at new after left tags) ending wanted

  -- no look
  pub record StaysIdle (a b : Place Ring T) (ending : LookEnding) (wanted : Bool) : Type 0 where
    pub stands : b ≡ a
    pub ending_is : ending ≡ Idle
    pub unwanted : wanted ≡ false

  -- a queue on hold isn't looked at
  abbrev pub LooksUnless : Bool → Stage → Place Ring T → Place Ring T → LookEnding → Bool → Type 0
  LooksUnless true stage a b ending wanted = StaysIdle a b ending wanted
  LooksUnless false stage a b ending wanted = ServesLooks stage a b ending wanted

-- A disk looks at its queue, from this stage on.
pub record LooksAtQueue {Ring T : Type 0} (queues : RacingKind Ring) (entry_of : T → Entry)
    (IsTaken : Ring → T → Type 0) (races : Bool) (limits : LookLimits) (stable : Bool) (stage : Stage)
    (disk : RacingHostedDisk T) (old new : Sightings) (before after : Ring) (disk' : RacingHostedDisk T)
    (ending : LookEnding) (wanted : Bool) : Type 0 where
  pub left : Budget
  pub looks : LooksUnless queues entry_of IsTaken disk.device races limits stable disk.on_hold stage
      (place_at old before limits.budget disk.tags) (place_at new after left disk'.tags) ending wanted
  pub is : disk' ≡ record disk { tags = disk'.tags }

-- The queue of a disk was notified.
abbrev pub ServesDisk : {Ring T : Type 0} → RacingKind Ring → (T → Entry) → (Ring → T → Type 0) → Bool → LookLimits → Bool
    → RacingHostedDisk T → Sightings → Sightings → Ring → Ring → RacingHostedDisk T → LookEnding → Bool → Type 0
ServesDisk queues entry_of IsTaken races limits stable =
    LooksAtQueue queues entry_of IsTaken races limits stable First

-- whether the queue is to be served once more
abbrev pub progress_of : LookEnding → Progress
progress_of (Served ending) = services.progress_of ending
progress_of Full = progress.Done
progress_of Limited = progress.More
progress_of Idle = progress.Done

-- what a call comes to that doesn't look at the queue
abbrev pub idle : outcome.Served
idle = record { ending = Idle; wanted = false }
