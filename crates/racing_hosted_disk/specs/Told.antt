-- What the host says of a disk that it serves, and what comes of that.
use Rattle.std.specs.Prelude.{◌≡◌, ℕ, Bool, true, false, not, ◌||◌, Some, None, get_or, set, is_some}
use Rattle.chain.specs.declared.budget.Budget.{Budget}
use Rattle.chain.specs.Service.{Entry}
use Rattle.shared_memory.specs.Sightings.{Sightings}
use Rattle.block_device.specs.declared.device.BlockDevice.{BlockDevice}
use Rattle.block_device.specs.declared.operation.HostEvent.{HostEvent}
use Rattle.block_device.specs.declared.operation.HostEvent.TheVariants.{Complete, Drop, Hold, Release}
use Rattle.block_device.specs.declared.operation.Verdict.{Verdict}
use Rattle.block_device.specs.Hosting.{hosted_device}
use Rattle.racing_service.specs.declared.stage.Stage.TheVariants.{First, Again}
use Rattle.racing_service.specs.Queue.{RacingKind}
use Rattle.racing_service.specs.Service.{IsClosing, standing_at}
use Rattle.racing_disk.specs.Completing.{IsGivenBack}
use Rattle.racing_hosted_disk.specs.declared.look.LookEnding.{LookEnding}
use Rattle.racing_hosted_disk.specs.declared.look.LookLimits.{LookLimits}
use Rattle.racing_hosted_disk.specs.Disk.{RacingHostedDisk}
use Rattle.racing_hosted_disk.specs.Looking.{LooksUnless, Place, ServesLooks, StaysIdle, place_at}
use Rattle.block_device.specs.Tags.{InFlight, freed, is_any}

-- Whether there is something to do: an operation has the tag, anything is in flight, the queue isn't on hold, or it is.
abbrev pub has_effect : {T : Type 0} → HostEvent → RacingHostedDisk T → Bool
has_effect (Complete tag verdict) disk = is_some (get_or disk.tags tag None)
has_effect Drop disk = is_any disk.tags
has_effect Hold disk = not disk.on_hold
has_effect Release disk = disk.on_hold

-- whether the queue is on hold then
abbrev pub held_by : HostEvent → Bool → Bool
held_by Hold on_hold = true
held_by Release on_hold = false
held_by said on_hold = on_hold

module _ {Ring T : Type 0} (queues : RacingKind Ring) (entry_of : T → Entry) (device : BlockDevice) (races : Bool) where
  -- The chain of this tag was completed and given back, its used entry behind its status, and the queue was closed behind
  -- that. The tag is free, and no other one changes.
  pub record Lands (tag : ℕ) (verdict : Verdict) (a b : Place Ring T) (wanted : Bool) : Type 0 where
    pub here : InFlight T
    pub there : get_or a.tags tag None ≡ Some here
    pub given : Sightings
    pub behind : Ring
    pub len : ℕ
    pub back : IsGivenBack queues races a.service.sightings given here.flight.status here.flight.writable
        here.flight.operation.kind verdict (entry_of here.flight.token) len a.service.ring behind
    pub closes : IsClosing queues (hosted_device device) races (standing_at given behind tt a.service.left) b.service wanted
    pub tags : b.tags ≡ set a.tags tag None

module _ {Ring T : Type 0} (queues : RacingKind Ring) (entry_of : T → Entry) (IsTaken : Ring → T → Type 0)
    (device : BlockDevice) (races : Bool) (limits : LookLimits) (stable : Bool) where
  -- and the queue was looked at behind those closing writes, unless it is on hold
  pub record Completes (tag : ℕ) (verdict : Verdict) (on_hold : Bool) (a b : Place Ring T) (ending : LookEnding)
      (wanted : Bool) : Type 0 where
    pub landed : Place Ring T
    pub before : Bool
    pub asked : Bool
    pub lands : Lands queues entry_of device races tag verdict a landed before
    pub looks : LooksUnless queues entry_of IsTaken device races limits stable on_hold Again landed b ending asked
    pub wanted_is : wanted ≡ (before || asked)

  -- what becomes of the queue and of the tags, by what the host says
  abbrev pub QueueTold : HostEvent → Bool → Place Ring T → Place Ring T → LookEnding → Bool → Type 0
  QueueTold (Complete tag verdict) on_hold a b ending wanted = Completes tag verdict on_hold a b ending wanted
  QueueTold Drop on_hold a b ending wanted =
      StaysIdle queues entry_of IsTaken device races limits stable (record a { tags = freed a.tags }) b ending wanted
  QueueTold Hold on_hold a b ending wanted =
      StaysIdle queues entry_of IsTaken device races limits stable a b ending wanted
  QueueTold Release on_hold a b ending wanted =
      ServesLooks queues entry_of IsTaken device races limits stable First a b ending wanted

-- The disk does what the host says.
pub record DoesAsTold {Ring T : Type 0} (queues : RacingKind Ring) (entry_of : T → Entry) (IsTaken : Ring → T → Type 0)
    (races : Bool) (limits : LookLimits) (stable : Bool) (said : HostEvent) (disk : RacingHostedDisk T) (old new : Sightings)
    (before after : Ring) (disk' : RacingHostedDisk T) (ending : LookEnding) (wanted : Bool) : Type 0 where
  pub left : Budget
  pub queue : QueueTold queues entry_of IsTaken disk.device races limits stable said disk.on_hold
      (place_at old before limits.budget disk.tags) (place_at new after left disk'.tags) ending wanted
  pub is : disk' ≡ record disk { tags = disk'.tags; on_hold = held_by said disk.on_hold }

-- What it does while its queue can't be served: a completion only frees its tag.
abbrev pub told_unserved : {T : Type 0} → HostEvent → RacingHostedDisk T → RacingHostedDisk T
told_unserved (Complete tag verdict) disk = record disk { tags = set disk.tags tag None }
told_unserved Drop disk = record disk { tags = freed disk.tags }
told_unserved Hold disk = record disk { on_hold = true }
told_unserved Release disk = record disk { on_hold = false }
