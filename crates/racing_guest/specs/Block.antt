-- The block device of a guest whose CPUs run on (5.2): its window, and a disk that its host serves. What becomes of both at
-- each call, whatever the guest writes meanwhile.
use Rattle.std.specs.Prelude.{◌≡◌, ℕ, zero, ◌&&◌, Bool, true, false, Option, Some, None, List, All, IfSome}
use Rattle.guest_memory.specs.Memory.{Memory}
use Rattle.chain.specs.declared.budget.Progress.{Progress}
use Rattle.chain.specs.declared.budget.Progress.TheVariants.{Done, More}
use Rattle.chain.specs.declared.fault.Fault.{Fault}
use Rattle.mmio_window.specs.declared.action.Action.{Action}
use Rattle.mmio_window.specs.declared.action.Action.TheVariants as action
use Rattle.mmio_window.specs.declared.device_kind.DeviceKind.TheVariants.{Block}
use Rattle.mmio_window.specs.declared.fault_note.QueueFault.{QueueFault}
use Rattle.mmio_window.specs.declared.queue.Queue.{Queue}
use Rattle.mmio_window.specs.declared.queue.Token.{Token}
use Rattle.mmio_window.specs.Queue.{Fits, IsTaken, ahead_of, entry_of}
use Rattle.mmio_window.specs.Reading.{read_value}
use Rattle.mmio_window.specs.Ready.{may_stop_queues}
use Rattle.mmio_window.specs.Serving.{after_service, ending_of}
use Rattle.mmio_window.specs.Soundness.{IsSound}
use Rattle.mmio_window.specs.Window.{WindowState, fresh_window, queue_at, with_reset_asked, with_ring}
use Rattle.mmio_window.specs.Writing.{action_of, written}
use Rattle.shared_memory.specs.Sightings.{Sightings, memory}
use Rattle.block_device.specs.declared.operation.HostEvent.{HostEvent}
use Rattle.block_device.specs.declared.operation.HostEvent.TheVariants.{Drop}
use Rattle.block_device.specs.Config.{block_features, config_of}
use Rattle.block_device.specs.Hosting.{wants_stable}
use Rattle.racing_service.specs.Flights.{AreAhead}
use Rattle.racing_window.specs.Queue.{racing_queue}
use Rattle.racing_window.specs.Serving.{fault_of, met_with}
use Rattle.racing_hosted_disk.specs.declared.look.LookEnding.{LookEnding}
use Rattle.racing_hosted_disk.specs.declared.look.LookEnding.TheVariants.{Served, Full, Limited, Idle}
use Rattle.racing_hosted_disk.specs.declared.look.LookLimits.{LookLimits}
use Rattle.racing_hosted_disk.specs.Disk.{RacingHostedDisk, fresh_disk}
use Rattle.racing_hosted_disk.specs.Looking.{ServesDisk, progress_of}
use Rattle.block_device.specs.Tags.{TagIsHeld, is_any, tokens_of}
use Rattle.racing_hosted_disk.specs.Told.{DoesAsTold, told_unserved}
use Rattle.racing_guest.specs.declared.reply.GuestQueue.TheVariants as queues
use Rattle.racing_guest.specs.declared.reply.Reply.{Reply}
use Rattle.racing_guest.specs.declared.reply.Reply.TheVariants as reply
use Rattle.racing_guest.specs.Reply.{NothingHappens}

pub record RacingBlock : Type 0 where
  pub window : WindowState
  pub disk : RacingHostedDisk Token

-- one of so many sectors, as after a reset, of which so many operations may be in flight: none is
abbrev pub fresh_block : ℕ → Bool → List ℕ → ℕ → RacingBlock
fresh_block sectors read_only identity depth = record {
  window = fresh_window Block (block_features read_only) 0;
  disk = fresh_disk Token sectors read_only identity depth;
}

-- what a read of its window gives (4.2.2)
abbrev pub block_register : ℕ → ℕ → RacingBlock → ℕ
block_register offset width block =
    read_value offset width (config_of block.disk.device.extent.count) block.window

-- whether a write at this offset of its window waits for what is in flight: one that may stop the queue
abbrev pub must_wait : ℕ → RacingBlock → Bool
must_wait offset block = is_any block.disk.tags && may_stop_queues offset

-- ---- what holds between two calls

-- The window is sound for the memory. Nothing that the host is told lies outside the guest's memory or its disk. Each chain in
-- flight lies between the next used entry and the next chain, where the queue may be served.
pub record IsSoundBlock (m : Memory) (block : RacingBlock) : Type 0 where
  pub window : IsSound m block.window
  pub each : All (TagIsHeld block.disk.device.extent.count m) block.disk.tags
  pub ahead : IfSome (queue_at 0 block.window)
      (λ queue. AreAhead entry_of Fits ahead_of queue (tokens_of block.disk.tags))

-- ---- a notification

-- the fault that looks at the queue met, if they met one
abbrev pub fault_met : LookEnding → Option Fault
fault_met (Served ending) = fault_of ending
fault_met Full = None
fault_met Limited = None
fault_met Idle = None

-- and where in this queue, as it stands behind the looks
abbrev pub queue_fault_met : Queue → LookEnding → Option QueueFault
queue_fault_met queue (Served ending) = met_with queue ending
queue_fault_met queue Full = None
queue_fault_met queue Limited = None
queue_fault_met queue Idle = None

-- The window with its queue served up to `last`. It shows a used buffer where the driver wants to be told of one, and after a
-- fault it asks to be reset (2.1.2).
abbrev pub showing : WindowState → Queue → LookEnding → Bool → WindowState
showing w last ending wanted = after_service (ending_of (fault_met ending)) wanted (with_ring 0 w last)

-- The disk looks at this queue of the window, which was notified.
pub record ServesBlock (races : Bool) (limits : LookLimits) (queue : Queue) (old new : Sightings)
    (before after : RacingBlock) (progress : Progress) : Type 0 where
  pub last : Queue
  pub ending : LookEnding
  pub wanted : Bool
  pub disk : ServesDisk racing_queue entry_of IsTaken races limits (wants_stable before.window) before.disk old new queue last
      after.disk ending wanted
  pub window : after.window ≡ showing before.window last ending wanted
  pub progress_is : progress ≡ progress_of ending

-- What a notification does, by the queue that the device may serve: there is one where the window is live and the queue ready.
abbrev pub NotifiesBlock : Bool → LookLimits → Option Queue → Sightings → Sightings → RacingBlock → RacingBlock → Progress
    → Type 0
NotifiesBlock races limits None old new before after progress = NothingHappens old new before after progress
NotifiesBlock races limits (Some queue) old new before after progress =
    ServesBlock races limits queue old new before after progress

-- ---- a write to the window

-- whether a write notifies the device's queue, of which there is one
abbrev pub is_notified : Action → Bool
is_notified (action.Notify zero) = true
is_notified action = false

abbrev pub NotifiesIf : Bool → Bool → LookLimits → Sightings → Sightings → RacingBlock → RacingBlock → Progress → Type 0
NotifiesIf true races limits old new before after progress =
    NotifiesBlock races limits (queue_at 0 before.window) old new before after progress
NotifiesIf false races limits old new before after progress = NothingHappens old new before after progress

-- the registers are written, and then the device does its part
abbrev pub WritesBlock : ℕ → ℕ → ℕ → Bool → LookLimits → Sightings → Sightings → RacingBlock → RacingBlock → Progress
    → Type 0
WritesBlock offset width value races limits old new before after progress =
    NotifiesIf (is_notified (action_of offset width value before.window)) races limits old new
    (record before { window = written offset width value (memory old) before.window }) after progress

-- what the write comes to, by what is answered: where it waits for what is in flight nothing has changed
abbrev pub IsWrittenBy : Reply → ℕ → ℕ → ℕ → Bool → LookLimits → Sightings → Sightings → RacingBlock → RacingBlock → Type 0
IsWrittenBy reply.Done offset width value races limits old new before after =
    WritesBlock offset width value races limits old new before after Done
IsWrittenBy (reply.More queue) offset width value races limits old new before after = (queue ≡ queues.Block)
    × WritesBlock offset width value races limits old new before after More
IsWrittenBy reply.Busy offset width value races limits old new before after = (new ≡ old) × (after ≡ before)
IsWrittenBy reply.NoMemory offset width value races limits old new before after = ⊥

-- ---- what the host says

-- after a drop the device asks to be reset, since its driver can't count on what was in flight (2.1.2)
abbrev pub reset_by : HostEvent → WindowState → WindowState
reset_by Drop w = with_reset_asked w
reset_by said w = w

-- the disk does what the host says, with this queue of the window
pub record TellsBlock (said : HostEvent) (races : Bool) (limits : LookLimits) (queue : Queue) (old new : Sightings)
    (before after : RacingBlock) (progress : Progress) : Type 0 where
  pub last : Queue
  pub ending : LookEnding
  pub wanted : Bool
  pub disk : DoesAsTold racing_queue entry_of IsTaken races limits (wants_stable before.window) said before.disk old new queue last
      after.disk ending wanted
  pub window : after.window ≡ reset_by said (showing before.window last ending wanted)
  pub progress_is : progress ≡ progress_of ending

-- the same where the queue can't be served: nothing is written
pub record TellsUnserved (said : HostEvent) (old new : Sightings) (before after : RacingBlock) (progress : Progress) : Type 0 where
  pub memory : new ≡ old
  pub disk : after.disk ≡ told_unserved said before.disk
  pub window : after.window ≡ reset_by said before.window
  pub done : progress ≡ Done

abbrev pub IsToldBy : HostEvent → Bool → LookLimits → Option Queue → Sightings → Sightings → RacingBlock → RacingBlock
    → Progress → Type 0
IsToldBy said races limits None old new before after progress = TellsUnserved said old new before after progress
IsToldBy said races limits (Some queue) old new before after progress =
    TellsBlock said races limits queue old new before after progress
