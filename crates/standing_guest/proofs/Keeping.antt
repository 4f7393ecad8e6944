-- No call changes which device a disk is.
use Rattle.std.proofs.Common.{◌≡◌, ◌∙◌, ℕ, Bool, true, false, Option, Some, None, List, refl, ap}
use Rattle.chain.specs.declared.budget.Progress.{Progress}
use Rattle.chain.specs.declared.budget.Progress.TheVariants as progress
use Rattle.mmio_window.specs.declared.queue.Queue.{Queue}
use Rattle.mmio_window.specs.declared.queue.Token.{Token}
use Rattle.mmio_window.specs.Window.{queue_at}
use Rattle.mmio_window.specs.Writing.{action_of, written}
use Rattle.shared_memory.specs.Sightings.{Sightings, memory}
use Rattle.block_device.specs.declared.device.BlockDevice.{BlockDevice}
use Rattle.block_device.specs.declared.operation.HostEvent.{HostEvent}
use Rattle.block_device.specs.declared.operation.HostEvent.TheVariants.{Complete, Drop, Hold, Release}
use Rattle.racing_hosted_disk.specs.declared.look.LookLimits.{LookLimits}
use Rattle.racing_hosted_disk.specs.Disk.{RacingHostedDisk}
use Rattle.racing_hosted_disk.specs.Told.{told_unserved}
use Rattle.racing_guest.specs.declared.reply.GuestQueue.{GuestQueue}
use Rattle.racing_guest.specs.declared.reply.GuestQueue.TheVariants as queues
use Rattle.racing_guest.specs.declared.reply.GuestWindow.{GuestWindow}
use Rattle.racing_guest.specs.declared.reply.GuestWindow.TheVariants.{Block, Console}
use Rattle.racing_guest.specs.declared.reply.Reply.{Reply}
use Rattle.racing_guest.specs.declared.reply.Reply.TheVariants as reply
use Rattle.racing_guest.specs.Block.{IsToldBy, IsWrittenBy, NotifiesBlock, NotifiesIf, RacingBlock, WritesBlock, is_notified}
use Rattle.racing_guest.specs.Guest.{IsServedAgain, IsTold, RacingGuest, WritesGuest}
use Rattle.standing_guest.specs.Slot.{IsOwnDisk}

module _ (races : Bool) (limits : LookLimits) (old new : Sightings) where
  notified : (found : Option Queue) (before after : RacingBlock) (so_far : Progress)
      → NotifiesBlock races limits found old new before after so_far → after.disk.device ≡ before.disk.device
  notified None before after so_far n = ap (λ (b : RacingBlock). b.disk.device) n.device
  notified (Some queue) before after so_far n = ap (λ (d : RacingHostedDisk Token). d.device) n.disk.is

  notified_if : (rings : Bool) (before after : RacingBlock) (so_far : Progress)
      → NotifiesIf rings races limits old new before after so_far → after.disk.device ≡ before.disk.device
  notified_if true before after so_far n = notified (queue_at 0 before.window) before after so_far n
  notified_if false before after so_far n = ap (λ (b : RacingBlock). b.disk.device) n.device

  module _ (offset width value : ℕ) (before after : RacingBlock) where
    wrote : (so_far : Progress) → WritesBlock offset width value races limits old new before after so_far
        → after.disk.device ≡ before.disk.device
    wrote so_far w =
        notified_if (is_notified (action_of offset width value before.window))
        (record before { window = written offset width value (memory old) before.window }) after so_far w

    replied : (what : Reply) → IsWrittenBy what offset width value races limits old new before after
        → after.disk.device ≡ before.disk.device
    replied reply.Done w = wrote progress.Done w
    replied (reply.More queue) w = wrote progress.More w.1
    replied reply.Busy w = ap (λ (b : RacingBlock). b.disk.device) w.1
    replied reply.NoMemory w = absurd w

  unserved : (said : HostEvent) (disk : RacingHostedDisk Token) → (told_unserved said disk).device ≡ disk.device
  unserved (Complete tag verdict) disk = refl
  unserved Drop disk = refl
  unserved Hold disk = refl
  unserved Release disk = refl

  told : (said : HostEvent) (found : Option Queue) (before after : RacingBlock) (so_far : Progress)
      → IsToldBy said races limits found old new before after so_far → after.disk.device ≡ before.disk.device
  told said None before after so_far t =
      ap (λ (d : RacingHostedDisk Token). d.device) t.disk ∙ unserved said before.disk
  told said (Some queue) before after so_far t = ap (λ (d : RacingHostedDisk Token). d.device) t.disk.is

  stays_own : (before after : RacingGuest) → after.block.disk.device ≡ before.block.disk.device → IsOwnDisk before
      → IsOwnDisk after
  stays_own before after same is = ap (λ (d : BlockDevice). d.extent.start) same ∙ is

  pub own_told : (said : HostEvent) (before after : RacingGuest) (so_far : Progress)
      → IsTold said races limits old new before after so_far → IsOwnDisk before → IsOwnDisk after
  own_told said before after so_far t =
      stays_own before after (told said (queue_at 0 before.block.window) before.block after.block so_far t.told)

  module _ (limit : Option ℕ) (before after : RacingGuest) (out out' : List ℕ) where
    pub own_written : (window : GuestWindow) (offset width value : ℕ) (what : Reply)
        → WritesGuest window offset width value races limits limit old new before after out out' what → IsOwnDisk before
        → IsOwnDisk after
    own_written Block offset width value what w =
        stays_own before after (replied offset width value before.block after.block what w.0)
    own_written Console offset width value what w = stays_own before after (ap (λ (b : RacingBlock). b.disk.device) w.1)

    pub own_served : (queue : GuestQueue) (what : Reply)
        → IsServedAgain races limits limit old new before after out out' queue what → IsOwnDisk before → IsOwnDisk after
    own_served queues.Block reply.Done s =
        stays_own before after (notified (queue_at 0 before.block.window) before.block after.block progress.Done s.0)
    own_served queues.Block (reply.More queue) s =
        stays_own before after (notified (queue_at 0 before.block.window) before.block after.block progress.More s.1.0)
    own_served queues.Block reply.Busy s = absurd s
    own_served queues.Block reply.NoMemory s = absurd s
    own_served queues.Receive reply.Done s = stays_own before after (ap (λ (b : RacingBlock). b.disk.device) s.1.0)
    own_served queues.Receive (reply.More queue) s = stays_own before after (ap (λ (b : RacingBlock). b.disk.device) s.1.1.0)
    own_served queues.Receive reply.Busy s = absurd s
    own_served queues.Receive reply.NoMemory s = absurd s
    own_served queues.Transmit reply.Done s = stays_own before after (ap (λ (b : RacingBlock). b.disk.device) s.1)
    own_served queues.Transmit (reply.More queue) s = stays_own before after (ap (λ (b : RacingBlock). b.disk.device) s.1.1)
    own_served queues.Transmit reply.Busy s = absurd s
    own_served queues.Transmit reply.NoMemory s = stays_own before after (ap (λ (b : RacingBlock). b.disk.device) s.1)
