-- A look, the host's word and a write leave a sound device; and what a read gives.
use Rattle.std.proofs.Common.{◌≡◌, ◌∙◌, ℕ, Bool, Option, Some, None, List, false, refl, sym, ap, subst}
use Rattle.std.specs.Prelude.{IfSome}
use Rattle.guest_memory.specs.Memory.{Memory, SameRange}
use Rattle.chain.specs.declared.fault.Fault.{Fault}
use Rattle.negotiation.specs.Negotiation.{is_live}
use Rattle.mmio_window.specs.declared.queue.Queue.{Queue}
use Rattle.mmio_window.specs.declared.queue.Token.{Token}
use Rattle.mmio_window.specs.Queue.{Fits, IsTaken, ahead_of, entry_of, made_as}
use Rattle.mmio_window.specs.Serving.{after_service, ending_of}
use Rattle.mmio_window.specs.Soundness.{IsSound}
use Rattle.mmio_window.specs.Window.{WindowState, queue_at, ring_at, with_ring}
use Rattle.mmio_window.specs.Reading.{read_value}
use Rattle.mmio_window.specs.Writing.{written}
use Rattle.mmio_window.proofs.Soundness.{serving_keeps_sound}
use Rattle.shared_memory.specs.Sightings.{Sightings, memory}
use Rattle.shared_memory.proofs.Sightings.{same_self}
use Rattle.block_device.specs.declared.operation.HostEvent.{HostEvent}
use Rattle.block_device.specs.declared.operation.HostEvent.TheVariants.{Complete, Drop, Hold, Release}
use Rattle.block_device.specs.declared.device.BlockDevice.{BlockDevice}
use Rattle.block_device.specs.Config.{config_of}
use Rattle.racing_window.specs.Queue.{racing_queue}
use Rattle.racing_hosted_disk.specs.declared.look.LookEnding.{LookEnding}
use Rattle.racing_hosted_disk.specs.declared.look.LookLimits.{LookLimits}
use Rattle.racing_hosted_disk.specs.Disk.{HoldsFlights, RacingHostedDisk}
use Rattle.racing_hosted_disk.specs.Looking.{Place, ServesDisk}
use Rattle.racing_hosted_disk.specs.Told.{DoesAsTold, told_unserved}
use Rattle.block_device.proofs.Holding.{all_set}
use Rattle.racing_guest.specs.Block.{IsSoundBlock, RacingBlock, block_register, fault_met, must_wait, reset_by}
use Rattle.racing_guest.proofs.Holding.{freed_sound, if_live, served_sound, written_sound}
use Rattle.racing_guest.proofs.Making.{disk_made, told_made}

abbrev pub block_of : WindowState → RacingHostedDisk Token → RacingBlock
block_of w disk = record { window = w; disk = disk }

-- a ring that was lent and came back as it was
pub with_ring_same : (w : WindowState) (queue : Queue) → queue_at 0 w ≡ Some queue → with_ring 0 w queue ≡ w
with_ring_same w queue is =
    ap (λ (r : Option Queue). record w { queue_0 = record w.queue_0 { ring = r } })
    (sym (if_live (is_live w.negotiation) (ring_at 0 w) queue is))

module _ (races : Bool) (limits : LookLimits) (stable : Bool) (old new : Sightings) (m n : Memory) (w v w' : WindowState)
    (queue first served last : Queue) (disk disk' : RacingHostedDisk Token) (ending : LookEnding) (wanted : Bool)
    (found : Option Fault) (sound : IsSoundBlock m (block_of w disk)) (same : SameRange m n)
    (is : Some queue ≡ queue_at 0 w) (made_first : first ≡ queue) (made_last : last ≡ served)
    (met : found ≡ fault_met ending) (held : HoldsFlights entry_of Fits ahead_of n served disk')
    (shown : v ≡ after_service (ending_of found) wanted (with_ring 0 w last))
    (keeps : IsSound n (with_ring 0 w last) → IsSound n v) where
  as_served : made_as served ≡ made_as first → IsSoundBlock n (block_of v disk')
  as_served made =
      let kept : made_as last ≡ made_as queue = ap made_as made_last ∙ made ∙ ap made_as made_first in
      served_sound m n w v queue last disk' found wanted sound.window same (sym is) kept shown
      (subst (λ (q : Queue). HoldsFlights entry_of Fits ahead_of n q disk') (sym made_last) held)
      (keeps (serving_keeps_sound m n w 0 queue last sound.window same (sym is) kept))

  pub looked_sound :
      ServesDisk racing_queue entry_of IsTaken races limits stable disk old new first served disk' ending wanted
      → IsSoundBlock n (block_of v disk')
  looked_sound serves =
      as_served (disk_made entry_of IsTaken races limits stable disk disk' old new first served ending wanted serves)

  told_sound_by : (said : HostEvent)
      → DoesAsTold racing_queue entry_of IsTaken races limits stable said disk old new first served disk' ending wanted
      → IsSoundBlock n (block_of v disk') → (IsSound n v → IsSound n w') → w' ≡ reset_by said v
      → IsSoundBlock n (block_of w' disk')
  told_sound_by (Complete tag verdict) does at window reset = rw reset at
  told_sound_by Drop does at window reset =
      freed_sound n w' disk' disk.tags (ap (λ (p : Place Queue Token). p.tags) does.queue.stands) (window at.window)
  told_sound_by Hold does at window reset = rw reset at
  told_sound_by Release does at window reset = rw reset at

  pub told_sound : (said : HostEvent)
      → DoesAsTold racing_queue entry_of IsTaken races limits stable said disk old new first served disk' ending wanted
      → (IsSound n v → IsSound n w') → w' ≡ reset_by said v → IsSoundBlock n (block_of w' disk')
  told_sound said does window reset =
      told_sound_by said does
      (as_served (told_made entry_of IsTaken races limits stable disk disk' old new first served ending wanted said does)) window
      reset

-- without a queue that may be served
none_ready : (w w' : WindowState) (P : Queue → Type 0) → queue_at 0 w ≡ None → w' ≡ w → IfSome (queue_at 0 w') P
none_ready w w' P is same = rw (same, is) tt

module _ (m : Memory) (w w' : WindowState) (disk : RacingHostedDisk Token) (is : queue_at 0 w ≡ None)
    (window : IsSound m w') (sound : IsSoundBlock m (block_of w disk)) where
  unserved_by : (said : HostEvent) → w' ≡ reset_by said w → IsSoundBlock m (block_of w' (told_unserved said disk))
  unserved_by (Complete tag verdict) reset = record {
    window = window;
    each = all_set disk.device.extent.count m m disk.tags tag None (same_self m) sound.each tt;
    ahead = none_ready w w' _ is reset;
  }
  unserved_by Drop reset = freed_sound m w' (told_unserved Drop disk) disk.tags refl window
  unserved_by Hold reset = record { window = window; each = sound.each; ahead = none_ready w w' _ is reset }
  unserved_by Release reset = record { window = window; each = sound.each; ahead = none_ready w w' _ is reset }

  pub unserved_sound : (said : HostEvent) (disk' : RacingHostedDisk Token) → disk' ≡ told_unserved said disk
      → w' ≡ reset_by said w → IsSoundBlock m (block_of w' disk')
  unserved_sound said disk' does reset =
      subst (λ (d : RacingHostedDisk Token). IsSoundBlock m (block_of w' d)) (sym does) (unserved_by said reset)

-- where nothing was to do
pub untold_sound : (old new : Sightings) (w : WindowState) (queue : Queue) (disk disk' : RacingHostedDisk Token)
    → IsSoundBlock (memory old) (block_of w disk) → new ≡ old → disk' ≡ disk → Some queue ≡ queue_at 0 w
    → IsSoundBlock (memory new) (block_of (with_ring 0 w queue) disk')
untold_sound old new w queue disk disk' sound same kept is = rw (same, kept, with_ring_same w queue (sym is)) sound

-- ---- the registers

-- what a read gives
pub reads_register : (offset width value : ℕ) (config : List ℕ) (device : BlockDevice) (w : WindowState)
    (disk : RacingHostedDisk Token) (block : RacingBlock) → value ≡ read_value offset width config w
    → config ≡ config_of device.extent.count → device ≡ disk.device → block_of w disk ≡ block
    → value ≡ block_register offset width block
reads_register offset width value config device w disk block reads configured same is =
    reads ∙ ap (λ (c : List ℕ). read_value offset width c w)
    (configured ∙ ap (λ (d : BlockDevice). config_of d.extent.count) same)
    ∙ ap (block_register offset width) is

-- a write that doesn't wait
pub write_sound : (offset width value : ℕ) (m : Memory) (w w' : WindowState) (disk : RacingHostedDisk Token)
    (block : RacingBlock) → block_of w disk ≡ block → false ≡ must_wait offset block
    → w' ≡ written offset width value m w → (IsSound m w → IsSound m w') → IsSoundBlock m block
    → IsSoundBlock m (block_of w' disk)
write_sound offset width value m w w' disk block is free writes keeps sound =
    let here : IsSoundBlock m (block_of w disk) = subst (λ (b : RacingBlock). IsSoundBlock m b) (sym is) sound in
    let busy : must_wait offset (block_of w disk) ≡ false = ap (must_wait offset) is ∙ sym free in
    let window : IsSound m (written offset width value m w) =
    subst (λ (v : WindowState). IsSound m v) writes (keeps here.window) in
    subst (λ (v : WindowState). IsSoundBlock m (block_of v disk)) (sym writes)
    (written_sound offset width value m (block_of w disk) busy window here)
