-- What a slot's block device leaves behind a write to its window, as the slot's guest sees it.
use Rattle.std.proofs.Common.{◌≡◌, inl, ℕ, ◌+◌, ◌*◌, ◌≤◌, Option, Some, None, List, [], length, refl, sym, ap, arith, length-take, length-drop}
use Rattle.std.specs.Prelude.{IsSome, IfSome, unwrap_or}
use Rattle.std.specs.Option.{option_map}
use Rattle.guest_memory.specs.Memory.{Memory}
use Rattle.sector_cache.specs.Disk.{Disk, IsWhole}
use Rattle.sector_cache.specs.Sector.{extent_of}
use Rattle.board.specs.declared.event.SlotWindow.{SlotWindow}
use Rattle.mmio_window.specs.Window.{WindowState}
use Rattle.block_device.specs.declared.device.BlockDevice.{BlockDevice}
use Rattle.block_device.specs.declared.extent.Extent.{Extent}
use Rattle.block_device.specs.Extent.{IsWithin, extent_disk}
use Rattle.board.specs.declared.event.EventKind.TheVariants.{Read, Host}
use Rattle.block_device.specs.declared.operation.HostEvent.{HostEvent}
use Rattle.board.specs.declared.reply.Reply.TheVariants.{Value, Idle}
use Rattle.board.specs.Image.{Health, Tells, bytes_of, health_of, sectors_of, disk_with}
use Rattle.board.specs.Machine.{register}
use Rattle.board.specs.Outcome.{replies}
use Rattle.board.specs.Slot.{SlotState, BoardSlot}
use Rattle.board.specs.World.{MayGiveOverImage}
use Rattle.board.proofs.Guests.{disk_of_parts}

-- ---- the extent as its guest sees it

count_at : (extent : Extent) (contents : Option (List ℕ)) (sectors : ℕ) → IsSome contents
    → IfSome contents (λ bytes. length bytes ≡ 512 * sectors) → extent.start + extent.count ≤ sectors
    → sectors_of (extent_of (unwrap_or contents []) extent.start extent.count) ≡ extent.count
count_at extent None sectors tells whole lies = absurd (cc)
count_at extent (Some bytes) sectors tells whole lies =
    let long : length (extent_of bytes extent.start extent.count) ≡ 512 * extent.count =
    simp (length-take, length-drop) (omega (arith, whole, lies)) in
    omega (arith, long)

-- the extent's bytes fill its sectors
pub count_of : (extent : Extent) (disk : Disk) → Tells disk → IsWhole disk → IsWithin disk.sector_count extent
    → sectors_of (extent_of (bytes_of disk) extent.start extent.count) ≡ extent.count
count_of extent disk tells whole lies = count_at extent disk.contents disk.sector_count tells whole lies

contents_at : (extent : Extent) (contents : Option (List ℕ)) → IsSome contents
    → option_map (λ bytes. extent_of bytes extent.start extent.count) contents
    ≡ Some (extent_of (unwrap_or contents []) extent.start extent.count)
contents_at extent None tells = absurd (cc)
contents_at extent (Some bytes) tells = refl

-- and are the disk that the device shows
pub seen_disk : (extent : Extent) (disk : Disk) → Tells disk → IsWhole disk
    → IsWithin disk.sector_count extent
    → extent_disk extent disk
    ≡ disk_with (extent_of (bytes_of disk) extent.start extent.count) (health_of disk)
seen_disk extent disk tells whole lies =
    disk_of_parts disk.failures disk.dirty _ _ extent.count
    (sectors_of (extent_of (bytes_of disk) extent.start extent.count))
    (contents_at extent disk.contents tells) (sym (count_of extent disk tells whole lies))

-- the slot's device over the image
abbrev pub image_device : BoardSlot → BlockDevice
image_device slot =
    record { extent = slot.extent; read_only = slot.read_only; identity = slot.identity }

abbrev pub counted_device : BoardSlot → ℕ → BlockDevice
counted_device slot count = record (image_device slot) { extent = record { start = 0; count = count } }

-- ---- a service

-- the slot after its block device served it
abbrev pub block_served : BoardSlot → Memory → WindowState → BoardSlot
block_served slot memory block = record slot { memory = memory; block = block }

-- ---- events

-- a read of a window
pub read_given : {A : Type 0} (state : SlotState) (window : SlotWindow) (offset width value : ℕ)
    (health : Health) → value ≡ register state window offset width
    → MayGiveOverImage {A = A} state (Read window offset width) health health (replies state (Value value))
read_given state window offset width value health is = inl (record {
  alike = record { alike = ap (λ v. replies state (Value v)) is; image = refl };
  answered = λ none. cc;
  failures = refl;
})

-- and what the host says: there is nothing to do
pub told_given : {A : Type 0} (state : SlotState) (said : HostEvent) (health : Health)
    → MayGiveOverImage {A = A} state (Host said) health health (replies state Idle)
told_given state said health =
    inl (record { alike = record { alike = refl; image = refl }; answered = λ none. cc; failures = refl })
