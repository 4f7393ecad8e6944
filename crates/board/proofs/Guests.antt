-- The block device of a guest that is alone: how the image fared before is never seen.
use Rattle.std.proofs.Common.{◌≡◌, ℕ, Bool, Option, Some, List, refl, subst}
use Rattle.guest_memory.specs.Memory.{Memory}
use Rattle.chain.specs.declared.budget.Budget.{Budget}
use Rattle.chain.specs.declared.budget.Progress.{Progress}
use Rattle.sector_cache.specs.Disk.{Disk}
use Rattle.mmio_window.specs.declared.queue.Queue.{Queue}
use Rattle.mmio_window.specs.declared.stage.Stage.{Stage}
use Rattle.mmio_window.specs.Pieces.{ServesTo}
use Rattle.mmio_window.specs.Serving.{IsNotified, Notified}
use Rattle.mmio_window.specs.Window.{WindowState}
use Rattle.mmio_window.proofs.Services.{NotifiedAs, notified_as}
use Rattle.block_device.specs.declared.device.BlockDevice.{BlockDevice}
use Rattle.block_device.specs.Device.{exact_device}
use Rattle.block_device.specs.Extent.{SameSectors}
use Rattle.block_device.proofs.Guests.{exact_same}
use Rattle.board.specs.Image.{Health, health_of, sectors_of, disk_with}
use Rattle.board.specs.Machine.{at_rest}
use Rattle.board.proofs.Alike.{PieceAs, piece_as}

-- disks whose parts are equal
pub disk_of_parts : (failures : ℕ) (dirty : Bool) (contents contents' : Option (List ℕ))
    (sectors sectors' : ℕ) → contents ≡ contents' → sectors ≡ sectors'
    → ◌≡◌ {A = Disk} (record {
      contents = contents;
      sector_count = sectors;
      failures = failures;
      dirty = dirty;
    }) (record {
      contents = contents';
      sector_count = sectors';
      failures =
          failures;
      dirty = dirty;
    })
disk_of_parts failures dirty contents contents' sectors sectors' p q = rw (p, q) refl

-- a disk with these bytes is one of the sectors that they fill
pub same_disk : (bytes : List ℕ) (disk : Disk) → disk.contents ≡ Some bytes
    → disk.sector_count ≡ sectors_of bytes → disk ≡ disk_with bytes (health_of disk)
same_disk bytes disk contents sectors =
    disk_of_parts disk.failures disk.dirty disk.contents (Some bytes) disk.sector_count
    (sectors_of bytes) contents sectors

-- a notification that is served exactly, from the image at rest: how it fares afterwards
pub record AtRest (device : BlockDevice) (queue : Option Queue) (old new : Memory)
    (before after : WindowState) (bytes bytes' : List ℕ) : Type 0 where
  pub health : Health
  pub notified : IsNotified (exact_device device) 0 queue old new before after (disk_with bytes at_rest)
      (disk_with bytes' health)

pub exact_at_rest : (device : BlockDevice) (queue : Option Queue) (old new : Memory)
    (before after : WindowState) (bytes bytes' : List ℕ) (health health' : Health)
    → IsNotified (exact_device device) 0 queue old new before after (disk_with bytes health)
    (disk_with bytes' health') → AtRest device queue old new before after bytes bytes'
exact_at_rest device queue old new before after bytes bytes' health health' h =
    let served : NotifiedAs (exact_device device) SameSectors 0 queue h.ending old new before after
    (disk_with bytes' health') (disk_with bytes at_rest) =
    notified_as (exact_device device) (exact_device device) SameSectors (exact_same device) 0 queue h.ending
    old new before after (disk_with bytes health) (disk_with bytes' health') (disk_with bytes at_rest)
    (record { contents = refl; sectors = refl }) h.notified in
    let is : served.state ≡ disk_with bytes' (health_of served.state) =
    same_disk bytes' served.state served.alike.contents served.alike.sectors in
    record {
      health = health_of served.state;
      notified = record {
        ending = h.ending;
        notified = subst (λ (d : Disk). Notified (exact_device device) 0 queue h.ending old new before after
            (disk_with bytes at_rest) d) is served.notified;
      };
    }

-- ---- a piece of its service from one state of the image is one from another

pub record Rested (device : BlockDevice) (stage : Stage) (budget : Budget) (progress : Progress) (queue : Option Queue)
    (m m' : Memory) (w w' : WindowState) (old new : List ℕ) (start : Health) : Type 0 where
  pub health : Health
  pub served : ServesTo stage (exact_device device) budget 0 queue progress m m' w w' (disk_with old start)
      (disk_with new health)

pub rested : (device : BlockDevice) (stage : Stage) (budget : Budget) (progress : Progress) (queue : Option Queue)
    (m m' : Memory) (w w' : WindowState) (old new : List ℕ) (before after start : Health)
    → ServesTo stage (exact_device device) budget 0 queue progress m m' w w' (disk_with old before) (disk_with new after)
    → Rested device stage budget progress queue m m' w w' old new start
rested device stage budget progress queue m m' w w' old new before after start h =
    let p : PieceAs (exact_device device) (exact_device device) SameSectors (exact_same device) budget stage 0 queue progress
    m m' w w' (disk_with new after) (disk_with old start) =
    piece_as (exact_device device) (exact_device device) SameSectors (exact_same device) budget stage 0 queue progress
    m m' w w' (disk_with old before) (disk_with new after) (disk_with old start)
    (record { contents = refl; sectors = refl }) h in
    let is : p.state ≡ disk_with new (health_of p.state) = same_disk new p.state p.alike.contents p.alike.sectors in
    record {
      health = health_of p.state;
      served = subst (λ (d : Disk). ServesTo stage (exact_device device) budget 0 queue progress m m' w w'
          (disk_with old start) d) is p.served;
    }
