-- A service of a further disk over the image that is paused: its pieces so far, as one part of a whole service. Whatever the image's
-- calls before it were, it is one from an image at rest.
use Rattle.std.proofs.Common.{◌≡◌, ℕ, Some, List, [], ◌++◌, refl, sym, ap, subst, ◌∙◌}
use Rattle.std.specs.Prelude.{slice_set}
use Rattle.std.specs.List.{slice_get}
use Rattle.std.proofs.lemmas.List.{set-set}
use Rattle.std.proofs.lemmas.Option.{same_Some}
use Rattle.chain.specs.declared.budget.Budget.{Budget}
use Rattle.chain.specs.declared.budget.Progress.{Progress}
use Rattle.chain.specs.declared.budget.Progress.TheVariants as progress
use Rattle.mmio_window.specs.declared.stage.Stage.TheVariants.{First, Next}
use Rattle.mmio_window.specs.Pieces.{ServesTo}
use Rattle.mmio_window.specs.Window.{WindowState, queue_at}
use Rattle.mmio_window.proofs.Underway.{OnItsWay, again, ended, first}
use Rattle.sector_cache.specs.Disk.{Disk}
use Rattle.block_device.specs.declared.device.BlockDevice.{BlockDevice}
use Rattle.block_device.specs.declared.extent.Extent.{Extent}
use Rattle.block_device.specs.Device.{exact_device}
use Rattle.block_device.specs.Extent.{SameOutside}
use Rattle.device_list.specs.Device.{DeviceState}
use Rattle.board.specs.declared.reply.Reply.TheVariants.{Done}
use Rattle.board.specs.Image.{Health, disk_with}
use Rattle.board.specs.ImageDisks.{IsImageDiskService, bytes_in, image_device}
use Rattle.board.specs.Machine.{at_rest}
use Rattle.board.specs.Pausing.{IsImageDiskPiece}
use Rattle.board.specs.Slot.{SlotState}
use Rattle.board.proofs.Guests.{Rested, rested}
use Rattle.board.proofs.Lists.{get_set}
use Rattle.board.proofs.Whole.{came}

-- what two pieces put out that put out nothing
pub silent_both : (out output : List ℕ) → out ≡ [] → output ≡ [] → out ++ output ≡ []
silent_both out output x y = rw (x, y) refl

-- what changes of a slot in pieces of a disk's, and stays outside of its sectors
outside_both : (extent : Extent) (a b c : List ℕ) → SameOutside extent a b → SameOutside extent b c → SameOutside extent a c
outside_both extent a b c x y =
    record { before = y.before ∙ x.before; behind = y.behind ∙ x.behind; size = y.size ∙ x.size }

abbrev with_image_disk : ℕ → SlotState → SlotState → DeviceState → SlotState
with_image_disk n mid new device =
    record mid { memory = new.memory; spare_bytes = new.spare_bytes; devices = slice_set mid.devices n device }

-- ---- its pieces so far

pub record ImageWay (n : ℕ) (disk : BlockDevice) (mid now : SlotState) (out : List ℕ) : Type 0 where
  pub device : DeviceState
  pub there : slice_get mid.devices n ≡ Some device
  pub window : WindowState
  pub health : Health
  pub way : OnItsWay (exact_device (image_device disk)) 0 mid.memory now.memory device.window window
      (disk_with (bytes_in disk mid.spare_bytes) at_rest) (disk_with (bytes_in disk now.spare_bytes) health)
  pub outside : SameOutside disk.extent mid.spare_bytes now.spare_bytes
  pub is : now ≡ with_image_disk n mid now (record device { window = window })
  pub silent : out ≡ []

-- and at its end
pub record ImageEnded (A : Type 0) (n : ℕ) (disk : BlockDevice) (mid new : SlotState) (out : List ℕ) : Type 0 where
  pub health : Health
  pub service : IsImageDiskService {A = A} (exact_device (image_device disk)) n disk mid at_rest health (came new Done out)

module _ {n : ℕ} {disk : BlockDevice} {budget : Budget} {mid new : SlotState} {before after : Health}
    {output : List ℕ} where
  pub image_first : IsImageDiskPiece (exact_device (image_device disk)) n disk First budget progress.More mid before after
      new output → ImageWay n disk mid new output
  image_first h =
      let s = h.serves in
      let r = rested (image_device disk) First budget progress.More (queue_at 0 s.device.window) mid.memory new.memory
      s.device.window s.window (bytes_in disk mid.spare_bytes) (bytes_in disk new.spare_bytes) before after at_rest
      s.serves in
      record {
        device = s.device;
        there = s.there;
        window = s.window;
        health = r.health;
        way = first (exact_device (image_device disk)) 0 budget r.served;
        outside = s.outside;
        is = s.is;
        silent = h.silent;
      }

-- the disk as it stands
pub image_there : (n : ℕ) (disk : BlockDevice) (mid now : SlotState) (out : List ℕ) (w : ImageWay n disk mid now out)
    → slice_get now.devices n ≡ Some (record w.device { window = w.window })
image_there n disk mid now out w =
    ap (λ (s : SlotState). slice_get s.devices n) w.is
    ∙ get_set mid.devices n w.device (record w.device { window = w.window }) w.there

-- a piece that goes on, as it does from an image at rest before all of them
record Onward (n : ℕ) (disk : BlockDevice) (budget : Budget) (progress : Progress) (mid now new : SlotState)
    (out : List ℕ) (w : ImageWay n disk mid now out) : Type 0 where
  window : WindowState
  rested : Rested (image_device disk) Next budget progress (queue_at 0 w.window) now.memory new.memory w.window window
      (bytes_in disk now.spare_bytes) (bytes_in disk new.spare_bytes) w.health
  outside : SameOutside disk.extent mid.spare_bytes new.spare_bytes
  is : new ≡ with_image_disk n mid new (record w.device { window = window })

module _ {n : ℕ} {disk : BlockDevice} {budget : Budget} {mid now new : SlotState} {before after : Health}
    {out output : List ℕ} where
  onward : (progress : Progress) (w : ImageWay n disk mid now out)
      → IsImageDiskPiece (exact_device (image_device disk)) n disk Next budget progress now before after new output
      → Onward n disk budget progress mid now new out w
  onward progress w h =
      let s = h.serves in
      let same : s.device ≡ record w.device { window = w.window } =
      same_Some s.device (record w.device { window = w.window }) (sym s.there ∙ image_there n disk mid now out w) in
      let last : DeviceState = record w.device { window = s.window } in
      record {
        window = s.window;
        rested = rested (image_device disk) Next budget progress (queue_at 0 w.window) now.memory new.memory w.window
            s.window (bytes_in disk now.spare_bytes) (bytes_in disk new.spare_bytes) before after w.health
            (subst (λ (d : DeviceState). ServesTo Next (exact_device (image_device disk)) budget 0 (queue_at 0 d.window)
            progress now.memory new.memory d.window s.window (disk_with (bytes_in disk now.spare_bytes) before)
            (disk_with (bytes_in disk new.spare_bytes) after)) same s.serves);
        outside = outside_both disk.extent mid.spare_bytes now.spare_bytes new.spare_bytes w.outside s.outside;
        is = s.is
            ∙ ap (λ (d : DeviceState). with_image_disk n now new (record d { window = s.window })) same
            ∙ ap (λ (t : SlotState). with_image_disk n t new last) w.is
            ∙ ap (λ (ds : List DeviceState). record mid { memory = new.memory; spare_bytes = new.spare_bytes; devices = ds })
            (set-set mid.devices n (record w.device { window = w.window }) last);
      }

  pub image_again : ImageWay n disk mid now out
      → IsImageDiskPiece (exact_device (image_device disk)) n disk Next budget progress.More now before after new output
      → ImageWay n disk mid new (out ++ output)
  image_again w h =
      let o = onward progress.More w h in
      record {
        device = w.device;
        there = w.there;
        window = o.window;
        health = o.rested.health;
        way = again (exact_device (image_device disk)) 0 budget w.way o.rested.served;
        outside = o.outside;
        is = o.is;
        silent = silent_both out output w.silent h.silent;
      }

  pub image_ended : (A : Type 0) → ImageWay n disk mid now out
      → IsImageDiskPiece (exact_device (image_device disk)) n disk Next budget progress.Done now before after new output
      → ImageEnded A n disk mid new (out ++ output)
  image_ended A w h =
      let o = onward progress.Done w h in
      record {
        health = o.rested.health;
        service = record {
          serves = record {
            device = w.device;
            there = w.there;
            window = o.window;
            serves = ended (exact_device (image_device disk)) 0 budget w.way o.rested.served;
            outside = o.outside;
            is = o.is;
          };
          is = ap (λ (sent : List ℕ). came {A = A} new Done sent) (silent_both out output w.silent h.silent);
        };
      }
