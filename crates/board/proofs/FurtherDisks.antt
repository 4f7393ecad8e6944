-- What is in flight of a further disk is held.
use Rattle.std.proofs.Common.{◌≡◌, ℕ, zero, suc, ◌<◌, Option, Some, None, List, [], ◌∷◌, get_or, length, refl, sym, subst, arith}
use Rattle.std.specs.Prelude.{All, IfSome}
use Rattle.std.specs.List.{slice_get}
use Rattle.std.specs.Option.{option_and_then, option_map}
use Rattle.std.proofs.lemmas.Option.{same_Some}
use Rattle.guest_memory.specs.Memory.{Memory}
use Rattle.mmio_window.specs.Window.{WindowState}
use Rattle.block_device.specs.Tags.{TagIsHeld}
use Rattle.hosted_disk.specs.Disk.{HostedDisk}
use Rattle.device_list.specs.Device.{DeviceState}
use Rattle.device_list.specs.List.{AreSoundDevices, disk_at}
use Rattle.device_list.specs.Model.{ModelState, Block, Console, Entropy, Image, Network, IsHeld, disk_of}
use Rattle.device_list.proofs.Sound.{one_sound}

there_is : {A : Type 0} (xs : List A) (n : ℕ) (x : A) → slice_get xs n ≡ Some x → (n < length xs) × (x ≡ get_or xs n x)
there_is [] n x is = absurd (cc is)
there_is (y ∷ xs) zero x is = (omega arith, sym (same_Some y x is))
there_is (y ∷ xs) (suc n) x is = let rest = there_is xs n x is in (let below = rest.0 in omega (arith, below), rest.1)

-- each tag of the disk is
abbrev AreTagsHeld : Memory → HostedDisk → Type 0
AreTagsHeld m disk = All (TagIsHeld disk.device.extent.count m) disk.tags

by_model : (m : Memory) (w : WindowState) (model : ModelState) (disk : HostedDisk) → IsHeld m w model
    → disk_of model ≡ Some disk → AreTagsHeld m disk
by_model m w (Block found) disk held is = subst (AreTagsHeld m) (same_Some found disk is) held.each
by_model m w (Entropy pool) disk held is = absurd (cc is)
by_model m w (Network card) disk held is = absurd (cc is)
by_model m w (Console terminal) disk held is = absurd (cc is)
by_model m w (Image own) disk held is = absurd (cc is)

disk_held : (m : Memory) (devices : List DeviceState) (n : ℕ) (disk : HostedDisk) → AreSoundDevices m devices
    → disk_at n devices ≡ Some disk → AreTagsHeld m disk
disk_held m devices n disk sound is = by_found (slice_get devices n) is (λ d there. there)
  where
    by_found : (found : Option DeviceState) → option_and_then (λ d. disk_of d.model) found ≡ Some disk
        → ((d : DeviceState) → found ≡ Some d → slice_get devices n ≡ Some d) → AreTagsHeld m disk
    by_found None is there = absurd (cc is)
    by_found (Some d) is there =
        let at = there_is devices n d (there d refl) in
        by_model m d.window d.model disk (one_sound m devices n d sound at.0 at.1).held is

-- and so of what a look at it finds
pub found_held : {X : Type 0} (now : X → HostedDisk) (found : Option X) (m : Memory) (devices : List DeviceState) (n : ℕ)
    → AreSoundDevices m devices → option_map now found ≡ disk_at n devices
    → IfSome found (λ x. All (TagIsHeld (now x).device.extent.count m) (now x).tags)
found_held now None m devices n sound is = tt
found_held now (Some x) m devices n sound is = disk_held m devices n (now x) sound (sym is)
