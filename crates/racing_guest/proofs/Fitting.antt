-- A sound guest over another memory that it fits.
use Rattle.std.proofs.Common.{◌≡◌, ◌∙◌, Bool, false, ap, subst, sym}
use Rattle.std.specs.Prelude.{◌&&◌}
use Rattle.guest_memory.specs.Memory.{Memory, SameRange}
use Rattle.mmio_window.specs.Soundness.{IsSound}
use Rattle.mmio_window.specs.Window.{WindowState}
use Rattle.block_device.specs.Tags.{is_any}
use Rattle.racing_window.specs.Memory.{window_fits}
use Rattle.racing_window.proofs.Fitting as window
use Rattle.racing_guest.specs.Block.{RacingBlock}
use Rattle.racing_guest.specs.Console.{RacingConsole}
use Rattle.racing_guest.specs.Guest.{IsSoundGuest, RacingGuest}
use Rattle.racing_guest.specs.Memory.{guest_fits}
use Rattle.racing_guest.proofs.Holding.{idle_sound}

-- it is sound for that where both windows are, and nothing is in flight
pub sound_by_parts : (new : Memory) (guest : RacingGuest) (block : RacingBlock) (console : RacingConsole) (w v : WindowState)
    → record { block = block; console = console } ≡ guest → w ≡ block.window → v ≡ console.window
    → ((m : Memory) → IsSound m w → IsSound new w) → ((m : Memory) → IsSound m v → IsSound new v)
    → is_any guest.block.disk.tags ≡ false → (m : Memory) → IsSoundGuest m guest → IsSoundGuest new guest
sound_by_parts new guest block console w v is w_is v_is first second =
    subst (λ (g : RacingGuest). is_any g.block.disk.tags ≡ false → (m : Memory) → IsSoundGuest m g → IsSoundGuest new g) is
    (λ none m sound. record {
      block = idle_sound new block.window block.disk none
          (subst (IsSound new) w_is (first m (subst (IsSound m) (sym w_is) sound.block.window)));
      console = subst (IsSound new) v_is (second m (subst (IsSound m) (sym v_is) sound.console));
    })

-- it fits each memory of a range or none
pub fits_alike : (m n : Memory) (guest : RacingGuest) → SameRange m n → guest_fits n guest ≡ guest_fits m guest
fits_alike m n guest same =
    ap (λ (fits : Bool). fits && window_fits n guest.console.window) (window.fits_alike m n guest.block.window same)
    ∙ ap (λ (fits : Bool). window_fits m guest.block.window && fits) (window.fits_alike m n guest.console.window same)
