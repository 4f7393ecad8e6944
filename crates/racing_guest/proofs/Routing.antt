-- What a call does to one device, beside the other.
use Rattle.std.proofs.Common.{◌≡◌, ◌∙◌, ℕ, sym, ap, subst}
use Rattle.guest_memory.specs.Memory.{Memory, SameRange}
use Rattle.racing_guest.specs.declared.reply.GuestWindow.{GuestWindow}
use Rattle.racing_guest.specs.declared.reply.GuestWindow.TheVariants as window
use Rattle.racing_guest.specs.Block.{IsSoundBlock, RacingBlock, block_register}
use Rattle.racing_guest.specs.Console.{IsSoundConsole, RacingConsole, console_register}
use Rattle.racing_guest.specs.Guest.{IsSoundGuest, RacingGuest, register}
use Rattle.mmio_window.proofs.Soundness.{sound_for_the_range}
use Rattle.racing_guest.proofs.Holding.{sound_still}

abbrev pub guest_of : RacingBlock → RacingConsole → RacingGuest
guest_of block console = record { block = block; console = console }

module _ (block : RacingBlock) (console : RacingConsole) (guest : RacingGuest) (is : guest_of block console ≡ guest) where
  -- ---- a read

  module _ (which : GuestWindow) (offset width value : ℕ) where
    pub reads_block : which ≡ window.Block → value ≡ block_register offset width block
        → value ≡ register which offset width guest
    reads_block here reads =
        reads ∙ ap (λ (g : RacingGuest). block_register offset width g.block) is
        ∙ ap (λ (w : GuestWindow). register w offset width guest) (sym here)

    pub reads_console : which ≡ window.Console → value ≡ console_register offset width console
        → value ≡ register which offset width guest
    reads_console here reads =
        reads ∙ ap (λ (g : RacingGuest). console_register offset width g.console) is
        ∙ ap (λ (w : GuestWindow). register w offset width guest) (sym here)

  -- ---- the other device is sound for the memory that a call leaves

  module _ (m n : Memory) (same : SameRange m n) (sound : IsSoundGuest m guest) where
    here : IsSoundGuest m (guest_of block console)
    here = subst (λ (g : RacingGuest). IsSoundGuest m g) (sym is) sound

    pub beside_block : (after : RacingBlock) → IsSoundBlock n after → IsSoundGuest n (guest_of after console)
    beside_block after left = record { block = left; console = sound_for_the_range m n console.window here.console same }

    pub beside_console : (after : RacingConsole) → IsSoundConsole n after → IsSoundGuest n (guest_of block after)
    beside_console after left = record { block = sound_still m n block same here.block; console = left }
