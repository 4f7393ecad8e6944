-- A board whose disks the host has leaves the image's bytes.
use Rattle.std.proofs.Common.{◌≡◌, ℕ, suc, ◌+◌, ◌/◌, true, false, All, List, [], ◌∷◌, map, refl, sym, ap, ◌∙◌, arith}
use Rattle.std.proofs.lemmas.Bool.Decides.{nat_tests}
use Rattle.std.specs.List.{list_any}
use Rattle.board.specs.declared.spec.Backing.{Backing}
use Rattle.board.specs.declared.spec.Backing.TheVariants.{Image, Host}
use Rattle.board.specs.declared.spec.SlotSpec.{SlotSpec}
use Rattle.board.specs.Extent.{has_sector, outside_from, outside_of}
use Rattle.board.specs.Fault.{share}
use Rattle.board.specs.Slot.{BoardSlot, opened}
use Rattle.board.specs.World.{extents_of}
use Rattle.trace.specs.Asked.{is_host}

-- whatever the host has lies in no sector
no_sector : (spec : SlotSpec) (backing : Backing) (sector : ℕ) → spec.backing ≡ backing → is_host backing ≡ true
    → has_sector (share spec) sector ≡ false
no_sector spec (Host depth) sector same is = rw same (grind (arith, nat_tests))
no_sector spec Image sector same is = absurd cc

no_sectors : (slots : List SlotSpec) (sector : ℕ) → All (λ spec. is_host spec.backing ≡ true) slots
    → list_any (λ extent. has_sector extent sector) (extents_of (map opened slots)) ≡ false
no_sectors [] sector all = refl
no_sectors (spec ∷ slots) sector all =
    rw (
      no_sector spec spec.backing sector refl (all 0 spec (omega arith)),
      no_sectors slots sector (λ k d lt. all (suc k) d (omega (arith, lt))),
    ) refl

all_outside : (slots : List SlotSpec) (i : ℕ) (bytes : List ℕ) → All (λ spec. is_host spec.backing ≡ true) slots
    → outside_from (extents_of (map opened slots)) i bytes ≡ bytes
all_outside slots i [] all = refl
all_outside slots i (byte ∷ bytes) all =
    rw (no_sectors slots (i / 512) all) (ap (λ (bs : List ℕ). byte ∷ bs) (all_outside slots (i + 1) bytes all))

-- the bytes outside the extents are all there are
pub untouched : (slots : List SlotSpec) (last : List BoardSlot) (old new : List ℕ)
    → extents_of last ≡ extents_of (map opened slots)
    → outside_of (extents_of last) new ≡ outside_of (extents_of (map opened slots)) old
    → All (λ spec. is_host spec.backing ≡ true) slots → new ≡ old
untouched slots last old new extents stayed all =
    sym (all_outside slots 0 new all) ∙ ap (λ es. outside_of es new) (sym extents) ∙ stayed
    ∙ all_outside slots 0 old all
