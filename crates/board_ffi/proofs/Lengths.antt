-- Loans beside the regions of slots that they are for: as many, in their order.
use Rattle.std.proofs.Common.{◌≡◌, ℕ, zero, suc, ◌<◌, ◌+◌, List, [], ◌∷◌, ◌++◌, length, drop, get_or, sym, ap, ◌∙◌, arith}
use Rattle.std.proofs.lemmas.List.{map-append}
use Rattle.guest_memory.specs.declared.spec.RegionSpec.{RegionSpec}
use Rattle.board.specs.Lent.{all_regions}
use Rattle.session.specs.Session.{slots_of}
use Rattle.session.proofs.Loans.{lens}
use Rattle.c_values.specs.declared.slot.Slot.{Slot}
use Rattle.c_values.specs.Slot.{regions_of}
use Rattle.board_ffi.specs.Config.{guests_of, region_lens}

-- how many are wanted for the regions of these slots
abbrev pub wanted : List Slot → List ℕ
wanted slots = region_lens (guests_of slots)

-- from a slot on it is what that slot wants, and what those behind it do
pub wanted_part : (slots : List Slot) (i : ℕ) (none : Slot) (regions : List RegionSpec) → i < length slots
    → regions ≡ regions_of (get_or slots i none).regions
    → wanted (drop i slots) ≡ lens regions ++ wanted (drop (i + 1) slots)
wanted_part [] i none regions few own = absurd (omega (arith, few))
wanted_part (s ∷ slots) zero none regions few own =
    map-append (λ region. region.len) (regions_of s.regions) (all_regions (slots_of (guests_of slots)))
    ∙ ap (λ some. lens some ++ wanted slots) (sym own)
wanted_part (s ∷ slots) (suc i) none regions few own =
    let next : suc (i + 1) ≡ suc i + 1 = omega arith in
    wanted_part slots i none regions (omega (arith, few)) own
    ∙ ap (λ m. lens regions ++ wanted (drop m (s ∷ slots))) next
