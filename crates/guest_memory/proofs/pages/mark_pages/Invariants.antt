use Rattle.std.proofs.Common.{◌≡◌, ◌≤◌, ◌⊎◌, length}
use Rattle.guest_memory.specs.Pages.{bits_of}
use Rattle.guest_memory.proofs.PageBits.{filled}
use Rattle.guest_memory.proofs.pages.mark_pages.Given as goal

-- the bits of the pages before this one are set
abbrev pub invariant-loop-page : goal.invariant-loop-page
invariant-loop-page l =
    (bits_of l.bits ≡ filled l.first l.page 0 (bits_of l.fn.bits)) × (length l.bits ≡ length l.fn.bits)
    × (l.first ≤ l.page) × ((l.page ≡ l.first) ⊎ (l.page ≤ l.end))
