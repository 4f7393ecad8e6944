-- all are bytes of all guests if those behind this place are of the guests behind this one
use Rattle.std.proofs.Common.{◌≡◌, ◌≤◌, length, drop}
use Rattle.std.specs.Prelude.{◌↔◌}
use Rattle.session.proofs.Loans.{sizes, wanted}
use Rattle.session.proofs.guest.are_bytes_of.Given as goal

abbrev pub invariant-loop-guest : goal.invariant-loop-guest
invariant-loop-guest l =
    (l.next ≤ length l.bytes)
    × ((sizes l.bytes ≡ wanted l.guests)
    ↔ (drop l.next (sizes l.bytes) ≡ wanted (drop l.guest-index l.guests)))
