-- A slot of whose pages bits are kept keeps its extent, so the board stays sound.
use Rattle.std.proofs.Common.{◌≡◌, Some, refl}
use Rattle.std.specs.List.{slice_get}
use Rattle.guest_memory.specs.Pages.{bits_of}
use Rattle.board.specs.Lending.{with_page_bits}
use Rattle.board.proofs.Lists.{is_there}
use Rattle.board.proofs.Seats.{extents_of-set}
use Rattle.board.proofs.board.Board.keep_pages.Goals as goal

pub invariant_of-self-2 : goal.invariant_of-self-2
invariant_of-self-2 g c =
    let slots = c.self.inside.slots.items in
    let found = c.in-Some.found.now in
    let there : slice_get slots c.args.slot ≡ Some found =
    is_there slots c.args.slot c.in-Some.found c.in-Some.ensures.item in
    rw (
      c.keep_pages.ensures,
      extents_of-set slots c.args.slot found
          (with_page_bits found (bits_of c.args.bits.items)) there (refl, refl),
    ) c.self.invariant

pub returns-clause-kept : goal.returns-clause-kept
returns-clause-kept g c =
    let there : slice_get c.self.inside.slots.items c.args.slot ≡ Some c.in-Some.found.now =
    is_there c.self.inside.slots.items c.args.slot c.in-Some.found c.in-Some.ensures.item in
    rw (← c.self.view_is, there, c.keep_pages.ensures) refl
