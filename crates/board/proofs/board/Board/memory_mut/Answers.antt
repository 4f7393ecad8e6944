-- A slot whose memory is written keeps its extent, so the board stays sound.
use Rattle.std.proofs.Common.{◌≡◌, ℕ, ◌<◌, List, Option, Some, get_or, length, refl, ap, subst, arith}
use Rattle.std.specs.Prelude.{IsSomeAnd}
use Rattle.std.specs.List.{slice_get}
use Rattle.std.proofs.lemmas.Option.{slice_get_read}
use Rattle.guest_memory.specs.Memory.{Inside}
use Rattle.board.specs.Lending.{with_bytes}
use Rattle.board.specs.Slot.{BoardSlot}
use Rattle.board.proofs.Seats.{extents_of-set}
use Rattle.board.proofs.board.Board.memory_mut.Goals as goal

-- the slot of that number
there : (slots : List BoardSlot) (i count : ℕ) (found : BoardSlot) → i < count → length slots ≡ count
    → found ≡ get_or slots i found → slice_get slots i ≡ Some found
there slots i count found few is value =
    let fits : i < length slots = omega (arith, few, is) in
    slice_get_read slots (length slots) i found refl fits value

-- what holds of the slot of that number holds of it
of_found : (P : BoardSlot → Type 0) (o : Option BoardSlot) (found : BoardSlot) → o ≡ Some found
    → IsSomeAnd o P → P found
of_found P o found is holds = subst (λ (o : Option BoardSlot). IsSomeAnd o P) is holds

pub memory_mut-requires : goal.memory_mut-requires
memory_mut-requires g c =
    let slots = c.self.inside.slots.items in
    let found = c.index_mut-found.result.now in
    of_found (λ (slot : BoardSlot). Inside slot.memory c.args.addr 1)
    (slice_get c.args.self.now.slots c.args.slot) found
    (rw (← c.self.view_is) (there slots c.args.slot _ found c.requires.there
    (ap (λ b. length b.slots) c.self.view_is) c.index_mut-found.ensures.value))
    c.requires.held

pub invariant_of-self-lent : goal.invariant_of-self-lent
invariant_of-self-lent g c w =
    rw (extents_of-set c.self.inside.slots.items c.args.slot c.index_mut-found.result.now
    (with_bytes c.args.addr c.index_mut-found.result.now w)
    (there c.self.inside.slots.items c.args.slot _ c.index_mut-found.result.now c.requires.there
    (ap (λ b. length b.slots) c.self.view_is) c.index_mut-found.ensures.value) (refl, refl))
    c.self.invariant

pub returns : goal.returns
returns g c =
    let found = there c.self.inside.slots.items c.args.slot _ c.index_mut-found.result.now c.requires.there
    (ap (λ b. length b.slots) c.self.view_is) c.index_mut-found.ensures.value in (
      (refl, λ w. rw (← c.self.view_is, found) refl),
      record {
        writes_back = tt;
        rest = rw (← c.self.view_is, found) c.memory_mut.ensures.rest;
      },
    )
