use Rattle.std.proofs.Common.{List, map}
use Rattle.std.proofs.lemmas.Result.{IfOk-weaker, err_from_is_err_and}
use Rattle.std.specs.Vec.{vec_items}
use Rattle.board.specs.Lent.{made_over, opened_over}
use Rattle.board.specs.Slot.{BoardSlot}
use Rattle.board.proofs.Loans.{made_of, same_sound, sound_over}
use Rattle.board.specs.declared.fault.BoardFault.TheVariants.{NoMemory}
use Rattle.board.proofs.Specs.{memories, rooms}
use Rattle.board.proofs.Faults.{one_fault}
use Rattle.board.proofs.board.Board.over_lent.Goals as goal

pub returns-in_err-cache-clause-exact : goal.returns-in_err-cache-clause-exact
returns-in_err-cache-clause-exact g c = λ fault some refuses.
    let p = err_from_is_err_and c.from_residual.result c.from_residual.ensures.1 in
    rw (p.1, p.2) (one_fault _ c.args.slots.now c.args.cache _ fault c.in_err-cache.ensures.fault refuses)

pub open_all_over-requires-clause-memory : goal.open_all_over-requires-clause-memory
open_all_over-requires-clause-memory g c =
    memories _ c.args.slots.now c.in_ok-cache.ensures.accepted.slots_good

pub open_all_over-requires-clause-disk : goal.open_all_over-requires-clause-disk
open_all_over-requires-clause-disk g c = rooms _ c.args.slots.now c.in_ok-cache.ensures.accepted.slots_good

pub board_of-requires : goal.board_of-requires
board_of-requires g c =
    rw c.in_ok-cache.ensures.made (IfOk-weaker c.open_all_over.result _ _ (λ slots are.
    same_sound _ _ _ are (sound_over _ c.args.slots.now (map vec_items c.args.bytes.items)
    c.in_ok-cache.ensures.accepted.slots_good)) c.open_all_over.ensures)

pub returns-clause-made : goal.returns-clause-made
returns-clause-made g c =
    made_of vec_items (λ (slots : List BoardSlot). record { slots = slots; image = c.args.image })
    c.board_of.result c.open_all_over.result
    (made_over opened_over c.args.slots.now (map vec_items c.args.bytes.items))
    (rw (← c.in_ok-cache.ensures.made) c.board_of.ensures.made) c.open_all_over.ensures

pub returns-clause-exact : goal.returns-clause-exact
returns-clause-exact g c = λ fault some refuses.
    absurd (some (one_fault _ c.args.slots.now c.args.cache fault NoMemory refuses
    (c.in_ok-cache.ensures.accepted.slots_good, c.in_ok-cache.ensures.accepted.capacity)))
