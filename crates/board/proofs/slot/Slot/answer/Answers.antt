use Rattle.std.proofs.Common.{sym, subst, ◌∙◌, refl}
use Rattle.block_device.specs.declared.extent.Extent.{Extent}
use Rattle.block_device.specs.Extent.{IsWithin, TouchesExtent}
use Rattle.board.specs.Image.{bytes_of, health_of}
use Rattle.board.specs.Slot.{state_of, whole_extent}
use Rattle.board.proofs.Beside.{unnoted_behind}
use Rattle.board.proofs.Blocks.{count_of}
use Rattle.board.proofs.ImageDisks.{lacks_in_service}
use Rattle.board.proofs.Seats.{own_within, same_whole}
use Rattle.board.proofs.Touching.{untouched}
use Rattle.board.proofs.Turns.{begins_by, begins_within}
use Rattle.board.proofs.slot.Slot.answer.Goals as goal

pub returns-in-Ok-clause-serves : goal.returns-in-Ok-clause-serves
returns-in-Ok-clause-serves g c = λ tells.
    let old = g.I.Image.disk c.args.cache.now in
    let slot = c.args.self.now in
    c.in-Ok.ensures.serves (bytes_of old) (health_of old)
    (count_of slot.extent old tells (g.met.I.Image.whole c.args.cache.now)
    (own_within old.sector_count slot c.requires.lies))

pub returns-in-Ok-clause-within : goal.returns-in-Ok-clause-within
returns-in-Ok-clause-within g c = λ limit limited.
    c.in-Ok.ensures.within (bytes_of (g.I.Image.disk c.args.cache.now)) limit limited

pub returns-in-Ok-clause-touches : goal.returns-in-Ok-clause-touches
returns-in-Ok-clause-touches g c =
    untouched g.I.Image.moment g.I.Image.may_leave g.I.Image.left_since
    (whole_extent c.args.self.now) c.args.cache.now

pub serve_piece-requires : goal.serve_piece-requires
serve_piece-requires g c = record {
  lies = subst (λ (e : Extent). IsWithin (g.I.Image.disk c.args.cache.now).sector_count e)
      (sym (same_whole c.args.self.now c.answer_beside_image.new.self c.answer_beside_image.ensures.keeps.place))
      c.requires.lies;
}

pub returns-in-Err-clause-serves : goal.returns-in-Err-clause-serves
returns-in-Err-clause-serves g c = λ tells.
    let bytes = bytes_of (g.I.Image.disk c.args.cache.now) in
    let state = state_of bytes c.args.self.now in
    rw (← c.in-Err.ensures.silent)
    (begins_by c.args.what.now c.in-Err.pause c.args.budget state (state_of bytes c.answer_beside_image.new.self) _ _ _
    c.serve_piece.result.turn _ _
    (c.in-Err.ensures.asks bytes) (c.in-Err.ensures.readied bytes)
    (c.serve_piece.ensures.serves tells))

pub returns-in-Err-clause-within : goal.returns-in-Err-clause-within
returns-in-Err-clause-within g c = λ limit limited.
    let bytes = bytes_of (g.I.Image.disk c.args.cache.now) in
    let state = state_of bytes c.args.self.now in
    rw (← c.in-Err.ensures.silent)
    (begins_within limit c.args.what.now c.in-Err.pause c.args.budget state
    (state_of bytes c.answer_beside_image.new.self)
    _ _ _ c.serve_piece.result.turn
    (c.in-Err.ensures.asks bytes) (c.in-Err.ensures.readied bytes)
    (c.serve_piece.ensures.within limit (c.answer_beside_image.ensures.limit ∙ limited)))

pub returns-in-Err-clause-unnoted : goal.returns-in-Err-clause-unnoted
returns-in-Err-clause-unnoted g c =
    unnoted_behind _ _ _ _ _ _ c.answer_beside_image.ensures.keeps.place c.answer_beside_image.ensures.disturbed
    c.serve_piece.ensures.unnoted

pub returns-in-Err-clause-touches : goal.returns-in-Err-clause-touches
returns-in-Err-clause-touches g c =
    subst (λ (e : Extent). TouchesExtent g.I.Image.moment g.I.Image.may_leave g.I.Image.left_since e
    c.args.cache.now c.serve_piece.new.cache)
    (same_whole c.args.self.now c.answer_beside_image.new.self c.answer_beside_image.ensures.keeps.place)
    c.serve_piece.ensures.touches

pub returns-in-Err-clause-no_memory : goal.returns-in-Err-clause-no_memory
returns-in-Err-clause-no_memory g c = λ lacking image.
    let found = c.serve_piece.ensures.no_memory lacking refl in
    lacks_in_service c.args.what.now (state_of image c.args.self.now) c.in-Err.pause (c.in-Err.ensures.asks image) found.0
    (rw (← c.in-Err.ensures.readied image) found.1)
