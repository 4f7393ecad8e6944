use Rattle.std.proofs.Common.{arith, refl}
use Rattle.block_device.specs.Extent.{IsWithin}
use Rattle.board.proofs.ImageDisks.{kept_bytes, own_leaves_spare, own_stays, own_touches}
use Rattle.board.proofs.Seats.{own_within}
use Rattle.board.proofs.Turns.{block_piece, silent_turn}
use Rattle.board.proofs.slot.Slot.serve_piece.Goals as goal

pub returns-in-Block-clause-serves : goal.returns-in-Block-clause-serves
returns-in-Block-clause-serves g c = λ tells.
    let old = g.I.Image.disk c.args.cache.now in
    let served = c.serve_block-progress in
    let new = g.I.Image.disk served.new.cache in
    let slot = c.args.self.now in
    let stays = served.ensures.stays in
    let own : IsWithin old.sector_count slot.extent = own_within old.sector_count slot c.requires.lies in
    let lies : IsWithin new.sector_count slot.extent = omega (arith, own, stays.outside.sectors) in
    rw (served.ensures.rest, c.turn.ensures)
    (silent_turn c.args.pause c.args.stage c.args.budget served.result.progress _ _ _ _
    (g.O.Outlet.bytes c.args.out.now)
    (rw (c.in-Block.is)
    (block_piece slot c.args.stage c.args.budget served.result.progress served.new.self.memory
    served.new.self.block old new tells (kept_bytes slot.extent old new tells stays).tells
    (g.met.I.Image.whole c.args.cache.now) (g.met.I.Image.whole served.new.cache) own lies
    stays.rises (own_leaves_spare slot old new stays tells) served.ensures.served)))

pub returns-in-Block-clause-unnoted : goal.returns-in-Block-clause-unnoted
returns-in-Block-clause-unnoted g c =
    let served = c.serve_block-progress in
    rw (served.ensures.rest)
    (record {
      stays = record {
        place = (refl, refl);
        image = own_stays c.args.self.now (g.I.Image.disk c.args.cache.now) (g.I.Image.disk served.new.cache)
            served.ensures.stays;
      };
      disturbed = refl;
      counted = served.ensures.failed;
    })

pub returns-in-Block-clause-touches : goal.returns-in-Block-clause-touches
returns-in-Block-clause-touches g c =
    own_touches g.I.Image.moment g.I.Image.may_leave g.I.Image.left_since c.args.self.now c.args.cache.now
    c.serve_block-progress.new.cache c.serve_block-progress.ensures.touches
