use Rattle.board.proofs.ImageDisks.{image_comes, image_touches, image_unnoted}
use Rattle.board.proofs.slot.Slot.serve_image.Goals as goal

pub returns-clause-serves : goal.returns-clause-serves
returns-clause-serves g c = λ tells.
    let served = c.serve_image-progress in
    image_comes _ c.args.self.now c.self.view_is c.in-Further.device c.in-Further.queue c.args.pause c.in-Further.is
    c.requires.disk served.new.mem served.new.self (g.I.Image.disk c.args.cache.now) (g.I.Image.disk served.new.cache)
    (rw c.of_image.ensures at served.ensures.stays) c.args.stage c.args.budget served.result.progress c.turn.result c.turn.ensures tells
    (g.met.I.Image.whole c.args.cache.now) (g.met.I.Image.whole served.new.cache) c.requires.lies (rw c.of_image.ensures at served.ensures.serves)

pub returns-clause-unnoted : goal.returns-clause-unnoted
returns-clause-unnoted g c =
    let served = c.serve_image-progress in
    image_unnoted _ c.args.self.now c.self.view_is c.in-Further.device c.in-Further.queue c.args.pause c.in-Further.is
    c.requires.disk served.new.mem served.new.self (g.I.Image.disk c.args.cache.now) (g.I.Image.disk served.new.cache)
    (rw c.of_image.ensures at served.ensures.stays) served.result.failed served.ensures.failed

pub returns-clause-touches : goal.returns-clause-touches
returns-clause-touches g c =
    let served = c.serve_image-progress in
    image_touches _ c.args.self.now c.self.view_is c.in-Further.device c.in-Further.queue c.args.pause c.in-Further.is
    c.requires.disk served.new.mem served.new.self (g.I.Image.disk c.args.cache.now) (g.I.Image.disk served.new.cache)
    (rw c.of_image.ensures at served.ensures.stays) g.I.Image.moment g.I.Image.may_leave g.I.Image.left_since c.args.cache.now served.new.cache
    (rw c.of_image.ensures at served.ensures.touches)
