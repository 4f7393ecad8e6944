use Rattle.std.proofs.Common.{sym, ◌∙◌}
use Rattle.board.specs.Image.{bytes_of, health_of}
use Rattle.board.specs.Slot.{state_of}
use Rattle.board.proofs.Blocks.{count_of}
use Rattle.board.proofs.Hosts.{not_hosted, serves_image}
use Rattle.board.proofs.Seats.{own_within}
use Rattle.board.proofs.guest.Guest.begin.Goals as goal

pub returns-then-is_hosted-clause-serves : goal.returns-then-is_hosted-clause-serves
returns-then-is_hosted-clause-serves g c = λ tells.
    let disk = g.I.Image.disk c.args.cache.now in
    c.begin_hosted-turn.ensures.serves (bytes_of disk) (health_of disk)
    (count_of c.args.self.now.extent disk tells (g.met.I.Image.whole c.args.cache.now)
    (own_within disk.sector_count c.args.self.now c.requires.lies))

pub returns-clause-serves : goal.returns-clause-serves
returns-clause-serves g c = λ tells.
    let before = g.I.Image.disk c.args.cache.now in
    let after = g.I.Image.disk c.answer.new.cache in
    let slot = c.self.inside.slot in
    rw (← c.self.view_is)
    (serves_image c.args.what.now c.args.budget (state_of (bytes_of before) slot) (health_of before)
    (health_of after) (state_of (bytes_of after) c.answer.new.self) c.answer.result.turn _ _
    (not_hosted slot.host (sym c.is_hosted.ensures ∙ c.if-is_hosted.false)) (c.answer.ensures.serves tells))

pub returns-clause-no_memory : goal.returns-clause-no_memory
returns-clause-no_memory g c = λ lacking image.
    rw (← c.self.view_is) (c.answer.ensures.no_memory lacking image)
