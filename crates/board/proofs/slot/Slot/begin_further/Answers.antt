use Rattle.mmio_window.specs.declared.stage.Stage.TheVariants.{First}
use Rattle.board.proofs.FurtherBegins.{further_serves}
use Rattle.board.proofs.slot.Slot.begin_further.Goals as goal

pub returns : goal.returns
returns g c =
    let served = c.serve_further-progress in
    further_serves c.args.device c.args.asked.queue c.args.asked.taken First c.args.budget served.result c.args.self.now
    served.new.self c.turn.result c.requires.no_image served.ensures.served served.ensures.rest served.ensures.range
    (rw (← c.of.ensures) c.turn.ensures)
