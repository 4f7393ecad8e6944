use Rattle.std.proofs.Common.{refl, sym, ◌∙◌}
use Rattle.board.specs.Slot.{state_of}
use Rattle.board.proofs.FurtherBegins.{further_limited}
use Rattle.board.proofs.ImageDisks.{further_piece}
use Rattle.board.proofs.Turns.{has_bytes, never_lacks, refuses, sends, silent_turn}
use Rattle.board.proofs.slot.Slot.serve_beside_image.Goals as goal

pub returns-in-Receive-clause-serves : goal.returns-in-Receive-clause-serves
returns-in-Receive-clause-serves g c = λ image health.
    let served = c.serve_receive-progress in
    rw (served.ensures.rest, c.turn.ensures)
    (silent_turn c.args.pause c.args.stage c.args.budget served.result _ _ _ _
    (g.O.Outlet.bytes c.args.out.now)
    (rw (c.in-Receive.is) (record {
      served = served.ensures.served;
      is = refl;
      image = refl;
      silent = refl;
    })))

pub returns-in-Ok-clause-serves : goal.returns-in-Ok-clause-serves
returns-in-Ok-clause-serves g c = λ image health.
    let served = c.serve_transmit in
    rw (served.ensures.rest, c.turn-in-Ok.ensures)
    (sends (state_of image c.args.self.now) c.args.pause c.args.stage c.args.budget c.in-Ok.progress
    (g.O.Outlet.limit c.args.out.now) health served.new.self.memory served.new.self.console _ _
    c.in-Transmit.is c.in-Ok.ensures.ok)

pub returns-in-Err-clause-serves : goal.returns-in-Err-clause-serves
returns-in-Err-clause-serves g c = λ image health.
    let served = c.serve_transmit in
    rw (served.ensures.rest)
    (refuses (state_of image c.args.self.now) c.args.pause c.args.stage c.args.budget
    (g.O.Outlet.limit c.args.out.now) health served.new.self.memory served.new.self.console _ _
    c.in-Transmit.is c.in-Err.ensures.no_memory)

pub returns-in-Ok-clause-no_memory : goal.returns-in-Ok-clause-no_memory
returns-in-Ok-clause-no_memory g c = λ lacking first.
    absurd (never_lacks c.args.pause c.in-Ok.progress (sym c.turn-in-Ok.ensures ∙ lacking))

pub returns-in-Err-clause-no_memory : goal.returns-in-Err-clause-no_memory
returns-in-Err-clause-no_memory g c = λ lacking first. (
  c.in-Transmit.is,
  has_bytes c.args.stage c.args.budget (g.O.Outlet.limit c.args.out.now) _ _ _ _ _ _
      first c.in-Err.ensures.no_memory,
)

pub returns-in-Further-clause-serves : goal.returns-in-Further-clause-serves
returns-in-Further-clause-serves g c = λ image health.
    let served = c.serve_further-progress in
    rw (served.ensures.rest, c.turn-in-Further.ensures)
    (silent_turn c.args.pause c.args.stage c.args.budget served.result _ _ _ _
    (g.O.Outlet.bytes c.args.out.now)
    (rw (c.in-Further.is)
    (further_piece c.args.self.now image c.in-Further.device c.in-Further.queue c.args.stage c.args.budget served.result
    health _ _ (rw (c.in-Further.is) at c.requires.no_image) (record {
      served = served.ensures.served;
      is = refl;
      image = refl;
      silent = refl;
    }))))

pub returns-in-Further-clause-limited : goal.returns-in-Further-clause-limited
returns-in-Further-clause-limited g c =
    let served = c.serve_further-progress in
    further_limited c.args.pause c.args.stage c.args.budget served.result c.in-Further.device c.in-Further.queue
    c.args.self.now.memory served.new.self.memory c.args.self.now.devices served.new.self.devices
    c.turn-in-Further.result c.turn-in-Further.ensures served.ensures.served
