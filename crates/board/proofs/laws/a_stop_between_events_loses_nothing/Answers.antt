use Rattle.board.proofs.Durable.{left_as_seen, line_clean}
use Rattle.board.specs.World.{world_of}
use Rattle.board.proofs.laws.a_stop_between_events_loses_nothing.Goals as goal

pub returns-clause-clean : goal.returns-clause-clean
returns-clause-clean g c = line_clean

pub returns-clause-left : goal.returns-clause-left
returns-clause-left g c = λ old moves board left tells line same clean may.
    left_as_seen board.slots (g.I.Image.disk board.image) left tells
    (line_clean old (world_of g.I.Image.disk board) moves line same clean)
    (g.met.I.Image.durable board.image left may)
