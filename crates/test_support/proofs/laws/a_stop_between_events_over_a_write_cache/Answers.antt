use Rattle.std.proofs.Common.{refl}
use Rattle.board.specs.World.{world_of}
use Rattle.test_support.specs.WriteBack.{disk_of}
use Rattle.test_support.proofs.laws.a_stop_between_events_over_a_write_cache.Goals as goal

pub returns-clause-clean : goal.returns-clause-clean
returns-clause-clean g c = λ old moves board line same clean.
    c.a_stop_between_events_loses_nothing.ensures.clean old (world_of disk_of board) moves line same clean

pub returns-clause-left : goal.returns-clause-left
returns-clause-left g c = λ old moves board left line same clean may.
    c.a_stop_between_events_loses_nothing.ensures.left old moves board left refl line same clean may
