use Rattle.std.proofs.Common.{◌+◌, ◌*◌, rules, arith, refl}
use Rattle.sector_cache.proofs.Filed.{put_more, put_none, put_torn, rest_is}
use Rattle.sector_cache.proofs.Stops.{touches_more, touches_none, touches_wider}
use Rattle.sector_cache.proofs.backing.write_whole.Goals as goal

pub loop-turn-init : goal.loop-turn-init
loop-turn-init g c = (
  omega arith,
  (put_none _ _ _, touches_none (512 * c.args.sector) (512 * (c.args.sector + 1))),
)

pub loop-turn-preserved : goal.loop-turn-preserved
loop-turn-preserved g c = (
  search rules,
  (
    put_more c.write_to.result c.args.sector c.loop-turn.done _ _ c.args.from.now _ _ _ _
        c.in_ok-done.ensures.count (search rules) c.loop-turn.invariant.0 refl
        (rest_is c.args.from.now c.loop-turn.done (search rules)) c.loop-turn.invariant.1.0
        c.write_to.ensures.put,
    touches_more (512 * c.args.sector) (512 * (c.args.sector + 1)) c.loop-turn.invariant.1.1
        (touches_wider (512 * c.args.sector) (512 * (c.args.sector + 1)) (omega arith) (omega arith)
        c.write_to.ensures.touches),
  ),
)

pub returns-in_err-done-clause-put : goal.returns-in_err-done-clause-put
returns-in_err-done-clause-put g c =
    put_torn _ _ _ _ _ _ (search rules) (put_more c.write_to.result c.args.sector c.loop-turn.done _ _
    c.args.from.now _ _ _ _ refl (search rules) c.loop-turn.invariant.0 refl
    (rest_is c.args.from.now c.loop-turn.done (search rules)) c.loop-turn.invariant.1.0
    c.write_to.ensures.put)

pub returns-in_err-done-clause-touches : goal.returns-in_err-done-clause-touches
returns-in_err-done-clause-touches g c =
    touches_more (512 * c.args.sector) (512 * (c.args.sector + 1)) c.loop-turn.invariant.1.1
    (touches_wider (512 * c.args.sector) (512 * (c.args.sector + 1)) (omega arith) (omega arith)
    c.write_to.ensures.touches)
