use Rattle.std.proofs.Common.{[], ◌∷◌, length, sym}
use Rattle.std.proofs.lemmas.Bool.{eqb-false, eqb-true}
use Rattle.replay.proofs.Lines.{begins, fits, run_all, run_more, run_none}
use Rattle.replay.proofs.Telling.{sends_no_run, sends_runs}
use Rattle.replay.proofs.runs.run_lines.Goals as goal

pub loop-rest-init : goal.loop-rest-init
loop-rest-init g c =
    run_none _ c.args.lines.now _ _ c.requires.lines
    (sends_no_run c.args.hosted g.I.Image.disk c.args.board.now _ _)

pub run_line-rest-requires-clause-begins : goal.run_line-rest-requires-clause-begins
run_line-rest-requires-clause-begins g c =
    begins _ c.args.lines.now _ c.loop-rest.rest.now _ c.loop-rest.invariant
    (eqb-false (length c.loop-rest.rest.now) 0 (sym c.loop-rest-test.ensures))

pub run_line-rest-requires-clause-room : goal.run_line-rest-requires-clause-room
run_line-rest-requires-clause-room g c =
    rw c.loop-rest.auto.room (fits _ c.args.lines.now _ c.loop-rest.rest.now _ c.loop-rest.invariant)

pub loop-rest-preserved : goal.loop-rest-preserved
loop-rest-preserved g c =
    run_more _ c.args.lines.now _ c.loop-rest.rest.now _ _ _ _ c.loop-rest.invariant
    c.run_line-rest.ensures
    (λ es e. sends_runs c.args.hosted g.I.Image.disk c.args.board.now _ _ es (e ∷ []) _ _ _ _ _ _)

pub returns : goal.returns
returns g c events are =
    run_all _ c.args.lines.now _ c.loop-rest.rest.now events _ c.loop-rest.invariant
    (eqb-true (length c.loop-rest.rest.now) 0 (sym c.loop-rest-test.ensures)) are
