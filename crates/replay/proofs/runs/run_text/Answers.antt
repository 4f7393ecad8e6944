use Rattle.std.proofs.Common.{refl}
use Rattle.std.proofs.KnownBytes.{Keeps-refl}
use Rattle.replay.specs.Telling.{SendsRun}
use Rattle.replay.proofs.Telling.{flushed_whole, sends_flushed}
use Rattle.replay.proofs.Lines.{by_both}
use Rattle.replay.proofs.runs.run_text.Goals as goal

pub returns-in_default-clause-after : goal.returns-in_default-clause-after
returns-in_default-clause-after g c events are = (refl, Keeps-refl _)

pub returns-then-is_broken-clause-after : goal.returns-then-is_broken-clause-after
returns-then-is_broken-clause-after g c events are =
    by_both (SendsRun c.args.hosted g.I.Image.disk c.args.board.now c.run_lines.new.board events
    (g.W.Write.contents c.args.writer.now) (g.W.Write.contents c.flush.new.out)) c.in-Ok.ensures
    (c.is_broken.ensures.0 c.if-is_broken.true)
    (sends_flushed c.args.hosted g.I.Image.disk _ _ events _ _ _ _ _ _ (c.run_lines.ensures events are)
    c.flush.ensures.sends)

pub returns-clause-after : goal.returns-clause-after
returns-clause-after g c events are =
    by_both (SendsRun c.args.hosted g.I.Image.disk c.args.board.now c.run_lines.new.board events
    (g.W.Write.contents c.args.writer.now) (g.W.Write.contents c.flush.new.out)) c.in-Ok.ensures
    (flushed_whole _ c.is_broken.result c.flush.ensures.empty c.is_broken.ensures c.if-is_broken.false)
    (sends_flushed c.args.hosted g.I.Image.disk _ _ events _ _ _ _ _ _ (c.run_lines.ensures events are)
    c.flush.ensures.sends)
