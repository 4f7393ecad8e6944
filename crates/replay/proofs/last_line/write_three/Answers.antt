use Rattle.std.proofs.Common.{◌++◌}
use Rattle.trace.proofs.Sending.{front_of_first, front_of_second}
use Rattle.replay.proofs.last_line.write_three.Goals as goal

pub returns-then-not-write_whole-clause-front : goal.returns-then-not-write_whole-clause-front
returns-then-not-write_whole-clause-front g c =
    front_of_first _ _ c.args.one.now (c.args.two.now ++ c.args.three.now) c.write_whole.ensures.front

pub returns-then-not-write_whole-2-clause-front : goal.returns-then-not-write_whole-2-clause-front
returns-then-not-write_whole-2-clause-front g c =
    front_of_second _ (g.W.Write.contents c.write_whole.new.out) _ c.args.one.now (c.args.two.now
    ++ c.args.three.now) c.if-not-write_whole.ensures.whole
    (front_of_first _ _ c.args.two.now c.args.three.now c.write_whole-2.ensures.front)

pub returns-clause-front : goal.returns-clause-front
returns-clause-front g c =
    front_of_second _ (g.W.Write.contents c.write_whole.new.out) _ c.args.one.now (c.args.two.now
    ++ c.args.three.now) c.if-not-write_whole.ensures.whole
    (front_of_second _ (g.W.Write.contents c.write_whole-2.new.out) _ c.args.two.now c.args.three.now
    c.if-not-write_whole-2.ensures.whole c.write_whole-3.ensures.front)
