use Rattle.trace.proofs.Passing.{flushed}
use Rattle.trace.proofs.print.buffer.Buffer.flush.Goals as goal

pub returns-clause-sends : goal.returns-clause-sends
returns-clause-sends g c =
    flushed (g.W.Write.contents c.args.out.now) (g.W.Write.contents c.write_whole.new.out)
    c.args.self.now.is_broken c.write_whole.result c.args.self.now.bytes c.clear.new.self
    c.if-self.false c.clear.ensures (rw c.as_slice.ensures at c.write_whole.ensures.whole)
    (rw c.as_slice.ensures at c.write_whole.ensures.front)
