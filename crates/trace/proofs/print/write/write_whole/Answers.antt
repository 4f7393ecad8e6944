use Rattle.std.proofs.KnownBytes.{Appends-kept}
use Rattle.trace.proofs.Sending.{sent_more, sent_within}
use Rattle.trace.proofs.print.write.write_whole.Goals as goal
use Rattle.trace.proofs.print.write.write_whole.Goals.{in-Ok, in-Err+else-ne}

pub loop-preserved : goal.loop-preserved
loop-preserved g c =
    let bytes = c.args.bytes.now in
    let contents = g.W.Write.contents in
    elim c.match-write.branch [
      | in-Ok w ↦ record {
        within = sent_within bytes c.loop.sent w.in-Ok.n c.match-write.sent w.sent-is c.loop.invariant.within
            w.in-Ok.ensures.bound;
        gone = sent_more (contents c.args.out.now) (contents c.loop.out) (contents c.write.new.self) bytes
            c.loop.sent w.in-Ok.n c.match-write.sent w.sent-is c.loop.invariant.gone w.in-Ok.ensures.bytes;
      }
      | in-Err+else-ne w ↦ record {
        within = rw w.sent-is c.loop.invariant.within;
        gone = rw w.sent-is (Appends-kept (contents c.args.out.now) (contents c.loop.out)
            (contents c.write.new.self) _ c.loop.invariant.gone w.in-Err.ensures.bytes);
      }
    ]
