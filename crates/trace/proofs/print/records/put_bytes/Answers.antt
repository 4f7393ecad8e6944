use Rattle.std.proofs.Common.{length, refl, sym, arith}
use Rattle.std.proofs.lemmas.Bool.{eqb-false, eqb-true}
use Rattle.trace.specs.Sends.{waiting}
use Rattle.hexadecimal.proofs.ByteFields.{bytes_none, bytes_some}
use Rattle.trace.proofs.Passing.{sends_none, sends_same}
use Rattle.trace.proofs.RecordLines.{put_all, put_more}
use Rattle.trace.proofs.print.records.put_bytes.Goals as goal

pub returns-then-is_empty : goal.returns-then-is_empty
returns-then-is_empty g c =
    sends_same _ _ _ _ _ _ (sym
    (bytes_none c.args.bytes.now (eqb-true (length c.args.bytes.now) 0 (sym c.if-is_empty.ensures))))
    c.put.ensures

pub loop-rest-init : goal.loop-rest-init
loop-rest-init g c = record { done = _; sent = sends_none _ (waiting c.args.buffer.now); whole = refl }

pub loop-rest-preserved : goal.loop-rest-preserved
loop-rest-preserved g c =
    rw c.split_at.ensures.back (put_more _ _ _ _ _ _ c.args.bytes.now c.loop-rest.rest.now _
    c.loop-rest.invariant (rw c.split_at.ensures.front at c.put_block.ensures))

pub returns : goal.returns
returns g c =
    put_all _ _ _ _ c.args.bytes.now c.loop-rest.rest.now _ c.loop-rest.invariant
    (eqb-true (length c.loop-rest.rest.now) 0 (sym c.loop-rest-test.ensures))
    (bytes_some c.args.bytes.now
    (let some = eqb-false (length c.args.bytes.now) 0 (sym c.if-is_empty.ensures) in omega (arith, some)))
