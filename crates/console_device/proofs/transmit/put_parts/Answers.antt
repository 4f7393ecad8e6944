use Rattle.std.proofs.Common.{◌∙◌, false, ap, arith}
use Rattle.chain.specs.declared.segment.Segment.{Segment}
use Rattle.chain.specs.Bytes.{segments_of}
use Rattle.chain.proofs.Directions.{len_of-le}
use Rattle.chain.proofs.Places.{rest_some}
use Rattle.console_device.proofs.Transmitting.{all_out, has_room, put_more, rest_lies, rest_within}
use Rattle.console_device.proofs.transmit.put_parts.Goals as goal

pub put_part-done-requires-clause-inside : goal.put_part-done-requires-clause-inside
put_part-done-requires-clause-inside g c =
    rest_lies c.loop-done.invariant.put c.segment_at-rest.result
    (omega (arith, c.loop-done-test.true, c.readable_len-len.ensures.value)) c.segment_at-rest.ensures c.requires.good

pub put_part-done-requires-clause-some : goal.put_part-done-requires-clause-some
put_part-done-requires-clause-some g c =
    let some = rest_some (segments_of false c.args.chain.now) c.loop-done.done
    (omega (arith, c.loop-done-test.true, c.readable_len-len.ensures.value)) in
    let len = ap (λ (s : Segment). s.len) c.segment_at-rest.ensures in
    omega (arith, some, len)

pub put_part-done-requires-clause-room : goal.put_part-done-requires-clause-room
put_part-done-requires-clause-room g c =
    has_room c.loop-done.invariant.put c.segment_at-rest.result
    (omega (arith, c.loop-done-test.true, c.readable_len-len.ensures.value)) c.segment_at-rest.ensures

pub overflow_add-done : goal.overflow_add-done
overflow_add-done g c =
    let fits = rest_within c.loop-done.invariant.put c.segment_at-rest.result
    (omega (arith, c.loop-done-test.true, c.readable_len-len.ensures.value)) c.segment_at-rest.ensures in
    omega (arith, fits, c.put_part-done.ensures.within, len_of-le false c.args.chain.now, c.requires.good.fits)

pub loop-done-preserved : goal.loop-done-preserved
loop-done-preserved g c = record {
  put = put_more c.loop-done.invariant.put c.segment_at-rest.result
      (omega (arith, c.loop-done-test.true, c.readable_len-len.ensures.value)) c.segment_at-rest.ensures
      (g.M.Shared.sightings c.put_part-done.new.mem) c.put_part-done.result (g.O.Outlet.bytes c.put_part-done.new.out)
      (g.O.Outlet.room c.put_part-done.new.out) c.put_part-done.ensures.within c.put_part-done.ensures.loads
      c.put_part-done.ensures.put c.put_part-done.ensures.room;
  limit = c.put_part-done.ensures.limit ∙ c.loop-done.invariant.limit;
}

pub returns-clause-put : goal.returns-clause-put
returns-clause-put g c =
    all_out c.loop-done.invariant.put (omega (arith, c.loop-done-test.false, c.readable_len-len.ensures.value))
