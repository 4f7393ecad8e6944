use Rattle.std.proofs.Common.{◌-◌, arith, false}
use Rattle.chain.specs.Bytes.{len_of}
use Rattle.network_device.proofs.Transmitting.{all_out, next_fits, put_out_more, room_at_end}
use Rattle.network_device.proofs.transmit.put_out.Goals as goal

pub put_part-done-requires-clause-room : goal.put_part-done-requires-clause-room
put_part-done-requires-clause-room g c =
    next_fits _ _ _ _ _ _ _ _ _ _ c.loop-done.invariant (len_of false c.args.chain.now - c.loop-done.done)
    (omega (arith, c.readable_len-len.ensures.value, c.loop-done-test.true)) c.requires.room

pub loop-done-preserved : goal.loop-done-preserved
loop-done-preserved g c =
    put_out_more _ _ _ _ _ _ _ _ _ _ c.loop-done.invariant _ c.put_part-done.result _ _ _ c.put_part-done.ensures.fits
    c.put_part-done.ensures.put c.put_part-done.ensures.loads c.put_part-done.ensures.frames c.put_part-done.ensures.limits

pub end-requires : goal.end-requires
end-requires g c = record { room = room_at_end _ _ _ _ _ _ _ _ _ _ c.loop-done.invariant c.requires.room }

pub returns-clause-sent : goal.returns-clause-sent
returns-clause-sent g c =
    let all = c.readable_len-len.ensures.value in
    let done = c.loop-done-test.false in
    all_out _ _ _ _ _ _ _ _ _ _ c.loop-done.invariant (omega (arith, all, done)) _ c.end.ensures.frames
