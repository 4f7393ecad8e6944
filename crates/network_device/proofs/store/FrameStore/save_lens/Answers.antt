use Rattle.std.proofs.Common.{ap, arith}
use Rattle.network_device.specs.Frames.{Store}
use Rattle.network_device.proofs.Saving.{at_small, count_is, lens_put, put_more}
use Rattle.network_device.proofs.store.FrameStore.save_lens.Goals as goal

pub overflow_mul-i : goal.overflow_mul-i
overflow_mul-i g c =
    let limit = ap (λ (s : Store). s.limits.frames) c.self.view_is in
    omega (arith, limit, c.requires.frames, c.loop-i-test.true, c.loop-i.auto.i-end, c.len-i-end.ensures.within)

pub overflow_cast-len : goal.overflow_cast-len
overflow_cast-len g c =
    let limit = ap (λ (s : Store). s.limits.bytes) c.self.view_is in
    let small = at_small c.self.inside.lens.items c.loop-i.i c.in-Some.len.now c.in-Some.ensures in
    omega (arith, limit, small, c.requires.bytes, c.self.invariant)

pub put_number-requires : goal.put_number-requires
put_number-requires g c =
    let count = count_is c.self.inside.lens.items c.self.inside.bytes.items c.args.self.now.frames c.self.inside.whole
    (ap (λ (s : Store). s.frames) c.self.view_is) c.self.invariant.0 c.self.invariant.1 in
    omega (
      arith,
      count,
      c.requires.len,
      c.loop-i.auto.into,
      c.loop-i-test.true,
      c.loop-i.auto.i-end,
      c.len-i-end.ensures.len,
    )

pub loop-i-preserved : goal.loop-i-preserved
loop-i-preserved g c =
    put_more c.self.inside.lens.items c.loop-i.i c.in-Some.len.now c.args.into.now c.loop-i.into c.put_number.new.into
    c.in-Some.ensures c.loop-i.invariant c.put_number.ensures

pub returns : goal.returns
returns g c =
    lens_put c.self.inside.lens.items c.self.inside.bytes.items c.args.self.now.frames c.self.inside.whole
    (ap (λ (s : Store). s.frames) c.self.view_is) c.self.invariant.0 c.self.invariant.1 c.loop-i.i c.args.into.now
    c.loop-i.into (omega (arith, c.loop-i-test.false, c.loop-i.auto.i-end, c.len-i-end.ensures.len)) c.requires.len
    c.loop-i.invariant
