use Rattle.std.proofs.Common.{◌-◌, ap, arith}
use Rattle.std.proofs.Math.Nat.{sub-add-min_cancel}
use Rattle.chain.specs.declared.segment.Segment.{Segment}
use Rattle.chain.specs.Bytes.{segments_of}
use Rattle.chain.proofs.Cutting.{run_fits, run_put, runs_end}
use Rattle.chain.proofs.Places.{rest_some}
use Rattle.chain.proofs.buffers.Chain.runs.Goals as goal

pub push-requires : goal.push-requires
push-requires c =
    let few = run_fits c.args.writable c.args.self.now c.args.from c.args.to c.loop-place.place
    c.loop-place.into c.loop-place.invariant c.loop-place-test.true c.requires.in_list in
    omega (arith, few, c.buffers.ensures.few)

pub loop-place-smaller : goal.loop-place-smaller
loop-place-smaller c =
    let some = rest_some (segments_of c.args.writable c.args.self.now) c.loop-place.place
    (omega (arith, c.loop-place-test.true, c.requires.in_list)) in
    let len = ap (λ (s : Segment). s.len) c.segment_at-rest.ensures in
    let k = sub-add-min_cancel c.segment_at-rest.result.len (c.args.to - c.loop-place.place) in
    omega (
      arith,
      c.loop-place-test.true,
      some,
      len,
      k,
      c.from.ensures,
      c.min-len.ensures,
      c.from-place.ensures,
    )

pub loop-place-preserved : goal.loop-place-preserved
loop-place-preserved c =
    run_put c.args.writable c.args.self.now c.args.from c.args.to c.loop-place.place c.from-place.result
    c.loop-place.into c.push.new.self c.segment_at-rest.result _
    c.loop-place.invariant c.loop-place-test.true c.requires.in_list c.segment_at-rest.ensures
    (omega (arith, c.from.ensures, c.min-len.ensures, c.from-place.ensures))
    (ap (λ n. record { addr = c.segment_at-rest.result.addr; len = n }) (omega (arith, c.from-place.ensures)))
    c.push.ensures

pub returns : goal.returns
returns c =
    runs_end (segments_of c.args.writable c.args.self.now) c.args.from c.args.to c.loop-place.place
    c.loop-place.into c.loop-place.invariant (omega (arith, c.loop-place-test.false))
