use Rattle.std.proofs.Common.{◌≡◌, ◌∙◌, ◌+◌, ◌<◌, ◌≤◌, false, length, take, arith, ap, refl}
use Rattle.std.proofs.lemmas.List.{take_all}
use Rattle.chain.specs.declared.segment.Segment.{Segment}
use Rattle.chain.specs.Bytes.{len_of, segments_of}
use Rattle.chain.proofs.Contents.{part_inside}
use Rattle.chain.proofs.Directions.{len_of-le}
use Rattle.chain.proofs.Places.{rest_some}
use Rattle.chain.proofs.Scattering.{within_same}
use Rattle.shared_memory.proofs.Sightings.{loads_none, loads_range, loads_trans}
use Rattle.chain_handler.proofs.Copying.{copied_long, part_copied}
use Rattle.chain_handler.proofs.Rows.{part_long}
use Rattle.chain_handler.proofs.reading.read_in_chain.Goals as goal

pub overflow_add-from : goal.overflow_add-from
overflow_add-from g c =
    let v = c.loop-done.invariant in
    omega (arith, c.requires.range, v.long, len_of-le false c.args.chain.now, c.buffers.ensures.fits, c.loop-done-test.true)

pub segment_at-rest-requires : goal.segment_at-rest-requires
segment_at-rest-requires g c = omega (arith, c.requires.range, c.loop-done.invariant.long, c.loop-done-test.true)

pub loop-done-init : goal.loop-done-init
loop-done-init g c = record { within = omega arith; long = refl; copied = tt; loads = loads_none _ _ }

pub load-requires : goal.load-requires
load-requires g c =
    let buffers = c.args.chain.now in
    let v = c.loop-done.invariant in
    rw (part_long c.loop-done.done c.min-len.result c.loop-done.into (omega (arith, c.min-len.ensures, v.within)))
    (part_inside _ false buffers (c.args.from + c.loop-done.done) c.min-len.result
    (within_same _ _ buffers (loads_range _ _ _ v.loads) c.requires.good.inside)
    (omega (arith, c.requires.range, v.long, c.loop-done-test.true)) c.segment_at-rest.result c.segment_at-rest.ensures
    (omega (arith, c.min-len.ensures)))

pub loop-done-smaller : goal.loop-done-smaller
loop-done-smaller g c =
    let buffers = c.args.chain.now in
    let v = c.loop-done.invariant in
    let some = rest_some (segments_of false buffers) (c.args.from + c.loop-done.done)
    (omega (arith, c.requires.range, v.long, c.loop-done-test.true)) in
    let len = ap (λ (s : Segment). s.len) c.segment_at-rest.ensures in
    omega (arith, some, len, c.min-len.ensures, v.long, c.loop-done-test.true)

pub loop-done-preserved : goal.loop-done-preserved
loop-done-preserved g c =
    let buffers = c.args.chain.now in
    let v = c.loop-done.invariant in
    let done = c.loop-done.done in
    let n = c.min-len.result in
    let there : c.args.from + done < len_of false buffers = omega (arith, c.requires.range, v.long, c.loop-done-test.true) in
    let fits : n ≤ c.segment_at-rest.result.len = omega (arith, c.min-len.ensures) in
    let within : done + n ≤ length c.loop-done.into = omega (arith, c.min-len.ensures, v.within) in
    let long = copied_long _ _ _ _ buffers c.args.from done n c.loop-done.into _ c.segment_at-rest.result c.requires.good.inside there
    c.segment_at-rest.ensures fits within v.loads c.load.ensures.loads c.load.ensures.value in
    record {
      within = omega (arith, within, long);
      long = long ∙ v.long;
      copied = part_copied _ _ _ _ buffers c.args.from done n c.loop-done.into _ c.segment_at-rest.result c.requires.good.inside
          there c.segment_at-rest.ensures fits within v.loads c.load.ensures.loads c.load.ensures.value v.copied;
      loads = loads_trans _ _ _ _ v.loads c.load.ensures.loads;
    }

pub returns-clause-copied : goal.returns-clause-copied
returns-clause-copied g c =
    let v = c.loop-done.invariant in
    let all : c.loop-done.done ≡ length c.loop-done.into = omega (arith, v.within, c.loop-done-test.false) in
    let row : take c.loop-done.done c.loop-done.into ≡ c.loop-done.into = take_all c.loop-done.done c.loop-done.into (omega (arith, all)) in
    rw (row, all ∙ v.long) at v.copied
