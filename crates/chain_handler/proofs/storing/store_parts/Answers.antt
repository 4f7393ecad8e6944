use Rattle.std.proofs.Common.{◌≡◌, ◌+◌, ◌<◌, true, length, take, arith, ap, refl}
use Rattle.std.proofs.lemmas.List.{take_all}
use Rattle.guest_memory.proofs.Ranges.{same_trans}
use Rattle.chain.specs.declared.segment.Segment.{Segment}
use Rattle.chain.specs.Bytes.{len_of, segments_of}
use Rattle.chain.proofs.Contents.{part_inside}
use Rattle.chain.proofs.Directions.{length-addresses_of}
use Rattle.chain.proofs.Places.{rest_some}
use Rattle.chain.proofs.Scattering.{within_same}
use Rattle.shared_memory.proofs.Sightings.{same_self}
use Rattle.chain_handler.proofs.Rows.{few_places, part_long, part_stored}
use Rattle.chain_handler.proofs.storing.store_parts.Goals as goal

pub overflow_add-from : goal.overflow_add-from
overflow_add-from g c = omega (arith, c.requires.range, few_places true c.args.chain.now c.buffers.ensures.fits)

pub segment_at-rest-requires : goal.segment_at-rest-requires
segment_at-rest-requires g c = omega (arith, c.requires.range, length-addresses_of true c.args.chain.now, c.loop-done-test.true)

pub loop-done-init : goal.loop-done-init
loop-done-init g c = record { within = omega arith; stored = refl; range = same_self _ }

pub store-requires : goal.store-requires
store-requires g c =
    let buffers = c.args.chain.now in
    let v = c.loop-done.invariant in
    let there : c.args.from + c.loop-done.done < len_of true buffers =
    omega (arith, c.requires.range, length-addresses_of true buffers, c.loop-done-test.true) in
    rw (part_long c.loop-done.done c.min-len.result c.args.bytes.now (omega (arith, c.min-len.ensures)))
    (part_inside _ true buffers (c.args.from + c.loop-done.done) c.min-len.result
    (within_same _ _ buffers v.range c.requires.good.inside) there c.segment_at-rest.result c.segment_at-rest.ensures
    (omega (arith, c.min-len.ensures)))

pub loop-done-smaller : goal.loop-done-smaller
loop-done-smaller g c =
    let buffers = c.args.chain.now in
    let some = rest_some (segments_of true buffers) (c.args.from + c.loop-done.done)
    (omega (arith, c.requires.range, length-addresses_of true buffers, c.loop-done-test.true)) in
    let len = ap (λ (s : Segment). s.len) c.segment_at-rest.ensures in
    omega (arith, some, len, c.min-len.ensures, c.loop-done-test.true)

pub loop-done-preserved : goal.loop-done-preserved
loop-done-preserved g c =
    let buffers = c.args.chain.now in
    let v = c.loop-done.invariant in
    record {
      within = omega (arith, c.min-len.ensures, v.within);
      stored = part_stored _ _ _ _ buffers c.args.from c.loop-done.done c.min-len.result c.args.bytes.now _
          c.segment_at-rest.result
          (omega (arith, c.requires.range, length-addresses_of true buffers, c.loop-done-test.true)) c.segment_at-rest.ensures
          (omega (arith, c.min-len.ensures)) (omega (arith, c.min-len.ensures)) refl v.stored c.store.ensures.stored;
      range = same_trans _ _ _ v.range c.store.ensures.range;
    }

pub returns-clause-stored : goal.returns-clause-stored
returns-clause-stored g c =
    let v = c.loop-done.invariant in
    let bytes = c.args.bytes.now in
    let all : c.loop-done.done ≡ length bytes = omega (arith, v.within, c.loop-done-test.false) in
    let row : take c.loop-done.done bytes ≡ bytes = take_all c.loop-done.done bytes (omega (arith, all)) in
    rw (row, all) at v.stored
