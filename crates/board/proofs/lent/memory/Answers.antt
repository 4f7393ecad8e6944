use Rattle.std.proofs.Common.{[], map, ap, arith}
use Rattle.std.specs.Vec.{vec_items}
use Rattle.std.specs.Vec.Iter.{into_iter_items}
use Rattle.std.proofs.lemmas.List.{length-map}
use Rattle.guest_memory.proofs.Faults.{good_ends}
use Rattle.board.proofs.Loans.{took_next, took_some}
use Rattle.board.proofs.lent.memory.Goals as goal

pub unreachable-requires : goal.unreachable-requires
unreachable-requires g c =
    let left = into_iter_items c.loop-region.bytes in
    let some = took_some c.args.regions.now (map vec_items (into_iter_items c.args.bytes.now))
    c.loop-region.region-index c.loop-region.made.items (map vec_items left)
    c.loop-region-test.true c.loop-region.invariant in
    absurd (omega (
      arith,
      some,
      length-map left vec_items,
      c.loop-region.bytes.rest.ok.0,
      c.in_default.ensures.cases.0,
    ))

pub of_lent-requires : goal.of_lent-requires
of_lent-requires g c =
    let all = map vec_items (into_iter_items c.args.bytes.now) in
    let next = took_next c.args.regions.now all c.loop-region.region-index (record { base = 0; len = 0 })
    c.loop-region.made.items c.loop-region.made.items
    (record { base = 0; bytes = [] }) (vec_items c.in-Some.run') _
    (map vec_items (into_iter_items c.next.new.self)) c.loop-region-test.true
    (ap (map vec_items) c.in-Some.ensures.items) c.loop-region.invariant in
    let end = good_ends c.args.regions.now c.requires.good c.loop-region.region-index
    (record { base = 0; len = 0 }) c.loop-region-test.true in
    omega (arith, end, next.0)

pub loop-region-preserved : goal.loop-region-preserved
loop-region-preserved g c =
    let all = map vec_items (into_iter_items c.args.bytes.now) in
    let next = took_next c.args.regions.now all c.loop-region.region-index (record { base = 0; len = 0 })
    c.loop-region.made.items c.push.new.self.items
    c.of_lent.result (vec_items c.in-Some.run') _ (map vec_items (into_iter_items c.next.new.self))
    c.loop-region-test.true
    (ap (map vec_items) c.in-Some.ensures.items) c.loop-region.invariant in
    next.1 c.of_lent.ensures.base c.of_lent.ensures.bytes c.in_ok-push.ensures.items
