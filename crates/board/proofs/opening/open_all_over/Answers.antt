use Rattle.std.proofs.Common.{List, length, drop, map, sym, subst, ap, ◌∙◌}
use Rattle.std.specs.Vec.{vec_items}
use Rattle.std.specs.Vec.Iter.{into_iter_items}
use Rattle.guest_memory.specs.declared.spec.RegionSpec.{RegionSpec}
use Rattle.guest_memory.specs.Regions.{memory_of}
use Rattle.board.specs.Lent.{BeginWith, opened_over, with_bytes}
use Rattle.board.proofs.Loans.{opened_next}
use Rattle.board.proofs.opening.open_all_over.Goals as goal

pub memory-requires-clause-bytes : goal.memory-requires-clause-bytes
memory-requires-clause-bytes g c =
    let rest = map vec_items (into_iter_items c.loop-spec.rest) in
    let next = opened_next opened_over c.args.specs.now (map vec_items c.args.bytes.items)
    c.loop-spec.spec-index c.loop-spec.slots.items c.spec-item.result rest
    c.loop-spec-test.true c.spec-item.is c.loop-spec.invariant in
    subst (λ (regions : List RegionSpec). BeginWith regions rest) (sym c.as_slice.ensures.same) next.0

pub loop-spec-preserved : goal.loop-spec-preserved
loop-spec-preserved g c =
    let rest = map vec_items (into_iter_items c.loop-spec.rest) in
    let next = opened_next opened_over c.args.specs.now (map vec_items c.args.bytes.items)
    c.loop-spec.spec-index c.loop-spec.slots.items c.spec-item.result rest
    c.loop-spec-test.true c.spec-item.is c.loop-spec.invariant in
    next.1 c.push.new.self.items c.in_ok-over.field-0 c.in_ok-memory.memory
    (map vec_items (into_iter_items c.memory.new.bytes))
    (c.in_ok-memory.ensures.made
    ∙ ap (λ (regions : List RegionSpec). memory_of (with_bytes regions rest)) c.as_slice.ensures.same)
    (c.in_ok-memory.ensures.rest
    ∙ ap (λ (regions : List RegionSpec). drop (length regions) rest) c.as_slice.ensures.same)
    c.in_ok-over.ensures c.in_ok-push.ensures.items
