use Rattle.std.proofs.Common.{◌≡◌, ◌+◌, ◌-◌, ◌<◌, ◌≤◌, ℕ, List, true, length, take, drop, arith, sym, ap, ◌∙◌, subst, length-take, length-drop}
use Rattle.std.proofs.lemmas.List.{take-take}
use Rattle.guest_memory.specs.Memory.{Memory, SameRange, put, stored, with_marks}
use Rattle.guest_memory.proofs.Ranges.{lent_put, put_range, same_trans}
use Rattle.chain.specs.declared.segment.Segment.{Segment}
use Rattle.chain.specs.Bytes.{len_of, segments_of, writable_of}
use Rattle.chain.proofs.Contents.{part_inside, write_run}
use Rattle.chain.proofs.Directions.{len_of-le, length-addresses_of}
use Rattle.chain.proofs.Places.{rest_some}
use Rattle.chain.proofs.Scattering.{within_same, scatter_done}
use Rattle.chain.proofs.buffers.Chain.write_parts.Goals as goal

pub overflow_add-place : goal.overflow_add-place
overflow_add-place g c =
    let xs = c.args.self.now in
    omega (arith, len_of-le true xs, length-addresses_of true xs)

pub buffer_at-index-requires : goal.buffer_at-index-requires
buffer_at-index-requires g c = omega (arith, length-addresses_of true c.args.self.now)

pub buffer_behind-index-requires-clause-in_list : goal.buffer_behind-index-requires-clause-in_list
buffer_behind-index-requires-clause-in_list g c = omega (arith, length-addresses_of true c.args.self.now)

pub part_mut-part-requires : goal.part_mut-part-requires
part_mut-part-requires g c =
    let xs = c.args.self.now in
    let place = c.args.from + c.loop-done.done in
    let h : place < len_of true xs = omega (arith, length-addresses_of true xs) in
    let within = within_same c.args.mem.now c.loop-done.mem xs c.loop-done.invariant.same c.requires.inside in
    part_inside c.loop-done.mem true xs place c.min.result within h c.rest_in-rest.result
    c.rest_in-rest.ensures (omega (arith, c.min.ensures))

pub loop-done-smaller : goal.loop-done-smaller
loop-done-smaller g c =
    let xs = c.args.self.now in
    let place = c.args.from + c.loop-done.done in
    let h : place < len_of true xs = omega (arith, length-addresses_of true xs) in
    let some = rest_some (segments_of true xs) place h in
    let len = ap (λ (s : Segment). s.len) c.rest_in-rest.ensures in
    omega (arith, some, len, c.part_mut-part.ensures.len, c.min.ensures, c.loop-done-test.true)

pub loop-done-preserved : goal.loop-done-preserved
loop-done-preserved g c =
    let xs = c.args.self.now in
    let m = c.loop-done.mem in
    let bytes = c.args.bytes.now in
    let done = c.loop-done.done in
    let n = length c.part_mut-part.result.now in
    let rest = c.rest_in-rest.result in
    let new = c.copy_from_slice.new.self in
    let h : c.args.from + done < len_of true xs = omega (arith, length-addresses_of true xs) in
    let run : new ≡ take n (drop done bytes) =
    c.copy_from_slice.ensures.after
    ∙ take-take n (length bytes - done) (drop done bytes)
    (omega (arith, c.part_mut-part.ensures.len, c.min.ensures)) in
    let less : n ≤ rest.len = omega (arith, c.part_mut-part.ensures.len, c.min.ensures) in
    let size : n ≡ length new =
    omega (
      arith,
      ap (λ (xs : List ℕ). length xs) run,
      length-take n (drop done bytes),
      length-drop done bytes,
      c.part_mut-part.ensures.len,
      c.min.ensures,
    ) in
    let lent : Memory = stored (with_marks m rest.addr n) rest.addr new in
    let is : lent ≡ put m rest.addr new = lent_put m rest.addr n new size in
    let within = within_same c.args.mem.now m xs c.loop-done.invariant.same c.requires.inside in
    record {
      within = omega (arith, c.part_mut-part.ensures.len, c.min.ensures);
      before = omega (arith, c.buffer_behind-index.ensures.from);
      same = subst (SameRange c.args.mem.now) (sym is) (same_trans c.args.mem.now m (put m rest.addr new)
          c.loop-done.invariant.same (put_range m rest.addr new));
      left = write_run m lent xs bytes c.args.from done n within h rest
          c.rest_in-rest.ensures less
          (omega (arith, c.part_mut-part.ensures.len, c.min.ensures))
          (is ∙ ap (put m rest.addr) run) ∙ c.loop-done.invariant.left;
    }

pub returns-clause-written : goal.returns-clause-written
returns-clause-written g c =
    sym (scatter_done c.loop-done.mem (writable_of c.args.self.now) c.args.bytes.now
    (c.args.from + c.loop-done.done) c.loop-done.done c.loop-done-test.false)
    ∙ c.loop-done.invariant.left
