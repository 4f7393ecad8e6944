use Rattle.std.proofs.Common.{◌≡◌, ◌+◌, ◌<◌, ℕ, ◌-◌, List, ◌++◌, false, length, take, arith, sym, ap, ◌∙◌}
use Rattle.std.proofs.lemmas.List.{take_all}
use Rattle.std.proofs.lemmas.Slice.{take-put_mid}
use Rattle.chain.specs.Bytes.{len_of, readable_of, segments_of}
use Rattle.chain.specs.declared.segment.Segment.{Segment}
use Rattle.chain.proofs.Contents.{length-put_mid, lent_reads, part_inside, read_run}
use Rattle.chain.proofs.Directions.{len_of-le, length-readable_of}
use Rattle.chain.proofs.Places.{rest_some}
use Rattle.chain.proofs.buffers.Chain.read_parts.Goals as goal

pub overflow_add-place : goal.overflow_add-place
overflow_add-place g c =
    let xs = c.args.self.now in
    omega (arith, len_of-le false xs, length-readable_of c.args.mem.now xs c.requires.inside)

pub buffer_at-index-requires : goal.buffer_at-index-requires
buffer_at-index-requires g c =
    omega (arith, length-readable_of c.args.mem.now c.args.self.now c.requires.inside)

pub buffer_behind-index-requires-clause-in_list : goal.buffer_behind-index-requires-clause-in_list
buffer_behind-index-requires-clause-in_list g c =
    omega (arith, length-readable_of c.args.mem.now c.args.self.now c.requires.inside)

pub slice-requires : goal.slice-requires
slice-requires g c =
    let xs = c.args.self.now in
    let place = c.args.from + c.loop-done.done in
    let h : place < len_of false xs = omega (arith, length-readable_of c.args.mem.now xs c.requires.inside) in
    part_inside c.args.mem.now false xs place c.min-n.result c.requires.inside h c.rest_in-rest.result
    c.rest_in-rest.ensures (omega (arith, c.min-n.ensures))

pub loop-done-smaller : goal.loop-done-smaller
loop-done-smaller g c =
    let xs = c.args.self.now in
    let place = c.args.from + c.loop-done.done in
    let h : place < len_of false xs = omega (arith, length-readable_of c.args.mem.now xs c.requires.inside) in
    let some = rest_some (segments_of false xs) place h in
    let len = ap (λ (s : Segment). s.len) c.rest_in-rest.ensures in
    omega (arith, some, len, c.min-n.ensures, c.loop-done-test.true, c.loop-done.invariant.size)

pub loop-done-preserved : goal.loop-done-preserved
loop-done-preserved g c =
    let xs = c.args.self.now in
    let done = c.loop-done.done in
    let place = c.args.from + done in
    let n = c.min-n.result in
    let into = c.loop-done.into in
    let new = c.copy_from_slice.new.self in
    let part = c.slice.result.now in
    let least = c.min-n.ensures in
    let h : place < len_of false xs = omega (arith, length-readable_of c.args.mem.now xs c.requires.inside) in
    let listed = lent_reads c.args.mem.now xs place n c.rest_in-rest.result part c.requires.inside h
    c.rest_in-rest.ensures (omega (arith, least)) c.slice.ensures.value c.slice.ensures.len in
    let copied : new ≡ part = c.copy_from_slice.ensures.after in
    let size : length new ≡ n = ap (λ (l : List ℕ). length l) copied ∙ c.slice.ensures.len in
    let whole : new ≡ take n part = copied ∙ sym (take_all n part (omega (arith, c.slice.ensures.len))) in
    let k : done + n - done ≡ n = omega arith in
    let e = take-put_mid done (done + n - done) into new (done + n) (omega (arith, size))
    c.loop-done.invariant.within in
    let length_is = length-put_mid done (done + n - done) into new (size ∙ sym k) (omega (arith, least)) in
    record {
      within = omega (arith, length_is, least);
      size = length_is ∙ c.loop-done.invariant.size;
      before = omega (arith, c.buffer_behind-index.ensures.from);
      copied = read_run (readable_of c.args.mem.now xs) part into _ c.args.from done n
          listed (omega (arith, c.slice.ensures.len))
          c.loop-done.invariant.copied (e ∙ ap (λ (l : List ℕ). take done into ++ l) whole);
    }
