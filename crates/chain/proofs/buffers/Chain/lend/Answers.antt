use Rattle.std.proofs.Common.{◌≡◌, ◌<◌, ◌≤◌, ℕ, List, true, length, min, refl, arith, sym, ap, ◌∙◌}
use Rattle.guest_memory.specs.Memory.{part_of, stored, with_marks}
use Rattle.chain.specs.declared.segment.Segment.{Segment}
use Rattle.chain.specs.Bytes.{len_of, segments_of, writable_rest}
use Rattle.chain.proofs.Contents.{lent_writes, part_inside}
use Rattle.chain.proofs.Directions.{length-addresses_of}
use Rattle.chain.proofs.Places.{rest_some}
use Rattle.chain.proofs.buffers.Chain.lend.Goals as goal

pub segment_at-rest-requires : goal.segment_at-rest-requires
segment_at-rest-requires g c =
    omega (arith, length-addresses_of true c.args.chain.now)

pub part_mut-requires : goal.part_mut-requires
part_mut-requires g c =
    let xs = c.args.chain.now in
    let h : c.args.from < len_of true xs = omega (arith, length-addresses_of true xs) in
    part_inside c.args.mem.now true xs c.args.from c.min.result c.requires.inside h c.segment_at-rest.result
    c.segment_at-rest.ensures (omega (arith, c.min.ensures))

pub returns : goal.returns
returns g c =
    let xs = c.args.chain.now in
    let rest = writable_rest xs c.args.from in
    let h : c.args.from < len_of true xs = omega (arith, length-addresses_of true xs) in
    let is : c.segment_at-rest.result ≡ rest = c.segment_at-rest.ensures in
    let addr : c.segment_at-rest.result.addr ≡ rest.addr = ap (λ (s : Segment). s.addr) is in
    let len : c.segment_at-rest.result.len ≡ rest.len = ap (λ (s : Segment). s.len) is in
    let some : 0 < rest.len = rest_some (segments_of true xs) c.args.from h in
    let size : length c.part_mut.result.now ≡ min c.args.most rest.len =
    omega (arith, c.part_mut.ensures.len, c.min.ensures, len) in
    let less : length c.part_mut.result.now ≤ rest.len = omega (arith, size) in (
      (refl, λ (w : List ℕ). ap (λ a. stored (with_marks c.args.mem.now a (length c.part_mut.result.now)) a w) addr),
      record {
        writes_back = tt;
        value = c.part_mut.ensures.value ∙ ap (λ a. part_of c.args.mem.now a c.min.result) addr
            ∙ ap (part_of c.args.mem.now rest.addr) (sym c.part_mut.ensures.len);
        len = size;
        some = omega (arith, size, some, c.requires.some);
        listed = λ (bytes : List ℕ) same. lent_writes c.args.mem.now xs c.args.from
            (length c.part_mut.result.now) bytes c.requires.inside h less same;
      },
    )
