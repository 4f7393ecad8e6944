use Rattle.std.proofs.Common.{◌+◌, ◌<◌, ◌≤◌, ℕ, List, true, length, refl, arith, sym, ap, ◌∙◌}
use Rattle.std.proofs.lemmas.Bool.Decides.{nat_tests}
use Rattle.guest_memory.specs.Memory.{put}
use Rattle.guest_memory.proofs.Ranges.{lent_put}
use Rattle.chain.specs.declared.segment.Buffer.{Buffer}
use Rattle.chain.specs.declared.segment.Segment.{Segment}
use Rattle.chain.specs.Bytes.{len_of, writable_of}
use Rattle.chain.proofs.Contents.{lent_writes, part_inside}
use Rattle.chain.proofs.Directions.{length-addresses_of}
use Rattle.chain.proofs.Scattering.{scatter_done}
use Rattle.chain.proofs.buffers.Chain.write_at.Goals as goal

-- the first place of some of the writable list
in_list : (xs : List Buffer) (from n : ℕ) → from + n ≤ length (writable_of xs) → 0 < n → from < len_of true xs
in_list xs from n range some = omega (arith, length-addresses_of true xs, range, some)

pub returns-then-is_empty-clause-written : goal.returns-then-is_empty-clause-written
returns-then-is_empty-clause-written g c =
    sym (scatter_done c.args.mem.now (writable_of c.args.self.now) c.args.bytes.now c.args.from 0
    (grind (arith, nat_tests)))

pub segment_at-rest-requires : goal.segment_at-rest-requires
segment_at-rest-requires g c =
    in_list c.args.self.now c.args.from _ c.requires.range (grind (arith, nat_tests))

pub part_mut-part-requires : goal.part_mut-part-requires
part_mut-part-requires g c =
    let xs = c.args.self.now in
    part_inside c.args.mem.now true xs c.args.from (length c.args.bytes.now) c.requires.inside
    (in_list xs c.args.from _ c.requires.range (grind (arith, nat_tests)))
    c.segment_at-rest.result c.segment_at-rest.ensures (omega arith)

pub returns-then-bytes-from-clause-written : goal.returns-then-bytes-from-clause-written
returns-then-bytes-from-clause-written g c =
    let xs = c.args.self.now in
    let m = c.args.mem.now in
    let bytes = c.args.bytes.now in
    let h = in_list xs c.args.from _ c.requires.range (grind (arith, nat_tests)) in
    let is = c.segment_at-rest.ensures in
    lent_put m c.segment_at-rest.result.addr (length c.part_mut-part.result.now) c.copy_from_slice.new.self
    (c.part_mut-part.ensures.len ∙ sym (ap (λ (xs : List ℕ). length xs) c.copy_from_slice.ensures.after))
    ∙ ap (put m c.segment_at-rest.result.addr) c.copy_from_slice.ensures.after
    ∙ ap (λ (s : Segment). put m s.addr bytes) is
    ∙ lent_writes m xs c.args.from (length bytes) bytes c.requires.inside h
    (omega (arith, ap (λ (s : Segment). s.len) is)) refl
