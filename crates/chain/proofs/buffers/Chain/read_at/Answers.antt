use Rattle.std.proofs.Common.{◌+◌, ◌<◌, ◌≤◌, ℕ, List, false, length, take, drop, arith, ap, ◌∙◌}
use Rattle.std.specs.Prelude.{All}
use Rattle.std.proofs.lemmas.Bool.Decides.{nat_tests}
use Rattle.guest_memory.specs.Memory.{Memory}
use Rattle.chain.specs.declared.segment.Buffer.{Buffer}
use Rattle.chain.specs.Buffers.{Within}
use Rattle.chain.specs.Bytes.{len_of, readable_of}
use Rattle.chain.proofs.Contents.{lent_reads, part_inside}
use Rattle.chain.proofs.Directions.{length-readable_of}
use Rattle.chain.proofs.buffers.Chain.read_at.Goals as goal

-- the first place of some of the readable list
in_list : (m : Memory) (xs : List Buffer) (from n : ℕ) → All (Within m) xs
    → from + n ≤ length (readable_of m xs)
    → 0 < n → from < len_of false xs
in_list m xs from n inside range some = omega (arith, length-readable_of m xs inside, range, some)

pub segment_at-rest-requires : goal.segment_at-rest-requires
segment_at-rest-requires g c =
    in_list c.args.mem.now c.args.self.now c.args.from _ c.requires.inside c.requires.range
    (grind (arith, nat_tests))

pub slice-requires : goal.slice-requires
slice-requires g c =
    let xs = c.args.self.now in
    part_inside c.args.mem.now false xs c.args.from (length c.args.into.now) c.requires.inside
    (in_list c.args.mem.now xs c.args.from _ c.requires.inside c.requires.range (grind (arith, nat_tests)))
    c.segment_at-rest.result c.segment_at-rest.ensures (omega arith)

pub returns-then-into-from : goal.returns-then-into-from
returns-then-into-from g c =
    let xs = c.args.self.now in
    let part = c.slice.result.now in
    let h = in_list c.args.mem.now xs c.args.from _ c.requires.inside c.requires.range
    (grind (arith, nat_tests)) in
    let listed = lent_reads c.args.mem.now xs c.args.from (length c.args.into.now)
    c.segment_at-rest.result part c.requires.inside h
    c.segment_at-rest.ensures (omega arith) c.slice.ensures.value c.slice.ensures.len in
    c.copy_from_slice.ensures.after ∙ listed
    ∙ ap (λ (n : ℕ). take n (drop c.args.from (readable_of c.args.mem.now xs))) c.slice.ensures.len
