use Rattle.std.proofs.Common.{◌≡◌, ◌<◌, false, arith}
use Rattle.chain.specs.Bytes.{len_of, readable_rest, segments_of}
use Rattle.chain.proofs.Contents.{lent_reads, part_inside}
use Rattle.chain.proofs.Directions.{length-readable_of}
use Rattle.chain.proofs.Places.{rest_some}
use Rattle.chain.proofs.buffers.Chain.read_part.Goals as goal

pub segment_at-rest-requires : goal.segment_at-rest-requires
segment_at-rest-requires g c =
    omega (arith, length-readable_of c.args.mem.now c.args.self.now c.requires.inside)

pub slice-requires : goal.slice-requires
slice-requires g c =
    let xs = c.args.self.now in
    let h : c.args.from < len_of false xs =
    omega (arith, length-readable_of c.args.mem.now xs c.requires.inside) in
    part_inside c.args.mem.now false xs c.args.from c.from.result c.requires.inside h c.segment_at-rest.result
    c.segment_at-rest.ensures (omega arith)

pub returns-clause-some : goal.returns-clause-some
returns-clause-some g c =
    let xs = c.args.self.now in
    let h : c.args.from < len_of false xs =
    omega (arith, length-readable_of c.args.mem.now xs c.requires.inside) in
    let is : c.segment_at-rest.result ≡ readable_rest xs c.args.from = c.segment_at-rest.ensures in
    let some : 0 < c.segment_at-rest.result.len = rw is (rest_some (segments_of false xs) c.args.from h) in
    omega (arith, some, c.slice.ensures.len)

pub returns-clause-listed : goal.returns-clause-listed
returns-clause-listed g c =
    let xs = c.args.self.now in
    let h : c.args.from < len_of false xs =
    omega (arith, length-readable_of c.args.mem.now xs c.requires.inside) in
    lent_reads c.args.mem.now xs c.args.from c.from.result c.segment_at-rest.result c.slice.result.now
    c.requires.inside h
    c.segment_at-rest.ensures (omega arith) c.slice.ensures.value c.slice.ensures.len
