use Rattle.std.proofs.Common.{◌+◌, ◌-◌, ◌≡◌, true, length, arith}
use Rattle.chain.specs.Bytes.{len_of, segments_of, writable_of}
use Rattle.chain.proofs.Directions.{All-segments_of, length-addresses_of}
use Rattle.chain.proofs.Places.{last_address, last_inside}
use Rattle.chain.proofs.buffers.Chain.last_writable.Goals as goal

pub segment_at-requires : goal.segment_at-requires
segment_at-requires c =
    omega (arith, c.writable_len.ensures, c.requires, length-addresses_of true c.args.self.now)

pub returns-clause-value : goal.returns-clause-value
returns-clause-value c =
    let xs = c.args.self.now in
    let sized = length-addresses_of true xs in
    let last : length (writable_of xs) - 1 + 1 ≡ len_of true xs = omega (arith, c.requires, sized) in
    rw (c.segment_at.ensures, c.writable_len.ensures)
    (last_address (segments_of true xs) (length (writable_of xs) - 1) last sized)

pub returns-clause-inside : goal.returns-clause-inside
returns-clause-inside c m good =
    let xs = c.args.self.now in
    let last : length (writable_of xs) - 1 + 1 ≡ len_of true xs =
    omega (arith, c.requires, length-addresses_of true xs) in
    rw (c.segment_at.ensures, c.writable_len.ensures)
    (last_inside m (segments_of true xs) (length (writable_of xs) - 1) last (All-segments_of m true xs good))
