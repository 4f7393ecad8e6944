use Rattle.std.proofs.Common.{◌+◌, ◌<◌, ◌≤◌, ℕ, List, true, length, arith}
use Rattle.std.proofs.lemmas.Bool.Decides.{nat_tests}
use Rattle.chain.specs.declared.segment.Buffer.{Buffer}
use Rattle.chain.specs.Bytes.{len_of, writable_of}
use Rattle.chain.proofs.Contents.{part_inside}
use Rattle.chain.proofs.Directions.{length-addresses_of}
use Rattle.shared_memory.specs.Sightings.{memory}
use Rattle.chain_handler.proofs.Rows.{part_places}
use Rattle.chain_handler.proofs.storing.store_in_chain.Goals as goal

-- the first place of some of the writable list
in_list : (buffers : List Buffer) (from n : ℕ) → from + n ≤ length (writable_of buffers) → 0 < n → from < len_of true buffers
in_list buffers from n range some = omega (arith, length-addresses_of true buffers, range, some)

pub segment_at-rest-requires : goal.segment_at-rest-requires
segment_at-rest-requires g c = in_list c.args.chain.now c.args.from _ c.requires.range (grind (arith, nat_tests))

pub store-requires : goal.store-requires
store-requires g c =
    let buffers = c.args.chain.now in
    part_inside (memory (g.M.Shared.sightings c.args.mem.now)) true buffers c.args.from (length c.args.bytes.now)
    c.requires.good.inside (in_list buffers c.args.from _ c.requires.range (grind (arith, nat_tests)))
    c.segment_at-rest.result c.segment_at-rest.ensures (omega arith)

pub returns-then-bytes-from-clause-stored : goal.returns-then-bytes-from-clause-stored
returns-then-bytes-from-clause-stored g c =
    let buffers = c.args.chain.now in
    rw (part_places true buffers c.args.from (length c.args.bytes.now) c.segment_at-rest.result
    (in_list buffers c.args.from _ c.requires.range (grind (arith, nat_tests))) c.segment_at-rest.ensures (omega arith))
    c.store.ensures.stored
