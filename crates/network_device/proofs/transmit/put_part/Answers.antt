use Rattle.std.proofs.Common.{◌≡◌, ◌∙◌, ◌+◌, ◌-◌, ◌≤◌, false, length, arith, ap}
use Rattle.guest_memory.specs.Memory.{Inside}
use Rattle.guest_memory.proofs.Ranges.{length-part_of}
use Rattle.chain.specs.declared.segment.Segment.{Segment}
use Rattle.chain.specs.Bytes.{len_of, segments_of}
use Rattle.chain.proofs.Contents.{part_inside}
use Rattle.chain.proofs.Places.{rest_some}
use Rattle.shared_memory.specs.Sightings.{memory}
use Rattle.shared_memory.proofs.Sightings.{loads_none}
use Rattle.chain_handler.proofs.Doing.{copy_out}
use Rattle.chain_handler.proofs.Rows.{part_places, rest_fits}
use Rattle.network_device.proofs.Rooms.{shorter}
use Rattle.network_device.proofs.transmit.put_part.Goals as goal

pub in_place-requires : goal.in_place-requires
in_place-requires g c =
    part_inside _ false c.args.chain.now c.args.from c.from-len.result c.requires.good.inside c.requires.in_list
    c.segment_at-rest.result c.segment_at-rest.ensures (omega (arith, c.from-len.ensures))

pub append-requires : goal.append-requires
append-requires g c =
    let rest = c.segment_at-rest.result in
    let m = memory (g.M.Shared.sightings c.args.mem.now) in
    let inside : Inside m rest.addr c.from-len.result =
    part_inside m false c.args.chain.now c.args.from c.from-len.result c.requires.good.inside c.requires.in_list rest
    c.segment_at-rest.ensures (omega (arith, c.from-len.ensures)) in
    let long : length c.in-Some.part.now ≡ c.from-len.result =
    ap length c.in-Some.ensures.value ∙ length-part_of m rest.addr c.from-len.result inside in
    let fits = rest_fits false c.args.chain.now c.args.from rest c.requires.in_list c.segment_at-rest.ensures in
    let begun = length (g.O.FrameOutlet.begun c.args.out.now) in
    record {
      room = shorter (g.O.FrameOutlet.limits c.args.out.now) (g.O.FrameOutlet.frames c.args.out.now)
          (begun + (len_of false c.args.chain.now - c.args.from)) (begun + length c.in-Some.part.now) c.requires.room
          (omega (arith, long, fits, c.from-len.ensures));
    }

pub returns-in-Some-clause-put : goal.returns-in-Some-clause-put
returns-in-Some-clause-put g c =
    let rest = c.segment_at-rest.result in
    let few : c.from-len.result ≤ rest.len = omega (arith, c.from-len.ensures) in
    rw (part_places false c.args.chain.now c.args.from c.from-len.result rest c.requires.in_list c.segment_at-rest.ensures few)
    (copy_out g.M.Shared.races _ _ rest.addr c.from-len.result c.in-Some.part.now _ _ (loads_none _ _)
    (part_inside _ false c.args.chain.now c.args.from c.from-len.result c.requires.good.inside c.requires.in_list rest
    c.segment_at-rest.ensures few) c.in-Some.ensures.value c.append.ensures.begun)

pub returns-in-Some-clause-some : goal.returns-in-Some-clause-some
returns-in-Some-clause-some g c =
    let some = rest_some (segments_of false c.args.chain.now) c.args.from c.requires.in_list in
    let len = ap (λ (s : Segment). s.len) c.segment_at-rest.ensures in
    omega (arith, some, len, c.from-len.ensures)

pub returns-in-Some-clause-fits : goal.returns-in-Some-clause-fits
returns-in-Some-clause-fits g c =
    let fits = rest_fits false c.args.chain.now c.args.from c.segment_at-rest.result c.requires.in_list c.segment_at-rest.ensures in
    omega (arith, fits, c.from-len.ensures)

pub put_copy-requires-clause-inside : goal.put_copy-requires-clause-inside
put_copy-requires-clause-inside g c =
    let rest = c.segment_at-rest.result in
    part_inside (memory (g.M.Shared.sightings c.args.mem.now)) false c.args.chain.now c.args.from rest.len c.requires.good.inside
    c.requires.in_list rest c.segment_at-rest.ensures (omega arith)

pub put_copy-requires-clause-room : goal.put_copy-requires-clause-room
put_copy-requires-clause-room g c =
    let rest = c.segment_at-rest.result in
    let fits = rest_fits false c.args.chain.now c.args.from rest c.requires.in_list c.segment_at-rest.ensures in
    let limits = g.O.FrameOutlet.limits c.args.out.now in
    let begun = length (g.O.FrameOutlet.begun c.args.out.now) in
    shorter limits (g.O.FrameOutlet.frames c.args.out.now) (begun + (len_of false c.args.chain.now - c.args.from)) (begun + rest.len)
    c.requires.room (omega (arith, fits))

pub returns-clause-put : goal.returns-clause-put
returns-clause-put g c =
    rw (part_places false c.args.chain.now c.args.from c.put_copy.result c.segment_at-rest.result c.requires.in_list
    c.segment_at-rest.ensures c.put_copy.ensures.few) c.put_copy.ensures.put

pub returns-clause-some : goal.returns-clause-some
returns-clause-some g c =
    let some = rest_some (segments_of false c.args.chain.now) c.args.from c.requires.in_list in
    let len = ap (λ (s : Segment). s.len) c.segment_at-rest.ensures in
    c.put_copy.ensures.some (omega (arith, some, len))

pub returns-clause-fits : goal.returns-clause-fits
returns-clause-fits g c =
    let fits = rest_fits false c.args.chain.now c.args.from c.segment_at-rest.result c.requires.in_list c.segment_at-rest.ensures in
    omega (arith, fits, c.put_copy.ensures.few)
