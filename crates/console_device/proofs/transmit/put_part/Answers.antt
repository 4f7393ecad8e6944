use Rattle.std.proofs.Common.{◌≡◌, length, take, arith}
use Rattle.std.proofs.lemmas.List.{length-take-le}
use Rattle.guest_memory.proofs.Ranges.{inside_part}
use Rattle.shared_memory.proofs.Sightings.{loads_none}
use Rattle.chain_handler.proofs.Doing.{copy_out}
use Rattle.console_device.proofs.transmit.put_part.Goals as goal

pub returns-in-Some-clause-put : goal.returns-in-Some-clause-put
returns-in-Some-clause-put g c =
    let sightings = g.M.Shared.sightings c.args.mem.now in
    rw c.from-len.ensures (copy_out g.M.Shared.races sightings sightings c.args.segment.addr c.args.segment.len c.in-Some.bytes.now
    (g.O.Outlet.bytes c.args.out.now) (g.O.Outlet.bytes c.append.new.self) (loads_none g.M.Shared.races sightings)
    c.requires.inside (rw c.from-len.ensures at c.in-Some.ensures.value) c.append.ensures.bytes)

pub put_copy-requires-clause-inside : goal.put_copy-requires-clause-inside
put_copy-requires-clause-inside g c =
    let few = c.min-few.result in
    let long : length (take few c.args.piece.now) ≡ few = length-take-le few c.args.piece.now (omega (arith, c.min-few.ensures)) in
    rw long (inside_part c.requires.inside (omega arith) (omega (arith, c.min-few.ensures, c.from-len.ensures)))
