use Rattle.std.proofs.Common.{length, arith}
use Rattle.chain.specs.Bytes.{readable_of}
use Rattle.block_device.proofs.Transfers.{first_sector, gathered_sector}
use Rattle.block_device.proofs.transfer.sector_at.Goals as goal

pub returns-in-Some : goal.returns-in-Some
returns-in-Some g c =
    first_sector c.read_part-part.result.now c.in-Some.bytes.now
    (readable_of c.args.mem.now c.args.chain.now) c.args.place
    c.read_part-part.ensures.listed c.in-Some.ensures.cases.enough c.in-Some.ensures.cases.same

pub returns : goal.returns
returns g c =
    gathered_sector c.read_part-part.result.now c.copy_from_slice.new.self c.read_at.new.into
    (readable_of c.args.mem.now c.args.chain.now) c.args.place
    (length c.split_at_mut-front.result.1.now) c.read_part-part.ensures.listed
    c.copy_from_slice.ensures.after c.read_at.ensures
    (omega (arith, c.split_at_mut-front.ensures.back_len))
