use Rattle.chain.specs.Bytes.{readable_of}
use Rattle.block_device.proofs.Judging.{header_in, kind_read, sector_read}
use Rattle.block_device.proofs.header.Header.read.Goals as goal

pub returns-in-Some-clause-kind : goal.returns-in-Some-clause-kind
returns-in-Some-clause-kind g c =
    let readable = readable_of c.args.mem.now c.args.chain.now in
    kind_read c.in-Some.bytes.now readable c.of.result.kind
    (header_in c.read_part.result.now c.in-Some.bytes.now readable c.read_part.ensures.listed
    c.in-Some.ensures.cases.enough c.in-Some.ensures.cases.same)
    c.of.ensures.kind

pub returns-in-Some-clause-sector : goal.returns-in-Some-clause-sector
returns-in-Some-clause-sector g c =
    let readable = readable_of c.args.mem.now c.args.chain.now in
    sector_read c.in-Some.bytes.now readable c.of.result.sector
    (header_in c.read_part.result.now c.in-Some.bytes.now readable c.read_part.ensures.listed
    c.in-Some.ensures.cases.enough c.in-Some.ensures.cases.same)
    c.of.ensures.sector
