use Rattle.block_device.proofs.Answering.{flushing_ends, read_fits, write_fits}
use Rattle.chain.specs.Bytes.{readable_of}
use Rattle.block_device.specs.Request.{payload_of}
use Rattle.block_device.proofs.Touching.{own_write, written_none}
use Rattle.block_device.proofs.device.BlockDevice.perform.Goals as goal

pub read_sectors-requires-clause-fits : goal.read_sectors-requires-clause-fits
read_sectors-requires-clause-fits g c =
    read_fits c.args.mem.now c.args.chain.now c.args.self.now.extent.count c.args.request c.in-Read.sector
    c.in-Read.count c.requires.asked.room _ c.requires.good c.in-Read.is c.requires.asked.servable
    c.requires.asked.all

pub write_sectors-requires-clause-fits : goal.write_sectors-requires-clause-fits
write_sectors-requires-clause-fits g c =
    write_fits c.args.mem.now c.args.chain.now c.args.self.now.extent.count c.args.request c.in-Write.sector
    c.in-Write.count c.requires.asked.room c.requires.good c.in-Write.is c.requires.asked.servable

pub returns-in-Flush-clause-done : goal.returns-in-Flush-clause-done
returns-in-Flush-clause-done g c =
    rw (c.of-in-Flush.ensures.len, c.of-in-Flush.ensures.status) (flushing_ends c.args.self.now c.args.request
    c.args.chain.now c.args.mem.now (g.I.Image.disk c.args.cache.now) (g.I.Image.disk c.flush.new.self)
    c.flush.result c.in-Flush.is c.flush.ensures.ok c.flush.ensures.err).done

pub returns-in-Read-clause-own : goal.returns-in-Read-clause-own
returns-in-Read-clause-own g c = written_none _ c.read_sectors.ensures.touches

pub returns-in-Write-clause-own : goal.returns-in-Write-clause-own
returns-in-Write-clause-own g c =
    own_write c.args.self.now.extent c.args.request
    (payload_of (readable_of c.args.mem.now c.args.chain.now)) c.in-Write.sector c.in-Write.count
    c.in-Write.is c.write_sectors.ensures.touches

pub returns-in-Flush-clause-own : goal.returns-in-Flush-clause-own
returns-in-Flush-clause-own g c = written_none _ c.flush.ensures.touches
