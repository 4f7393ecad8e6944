use Rattle.chain.specs.Bytes.{readable_of}
use Rattle.block_device.proofs.device.BlockDevice.headed.Goals as goal

pub returns : goal.returns
returns g c =
    c.headed_by.ensures (readable_of c.args.mem.now c.args.chain.now) (record {
      kind_is = c.read-header.ensures.kind;
      sector_is = c.read-header.ensures.sector;
      long = c.readable_len-readable.ensures.list c.args.mem.now c.requires;
    })
