use Rattle.std.proofs.Common.{arith}
use Rattle.racing_disk.proofs.Judging.{behind_all, behind_long}
use Rattle.racing_disk.proofs.segments.read_segments.Goals as goal

pub returns-clause-copied : goal.returns-clause-copied
returns-clause-copied g c =
    let copy = behind_all (g.M.Shared.sightings c.args.mem.now) (g.M.Shared.sightings c.read_in_chain.new.mem) c.args.chain.now
    c.args.len _ c.read_in_chain.new.into c.requires.payload (omega arith) c.read_in_chain.ensures.copied in
    record {
      payload = c.read_in_chain.new.into;
      copy = copy;
      is = record {
        long = behind_long (g.M.Shared.sightings c.args.mem.now) (g.M.Shared.sightings c.read_in_chain.new.mem) c.args.chain.now
            c.args.len c.read_in_chain.new.into c.requires.payload copy;
        are = c.of.ensures;
      };
    }
