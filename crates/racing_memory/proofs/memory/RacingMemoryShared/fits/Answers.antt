use Rattle.racing_memory.proofs.Places.{seen_ends}
use Rattle.racing_memory.proofs.memory.RacingMemoryShared.fits.Goals as goal

pub returns : goal.returns
returns c =
    seen_ends c.self.inside.regions.now c.self.inside.past.noted.stood c.self.inside.past.noted.past c.args.addr c.args.n c.args.self.now
    c.self.invariant.0 c.self.view_is c.requires
