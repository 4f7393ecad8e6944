use Rattle.racing_memory.proofs.Places.{one_makes}
use Rattle.racing_memory.proofs.memory.RacingMemory.over_one.Goals as goal

pub over-requires : goal.over-requires
over-requires c = one_makes c.from_ref.result.now c.args.region.now c.from_ref.ensures.value c.fits.ensures
