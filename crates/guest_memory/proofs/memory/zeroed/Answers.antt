use Rattle.guest_memory.proofs.memory.zeroed.Goals as goal

pub zeroed_region-requires : goal.zeroed_region-requires
zeroed_region-requires g c = c.requires c.loop-region.region-index _ c.loop-region-test.true
