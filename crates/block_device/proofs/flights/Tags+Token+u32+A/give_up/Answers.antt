use Rattle.block_device.proofs.Freeing.{none_freed}
use Rattle.block_device.proofs.Held.{idle_tags_held}
use Rattle.block_device.proofs.flights.Tags+Token+u32+A.give_up.Goals as goal

pub returns-clause-held : goal.returns-clause-held
returns-clause-held g c = λ capacity m.
    rw (c.free_all.ensures) (idle_tags_held capacity m c.needs_reset.new.self _ (none_freed c.args.self.now))
