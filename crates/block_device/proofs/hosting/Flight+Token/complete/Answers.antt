use Rattle.std.proofs.Common.{sym, ◌∙◌}
use Rattle.guest_memory.proofs.Ranges.{same_trans}
use Rattle.mmio_window.proofs.Soundness.{serving_keeps_sound}
use Rattle.block_device.proofs.hosting.Flight+Token.complete.Goals as goal

pub returns-else-close-clause-sound : goal.returns-else-close-clause-sound
returns-else-close-clause-sound g c =
    serving_keeps_sound c.args.mem.now c.close.new.mem c.args.window.now 0 c.in-Some.queue.now
    c.close.new.self
    c.requires.sound (same_trans c.args.mem.now c.give_back-written.new.mem c.close.new.mem
    c.give_back-written.ensures.range c.close.ensures.range)
    (sym c.in-Some.ensures.value) (c.close.ensures.made ∙ c.give_back-written.ensures.made)
