use Rattle.std.proofs.Common.{◌≡◌, false, subst, sym}
use Rattle.block_device.specs.Tags.{is_any}
use Rattle.racing_guest.specs.Block.{IsSoundBlock, RacingBlock}
use Rattle.racing_guest.proofs.Holding.{idle_sound}
use Rattle.racing_guest.proofs.block.RacingBlock.put_to.Goals as goal

pub returns-clause-sound : goal.returns-clause-sound
returns-clause-sound g c = λ m sound.
    let was = subst (IsSoundBlock m) (sym c.self.view_is) sound in
    let idle = subst (λ (block : RacingBlock). is_any block.disk.tags ≡ false) (sym c.self.view_is) c.requires.idle in
    idle_sound m c.put_to.new.window c.self.inside.disk idle (c.put_to.ensures.sound m was.window)
