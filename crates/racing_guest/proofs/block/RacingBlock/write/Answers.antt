use Rattle.shared_memory.specs.Sightings.{memory}
use Rattle.racing_guest.proofs.Telling.{write_sound}
use Rattle.racing_guest.proofs.block.RacingBlock.write.Goals as goal

pub returns-then-not-is_notified-clause-sound : goal.returns-then-not-is_notified-clause-sound
returns-then-not-is_notified-clause-sound g c =
    write_sound c.args.offset c.args.width c.args.value (memory (g.M.Shared.sightings c.args.mem.now)) c.self.inside.window
    c.write-action.new.self c.self.inside.disk c.args.self.now c.self.view_is c.if-must_wait.ensures
    c.write-action.ensures.written (c.write-action.ensures.sound) c.requires.sound

pub serve-requires : goal.serve-requires
serve-requires g c = record {
  sound = write_sound c.args.offset c.args.width c.args.value (memory (g.M.Shared.sightings c.args.mem.now))
      c.self.inside.window c.write-action.new.self c.self.inside.disk c.args.self.now c.self.view_is
      c.if-must_wait.ensures c.write-action.ensures.written (c.write-action.ensures.sound) c.requires.sound;
}
