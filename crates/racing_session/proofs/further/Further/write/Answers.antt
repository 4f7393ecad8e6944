use Rattle.shared_memory.specs.Sightings.{memory}
use Rattle.racing_memory.specs.Past.{sightings_of}
use Rattle.racing_session.proofs.Serving.{inside_sound}
use Rattle.racing_session.proofs.further.Further.write.Goals as goal

pub write_raced-requires : goal.write_raced-requires
write_raced-requires g c = record {
  sound = inside_sound (memory (sightings_of c.args.mem.now.0)) c.self.inside.devices c.self.inside.due c.args.self.now
      c.self.view_is c.requires.sound;
}
