use Rattle.shared_memory.specs.Sightings.{memory}
use Rattle.racing_memory.specs.Past.{sightings_of}
use Rattle.racing_session.proofs.Serving.{inside_sound}
use Rattle.racing_session.proofs.further.Further.go_on.Goals as goal

pub serve_each-requires : goal.serve_each-requires
serve_each-requires g c = record {
  sound = inside_sound (memory (sightings_of c.args.mem.now.0)) c.self.inside.devices c.self.inside.due c.args.self.now
      c.self.view_is c.requires.sound;
}
