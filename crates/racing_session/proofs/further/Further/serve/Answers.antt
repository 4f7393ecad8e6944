use Rattle.shared_memory.specs.Sightings.{memory}
use Rattle.racing_memory.specs.Past.{sightings_of}
use Rattle.racing_session.proofs.Serving.{inside_sound, served_queue}
use Rattle.racing_session.proofs.further.Further.serve.Goals as goal

pub serve_raced-progress-requires : goal.serve_raced-progress-requires
serve_raced-progress-requires g c = record {
  sound = inside_sound (memory (sightings_of c.args.mem.now.0)) c.self.inside.devices c.self.inside.due c.args.self.now
      c.self.view_is c.requires.sound;
}

pub returns-clause-serves : goal.returns-clause-serves
returns-clause-serves g c =
    let s = c.self.inside in let served = c.serve_raced-progress in
    served_queue c.args.limits c.args.device c.args.queue (sightings_of c.args.mem.now.0) (sightings_of served.new.mem.0) s.devices
    served.new.self s.due c.owe.new.due c.args.self.now served.result c.self.view_is served.ensures.serves c.owe.ensures
