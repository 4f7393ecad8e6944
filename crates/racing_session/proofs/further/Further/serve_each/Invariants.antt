use Rattle.guest_memory.specs.Memory.{SameRange}
use Rattle.shared_memory.specs.Sightings.{memory}
use Rattle.racing_memory.specs.Past.{sightings_of}
use Rattle.device_list.specs.List.{AreSoundDevices}
use Rattle.racing_session.specs.Further.{ServesFirst}
use Rattle.racing_session.proofs.further.Further.serve_each.Given as goal

-- the devices before this one had what was due of them served
abbrev pub invariant-loop-device : goal.invariant-loop-device
invariant-loop-device g l = record {
  served : ServesFirst l.limits l.due l.device (record { further = l.fn.self; seen = sightings_of l.fn.mem.0 })
      (record { further = l.self; seen = sightings_of l.mem.0 });
  range : SameRange (memory (sightings_of l.fn.mem.0)) (memory (sightings_of l.mem.0));
  sound : AreSoundDevices (memory (sightings_of l.mem.0)) l.self.devices;
}
