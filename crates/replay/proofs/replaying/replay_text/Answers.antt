use Rattle.std.proofs.Common.{refl}
use Rattle.std.proofs.KnownBytes.{Keeps-refl}
use Rattle.trace.proofs.Validations.{no_room}
use Rattle.replay.proofs.replaying.replay_text.Goals as goal

pub returns-in_default-clause-comes_to : goal.returns-in_default-clause-comes_to
returns-in_default-clause-comes_to g c = record {
  untouched = record { output = Keeps-refl _; image = refl };
  fault_is = no_room g.row.A.Denot c.args.text.now _ c.no_room.result c.in-Ok.ensures.ok
      c.no_room.ensures.line c.no_room.ensures.kind;
}
