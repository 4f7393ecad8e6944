use Rattle.replay.proofs.Formats.{MayReplay, alike, as_format_may, asked_alike}
use Rattle.replay.proofs.laws.the_version_changes_no_replay.Goals as goal

pub returns : goal.returns
returns g c t format old new before after outcome range printable admitted goes =
    let disk = g.I.Image.disk in
    let may : MayReplay t = record {
      fits = record { range = range; printable = printable };
      few = admitted.few;
    } in
    let other = as_format_may format t goes may in
    let same = asked_alike t.format format t.slots goes admitted.small in (
      alike disk old new before after t.format format t.cache t.slots t.events may other same.0 outcome,
      alike disk old new before after format t.format t.cache t.slots t.events other may same.1 outcome,
    )
