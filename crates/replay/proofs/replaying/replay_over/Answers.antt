use Rattle.std.proofs.Common.{◌∙◌, ap, sym}
use Rattle.trace.specs.Asked.{is_hosted}
use Rattle.trace.specs.Validating.{validation}
use Rattle.replay.proofs.Playing.{played, refused_board}
use Rattle.replay.proofs.replaying.replay_over.Goals as goal

pub returns-in-Ok-clause-comes_to : goal.returns-in-Ok-clause-comes_to
returns-in-Ok-clause-comes_to g c text is =
    let found = c.in-Ok in
    let by = c.is_hosted-hosted.ensures ∙ ap is_hosted (c.deref.ensures.value ∙ sym c.deref_mut.ensures.value) in
    played g.I.Image.disk text _ _ c.args.image c.run_validated.result.0 c.run_validated.result.1
    (validation c.args.validated) c.deref_mut.result.now found.board c.is_hosted-hosted.result
    is c.deref_mut.ensures.value found.ensures.made by found.ensures.few
    found.ensures.small found.ensures.accepted c.run_validated.ensures.ended

pub returns-clause-comes_to : goal.returns-clause-comes_to
returns-clause-comes_to g c text is =
    refused_board g.I.Image.disk text _ c.args.image c.in-Err.field-0.image c.in-Err.field-0.why
    (validation c.args.validated) c.deref_mut.result.now
    is c.deref_mut.ensures.value c.in-Err.ensures.returned c.in-Err.ensures.fault

pub returns-in-Ok-clause-read : goal.returns-in-Ok-clause-read
returns-in-Ok-clause-read g c is =
    let lines = c.requires in
    let by = c.is_hosted-hosted.ensures ∙ ap is_hosted (c.deref.ensures.value ∙ sym c.deref_mut.ensures.value) in
    let run = c.run_validated.ensures.ended c.deref_mut.result.now lines.events
    (ap (λ b. b.slots) c.in-Ok.ensures.made) by lines.lines_of in
    rw is at run
