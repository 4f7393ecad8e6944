use Rattle.std.proofs.Common.{length, ap, sym, arith, ◌∙◌}
use Rattle.trace.proofs.EventLines.{cut_behind, cut_never_refused}
use Rattle.trace.proofs.Saying.{taken_parsed}
use Rattle.trace.proofs.Sofar.{some_lines}
use Rattle.trace.proofs.read.events.take_event.Goals as goal

pub returns-in-Some : goal.returns-in-Some
returns-in-Some g c =
    taken_parsed c.in-Some.taken.0 c.args.rest.now c.in-Some.taken.1.now c.in-Some.ensures.fine
    c.in-Some.ensures.each c.in-Some.ensures.line

pub unreachable-requires : goal.unreachable-requires
unreachable-requires g c =
    let more = some_lines c.requires.after in
    omega (
      arith,
      ap length (sym (cut_behind c.args.rest.now c.requires.event c.requires.after c.requires.begins)
          ∙ c.in_default-take_line.ensures.none),
    )

pub event_of-requires : goal.event_of-requires
event_of-requires g c =
    cut_never_refused _ c.args.rest.now c.in-Some-take_line.line.now c.in-Some-take_line.after.now c.requires
    c.in-Some-take_line.ensures.lines
