use Rattle.std.proofs.lemmas.Bool.{false≢true}
use Rattle.std.proofs.Common.{sym, ◌∙◌}
use Rattle.trace.specs.Text.{content}
use Rattle.trace.proofs.Printables.{by_words}
use Rattle.trace.proofs.print.is_printable.Goals as goal
use Rattle.trace.proofs.print.is_printable.Goals.{then-slots_have_lines, else-slots_have_lines}

pub returns-then-events_have_lines : goal.returns-then-events_have_lines
returns-then-events_have_lines g c =
    elim c.if-slots_have_lines.branch [
      | then-slots_have_lines w ↦
          by_words (content c.args.trace.now) c.events_have_words.result
          (rw c.deref.ensures.value at c.slots_have_lines.ensures.0 w.if-slots_have_lines.true)
          (rw w.deref-then-slots_have_lines.ensures.value at w.events_have_lines.ensures.0 (sym w.value-is ∙ c.if-events_have_lines.true))
          (rw c.deref-then-events_have_lines.ensures.value at c.events_have_words.ensures)
      | else-slots_have_lines w ↦ absurd
          (false≢true (sym w.if-slots_have_lines.false ∙ sym w.value-is ∙ c.if-events_have_lines.true))
    ]
