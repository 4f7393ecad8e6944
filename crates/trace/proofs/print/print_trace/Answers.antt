use Rattle.std.proofs.Common.{ℕ, List, ◌++◌, map, ap, ◌∙◌}
use Rattle.trace.specs.Text.{content, event_line, front_text, joined, slot_line}
use Rattle.trace.proofs.Printed.{text_is}
use Rattle.trace.proofs.print.print_trace.Goals as goal

pub returns-clause-text : goal.returns-clause-text
returns-clause-text g c =
    let t = c.args.trace.now in
    c.in_ok-push_events.ensures
    ∙ ap (λ es. c.push_slots.new.out.items ++ joined (map event_line es)) c.deref-2.ensures.value
    ∙ ap (λ (xs : List ℕ). xs ++ joined (map event_line t.events.items)) (c.in_ok-push_slots.ensures
    ∙ ap (λ ss. c.push_front.new.out.items ++ joined (map (slot_line t.format) ss)) c.deref.ensures.value
    ∙ ap (λ (xs : List ℕ). xs ++ joined (map (slot_line t.format) t.slots.items)) (c.in_ok-push_front.ensures
    ∙ ap (λ (xs : List ℕ). xs ++ front_text t.format t.cache) c.new-out.ensures.items))
    ∙ text_is (content t)
