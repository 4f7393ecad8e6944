-- What was moved to the front is all that is kept.
use Rattle.std.proofs.Common.{◌≡◌, ◌+◌, ◌-◌, length, take, drop, ap, ◌∙◌, arith, rules, length-drop, take_all}
use lib.Seq.{paste}
use Rattle.std.proofs.lemmas.List.Edits.{take-paste}
use Rattle.network_device.proofs.bytes.remove_front.Goals as goal

pub returns-clause-items : goal.returns-clause-items
returns-clause-items g c =
    let all = c.args.row.now.items in
    let left = c.len-len.result - c.args.count in
    let long : length all ≡ c.len-len.result = search rules in
    let same : left ≡ 0 + left = omega arith in
    let rest : length (drop c.args.count all) ≡ left = omega (arith, length-drop c.args.count all) in
    c.truncate.ensures.items ∙ ap (take left) c.copy_within.ensures.items
    ∙ ap (λ k. take k (paste all 0 (drop c.args.count all) left)) same
    ∙ take-paste all 0 (drop c.args.count all) left (omega arith) (omega arith)
    ∙ take_all left (drop c.args.count all) (omega arith)
