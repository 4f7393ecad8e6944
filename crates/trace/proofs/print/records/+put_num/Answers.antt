use Rattle.std.proofs.Common.{◌∷◌, [], ℕ, ap, sym, ◌∙◌, arith}
use Rattle.std.proofs.lemmas.List.{append-nil}
use Rattle.hexadecimal.specs.Spelling.{num}
use Rattle.hexadecimal.proofs.Numbers.{num_digit, num_split}
use Rattle.trace.proofs.Passing.{sends_more, sends_same}
use Rattle.trace.proofs.RecordLines.{two_digits}
use Rattle.trace.proofs.print.records.+put_num.Goals as goal

pub returns-then-n-lt16 : goal.returns-then-n-lt16
returns-then-n-lt16 g t c = sends_same _ _ _ _ _ _ (ap (λ (d : ℕ). d ∷ []) c.digit_of.ensures
    ∙ sym (num_digit c.args.n (omega arith))) c.put.ensures

pub returns-then-n-lt256 : goal.returns-then-n-lt256
returns-then-n-lt256 g t c =
    sends_same _ _ _ _ _ _
    (two_digits c.args.n c.digit_of-then-n-lt256.result c.digit_of-low.result [] (omega arith) (omega arith)
    c.digit_of-then-n-lt256.ensures c.digit_of-low.ensures ∙ append-nil (num c.args.n))
    c.put-then-n-lt256.ensures

pub returns : goal.returns
returns g t c =
    sends_same _ _ _ _ _ _ (sym (num_split c.args.n (omega arith)))
    (sends_more _ _ _ _ _ _ _ _ c.put_num.ensures (rw c.digit_of-low.ensures at c.put-2.ensures))
