use Rattle.std.proofs.Common.{ℕ, List, ◌∷◌, length, sym, ap}
use Rattle.std.proofs.lemmas.Bool.{eqb-true}
use Rattle.hexadecimal.proofs.ByteFields.{bytes_none}
use Rattle.trace.proofs.Passing.{sends_more, sends_same}
use Rattle.trace.proofs.print.records.put_output.Goals as goal

pub returns-then-is_empty : goal.returns-then-is_empty
returns-then-is_empty g c =
    sends_same _ _ _ _ _ _ (ap (λ (xs : List ℕ). 32 ∷ xs)
    (sym (bytes_none c.args.output.now
    (eqb-true (length c.args.output.now) 0 (sym c.if-is_empty.ensures))))) c.put.ensures

pub returns : goal.returns
returns g c = sends_more _ _ _ _ _ _ _ _ c.put-2.ensures c.put_bytes.ensures
