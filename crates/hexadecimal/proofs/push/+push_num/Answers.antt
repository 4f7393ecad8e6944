use Rattle.std.proofs.Common.{arith, rules}
use Rattle.std.proofs.lemmas.List.{append_assoc}
use Rattle.hexadecimal.proofs.Numbers.{num_digit, num_split}
use Rattle.hexadecimal.proofs.push.+push_num.Goals as goal

pub returns-then-n-lt16 : goal.returns-then-n-lt16
returns-then-n-lt16 g t c = let e = num_digit c.args.n (omega arith) in search rules

pub returns : goal.returns
returns g t c = let e = num_split c.args.n (omega arith) in search (rules, append_assoc)
