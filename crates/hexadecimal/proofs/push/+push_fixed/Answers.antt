use Rattle.std.proofs.Common.{sym, arith, rules}
use Rattle.std.proofs.lemmas.List.{append-nil, append_assoc}
use Rattle.hexadecimal.proofs.Numbers.{fixed_none, fixed_split}
use Rattle.hexadecimal.proofs.push.+push_fixed.Goals as goal

pub returns-then-digits-eq0 : goal.returns-then-digits-eq0
returns-then-digits-eq0 g t c =
    rw (c.if-digits-eq0.true, fixed_none c.args.n) (sym (append-nil c.args.out.now.items))

pub returns : goal.returns
returns g t c = let e = fixed_split c.args.digits c.args.n (omega arith) in search (rules, append_assoc)
