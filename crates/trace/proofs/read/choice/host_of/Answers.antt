use Rattle.hexadecimal.specs.Spelling.{num}
use Rattle.trace.proofs.Disks.{depth_behind, is_hosted_disk}
use Rattle.trace.proofs.read.choice.host_of.Goals as goal

pub returns-in_err-digits-clause-none : goal.returns-in_err-digits-clause-none
returns-in_err-digits-clause-none c =
    rw c.from_residual.ensures (λ depth spare disk. c.in_err-digits.ensures (num depth) disk.spelled)

pub returns-in_err-depth-clause-none : goal.returns-in_err-depth-clause-none
returns-in_err-depth-clause-none c =
    rw c.from_residual-in_err-depth.ensures
    (λ depth spare disk. c.in_err-depth.ensures.none
    (depth, depth_behind c.args.field.now _ depth c.in_ok-digits.ensures spare disk))

pub returns-clause-some : goal.returns-clause-some
returns-clause-some c = is_hosted_disk c.args.field.now _ _ c.in_ok-digits.ensures c.in_ok-depth.ensures.some

pub returns-clause-parsed : goal.returns-clause-parsed
returns-clause-parsed c =
    (_, (_, is_hosted_disk c.args.field.now _ _ c.in_ok-digits.ensures c.in_ok-depth.ensures.some))
