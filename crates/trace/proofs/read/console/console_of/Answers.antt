use Rattle.trace.specs.Spelling.{console}
use Rattle.trace.proofs.Consoles.{console_behind, is_console}
use Rattle.trace.proofs.read.console.console_of.Goals as goal

pub returns-in_err-rest-clause-none : goal.returns-in_err-rest-clause-none
returns-in_err-rest-clause-none c =
    rw c.from_residual.ensures (λ cols rows kind. c.in_err-rest.ensures (console cols rows) kind.spelled)

pub returns-in_err-cols-clause-none : goal.returns-in_err-cols-clause-none
returns-in_err-cols-clause-none c =
    rw c.from_residual-in_err-cols.ensures
    (λ cols rows kind. c.in_err-cols.ensures.none cols rows
    (console_behind c.args.field.now _ cols rows c.in_ok-rest.ensures kind))

pub returns-clause-some : goal.returns-clause-some
returns-clause-some c = is_console c.args.field.now _ _ _ c.in_ok-rest.ensures c.in_ok-cols.ensures.some

pub returns-clause-parsed : goal.returns-clause-parsed
returns-clause-parsed c = (_, is_console c.args.field.now _ _ _ c.in_ok-rest.ensures c.in_ok-cols.ensures.some)
