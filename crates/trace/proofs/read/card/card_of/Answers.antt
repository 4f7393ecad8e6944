use Rattle.trace.specs.Spelling.{card}
use Rattle.trace.proofs.Cards.{card_behind, is_card}
use Rattle.trace.proofs.read.card.card_of.Goals as goal

pub returns-in_err-rest-clause-none : goal.returns-in_err-rest-clause-none
returns-in_err-rest-clause-none c =
    rw c.from_residual.ensures (λ mac mtu kind. c.in_err-rest.ensures (card mac mtu) kind.spelled)

pub returns-in_err-mac-clause-none : goal.returns-in_err-mac-clause-none
returns-in_err-mac-clause-none c =
    rw c.from_residual-in_err-mac.ensures
    (λ mac mtu kind. c.in_err-mac.ensures.none mac mtu
    (card_behind c.args.field.now _ mac mtu c.in_ok-rest.ensures kind))

pub returns-clause-some : goal.returns-clause-some
returns-clause-some c = is_card c.args.field.now _ _ _ c.in_ok-rest.ensures c.in_ok-mac.ensures.some

pub returns-clause-parsed : goal.returns-clause-parsed
returns-clause-parsed c = (_, is_card c.args.field.now _ _ _ c.in_ok-rest.ensures c.in_ok-mac.ensures.some)
