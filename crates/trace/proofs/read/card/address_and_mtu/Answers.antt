use Rattle.std.proofs.Common.{arith}
use Rattle.std.proofs.lemmas.List.{take_rest}
use Rattle.trace.proofs.Cards.{card_address, card_colon, card_long, card_mtu}
use Rattle.trace.proofs.read.card.address_and_mtu.Goals as goal
use Rattle.trace.proofs.read.card.address_and_mtu.Goals.{then-field-le-ADDRESS_DIGITS-via-then-field-le-ADDRESS_DIGITS, then-field-le-ADDRESS_DIGITS-via-else-field-le-ADDRESS_DIGITS+then-field-ne58}

pub returns-then-field-le-ADDRESS_DIGITS-clause-none :
    goal.returns-then-field-le-ADDRESS_DIGITS-clause-none
returns-then-field-le-ADDRESS_DIGITS-clause-none c mac mtu h =
    elim c.then-field-le-ADDRESS_DIGITS.branch [
      | then-field-le-ADDRESS_DIGITS-via-then-field-le-ADDRESS_DIGITS w ↦
          let long = card_long c.args.field.now mac mtu h in
          let short = w.if-field-le-ADDRESS_DIGITS.true in
          omega arith
      | then-field-le-ADDRESS_DIGITS-via-else-field-le-ADDRESS_DIGITS+then-field-ne58 w ↦
          w.if-field-ne58.true (card_colon c.args.field.now mac mtu h)
    ]

pub returns-in_err-mac-clause-none : goal.returns-in_err-mac-clause-none
returns-in_err-mac-clause-none c =
    rw c.from_residual.ensures
    (λ mac mtu h. c.in_err-mac.ensures.none mac (card_address c.args.field.now mac mtu h))

pub returns-in_err-mtu-clause-none : goal.returns-in_err-mtu-clause-none
returns-in_err-mtu-clause-none c =
    rw c.from_residual-in_err-mtu.ensures
    (λ mac mtu h. c.in_err-mtu.ensures.none (mtu, rw take_rest (card_mtu c.args.field.now mac mtu h)))
