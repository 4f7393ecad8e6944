use Rattle.std.proofs.Common.{refl, rules}
use Rattle.device_list.proofs.Saved.{fewer, first_fails, more, none_suit, others_fewer, suits_more}
use Rattle.device_list.proofs.list.saved.+each_suits.Goals as goal

pub returns-then-suits : goal.returns-then-suits
returns-then-suits g t c =
    suits_more c.args.saved.now c.args.devices.now _ c.device-item.result c.each_suits.result (search rules) (search rules)
    c.device-item.is (c.if-suits.ensures.0 refl) c.each_suits.ensures

pub returns-else-suits : goal.returns-else-suits
returns-else-suits g t c = (
  λ yes. absurd (let no = c.if-suits.false in cc),
  λ suit. absurd
      (first_fails c.args.saved.now c.args.devices.now _ c.device-item.result (search rules) (search rules)
      c.device-item.is (λ first. let yes = c.if-suits.ensures.1 first in cc) suit),
)

pub returns-in_default : goal.returns-in_default
returns-in_default g t c = (
  λ never. absurd cc,
  λ suit. absurd (fewer c.args.saved.now c.args.devices.now (search rules) (search rules) suit),
)

pub returns-in_default-2 : goal.returns-in_default-2
returns-in_default-2 g t c = (
  λ never. absurd cc,
  λ suit. absurd (more c.args.saved.now c.args.devices.now (search rules) (search rules) suit),
)

pub returns-in-empty-empty : goal.returns-in-empty-empty
returns-in-empty-empty g t c = (
  λ yes. none_suit c.args.saved.now c.args.devices.now (search rules) (search rules),
  λ suit. refl,
)

pub each_suits-requires : goal.each_suits-requires
each_suits-requires g t c = λ κs lives.
    (others_fewer c.args.devices.now t (search rules) (search rules), lives)
