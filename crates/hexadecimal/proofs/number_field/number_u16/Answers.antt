use Rattle.std.proofs.Common.{◌^◌, refl}
use Rattle.hexadecimal.proofs.Numbers.{none_narrower}
use Rattle.hexadecimal.proofs.number_field.number_u16.Goals as goal

pub returns-clause-none : goal.returns-clause-none
returns-clause-none c =
    none_narrower c.args.field.now 16 (2 ^ 16) c.in_ok-number.field-0 c.try_from.result c.ok.result refl
    c.in_ok-number.ensures.some c.try_from.ensures c.ok.ensures.value
