use Rattle.std.proofs.Common.{arith, length, rules}
use Rattle.device_list.proofs.Saved.{others_fewer}
use Rattle.device_list.proofs.Refilling.{back_more, first_fits, no_back, no_text, rest_len, text_more}
use Rattle.device_list.proofs.list.waiting.+write_each.Goals as goal

pub split_at_mut-first-requires : goal.split_at_mut-first-requires
split_at_mut-first-requires g t c =
    let fits = first_fits c.args.devices.now c.device-item.result c.in-len1-up.len_at_least c.device-item.is in
    omega (arith, fits, c.requires.len, c.waiting_len.ensures.len)

pub write_each-requires : goal.write_each-requires
write_each-requires g t c = λ κs lives. (
  others_fewer c.args.devices.now t (search rules) (search rules),
  (
    lives,
    rest_len c.args.devices.now c.device-item.result c.in-len1-up.len_at_least c.device-item.is c.waiting_len.result
        (length c.split_at_mut-first.result.1.now) (length c.args.into.now) c.requires.len c.waiting_len.ensures.len
        c.split_at_mut-first.ensures.back_len,
  ),
)

pub returns-in_default-clause-text : goal.returns-in_default-clause-text
returns-in_default-clause-text g t c =
    no_text c.args.devices.now c.args.into.now c.in_default.len_below c.requires.len

pub returns-in_default-clause-back : goal.returns-in_default-clause-back
returns-in_default-clause-back g t c = no_back c.args.devices.now c.in_default.len_below

pub returns-in-len1-up-clause-text : goal.returns-in-len1-up-clause-text
returns-in-len1-up-clause-text g t c =
    text_more c.args.devices.now c.device-item.result c.in-len1-up.len_at_least c.device-item.is
    c.write_waiting.new.into c.write_each.new.into c.write_waiting.ensures.text c.write_each.ensures.text

pub returns-in-len1-up-clause-back : goal.returns-in-len1-up-clause-back
returns-in-len1-up-clause-back g t c =
    back_more c.args.devices.now c.device-item.result c.in-len1-up.len_at_least c.device-item.is
    c.write_waiting.ensures.back c.write_each.ensures.back
