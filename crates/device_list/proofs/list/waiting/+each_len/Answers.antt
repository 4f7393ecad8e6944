use Rattle.device_list.proofs.Refilling.{len_more}
use Rattle.device_list.proofs.list.waiting.+each_len.Goals as goal

pub returns-in-len1-up-clause-len : goal.returns-in-len1-up-clause-len
returns-in-len1-up-clause-len g t c =
    len_more c.args.devices.now c.device-item.result c.in-len1-up.len_at_least c.device-item.is c.waiting_len.result
    c.each_len.result c.waiting_len.ensures.len c.each_len.ensures.len
