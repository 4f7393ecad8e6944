use Rattle.std.proofs.Common.{rules}
use Rattle.device_list.proofs.Refilling.{past_nothing, past_result}
use Rattle.device_list.proofs.list.waiting.+read_past_each.Goals as goal

pub returns-in-empty : goal.returns-in-empty
returns-in-empty g t c = past_nothing c.args.devices.now c.args.left.now.left.now (search rules)

pub returns-in_ok-read_past-in-len1-up : goal.returns-in_ok-read_past-in-len1-up
returns-in_ok-read_past-in-len1-up g t c =
    past_result c.args.devices.now c.device-item.result c.in-len1-up.len_at_least c.device-item.is
    c.args.left.now.left.now c.read_past.new.left.left.now c.read_past_each.new.left.left.now c.read_past_each.result
    c.in_ok-read_past-in-len1-up.ensures c.read_past_each.ensures
