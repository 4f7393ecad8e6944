use Rattle.std.proofs.Common.{◌∙◌, sym}
use Rattle.device_list.proofs.Refilling.{judged, judged_none}
use Rattle.device_list.proofs.list.DeviceList.can_refill.Goals as goal

pub returns-then-is_some : goal.returns-then-is_some
returns-then-is_some g c =
    rw (c.in-Some.is, ← c.self.view_is, ← c.as_slice.ensures.value)
    (judged c.as_slice.result.now c.in-Some.bytes.now c.read_past_each.new.left.left.now c.read_past_each.result
    c.is_empty.result (sym c.is_some.ensures ∙ c.if-is_some.true) c.read_past_each.ensures c.is_empty.ensures)

pub returns-else-is_some : goal.returns-else-is_some
returns-else-is_some g c =
    rw (c.in-Some.is, ← c.self.view_is, ← c.as_slice.ensures.value)
    (judged_none c.as_slice.result.now c.in-Some.bytes.now c.read_past_each.new.left.left.now c.read_past_each.result
    c.is_some.result c.is_some.ensures c.if-is_some.false c.read_past_each.ensures)
