use Rattle.std.proofs.Common.{◌∙◌}
use Rattle.hexadecimal.specs.Spelling.{bytes}
use Rattle.trace.proofs.Trusting.{addr_behind, mem_write_behind, mem_write_parts, mem_write_taken}
use Rattle.trace.proofs.read.trusting.take_mem_write.Goals as goal

pub number_in-addr-requires : goal.number_in-addr-requires
number_in-addr-requires g c =
    let p = mem_write_parts _ c.args.rest.now c.requires in
    let at = mem_write_behind _ c.args.rest.now p c.slot_in-slot.result.0 c.slot_in-slot.result.1.now
    c.slot_in-slot.ensures in
    record { n = p.addr; after = p.last; has = at.1 }

pub bytes_in-requires : goal.bytes_in-requires
bytes_in-requires g c =
    let p = mem_write_parts _ c.args.rest.now c.requires in
    let at = mem_write_behind _ c.args.rest.now p c.slot_in-slot.result.0 c.slot_in-slot.result.1.now
    c.slot_in-slot.ensures in
    let on = addr_behind _ c.args.rest.now p c.slot_in-slot.result.1.now c.number_in-addr.result.0
    c.number_in-addr.result.1.now at.1 c.number_in-addr.ensures in
    record { field = bytes p.bs; after = p.after; has = on.1 }

pub slot_in-slot-requires : goal.slot_in-slot-requires
slot_in-slot-requires g c = let p = mem_write_parts _ c.args.rest.now c.requires in
    record { slot = p.slot; after = p.behind; has = p.has_slot }

pub returns : goal.returns
returns g c =
    let p = mem_write_parts _ c.args.rest.now c.requires in
    let at = mem_write_behind _ c.args.rest.now p c.slot_in-slot.result.0 c.slot_in-slot.result.1.now
    c.slot_in-slot.ensures in
    let on = addr_behind _ c.args.rest.now p c.slot_in-slot.result.1.now c.number_in-addr.result.0
    c.number_in-addr.result.1.now at.1 c.number_in-addr.ensures in
    let same = c.bytes_in.ensures (bytes p.bs) p.after on.1 in
    mem_write_taken _ c.args.rest.now p c.new-2.result c.new.result c.bytes_in.result.1.now
    (c.new-2.ensures.bytes ∙ same.0) same.1 c.new.ensures (rw (at.0, on.0) at c.new-2.ensures.event)
