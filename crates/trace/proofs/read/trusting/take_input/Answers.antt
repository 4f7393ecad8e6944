use Rattle.std.proofs.Common.{◌∙◌}
use Rattle.hexadecimal.specs.Spelling.{bytes}
use Rattle.trace.proofs.Trusting.{input_behind, input_parts, input_taken}
use Rattle.trace.proofs.read.trusting.take_input.Goals as goal

pub slot_in-slot-requires : goal.slot_in-slot-requires
slot_in-slot-requires g c = let p = input_parts _ c.args.rest.now c.requires in
    record { slot = p.slot; after = p.last; has = p.has_slot }

pub bytes_in-requires : goal.bytes_in-requires
bytes_in-requires g c =
    let p = input_parts _ c.args.rest.now c.requires in
    let at = input_behind _ c.args.rest.now p c.slot_in-slot.result.0 c.slot_in-slot.result.1.now
    c.slot_in-slot.ensures in
    record { field = bytes p.bs; after = p.after; has = at.1 }

pub returns : goal.returns
returns g c =
    let p = input_parts _ c.args.rest.now c.requires in
    let at = input_behind _ c.args.rest.now p c.slot_in-slot.result.0 c.slot_in-slot.result.1.now
    c.slot_in-slot.ensures in
    let same = c.bytes_in.ensures (bytes p.bs) p.after at.1 in
    input_taken _ c.args.rest.now p c.new.result c.new-bytes.result c.bytes_in.result.1.now
    (c.new.ensures.bytes ∙ same.0) same.1 c.new-bytes.ensures (rw at.0 at c.new.ensures.event)
