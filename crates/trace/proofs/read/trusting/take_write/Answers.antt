use Rattle.std.proofs.Common.{◌∷◌, arith, length-drop}
use Rattle.std.proofs.lemmas.List.{take_rest}
use Rattle.trace.proofs.TrustedFields.{behind_value}
use Rattle.trace.proofs.Trusting.{access_begins, access_behind, value_behind, write_ends, write_parts, write_taken}
use Rattle.trace.proofs.read.trusting.take_write.Goals as goal

pub slice_bounds-value_in-count : goal.slice_bounds-value_in-count
slice_bounds-value_in-count g c =
    omega (arith, (access_begins (write_parts _ c.args.rest.now c.requires).access _ _ c.slot_in-slot.ensures (omega arith)).1)

pub access_in-window-requires : goal.access_in-window-requires
access_in-window-requires g c =
    (access_begins (write_parts _ c.args.rest.now c.requires).access _ _ c.slot_in-slot.ensures (omega arith)).0

pub slice_bounds-after-count : goal.slice_bounds-after-count
slice_bounds-after-count g c =
    omega (arith, write_ends c.args.rest.now _ c.requires c.slot_in-slot.ensures c.access_in-window.ensures)

pub slot_in-slot-requires : goal.slot_in-slot-requires
slot_in-slot-requires g c = let p = write_parts _ c.args.rest.now c.requires in
    record { slot = p.slot; after = p.access.behind; has = p.access.has_slot }

pub slice_bounds-value_in-start : goal.slice_bounds-value_in-start
slice_bounds-value_in-start g c =
    omega (arith, (access_begins (write_parts _ c.args.rest.now c.requires).access _ _ c.slot_in-slot.ensures (omega arith)).1)

pub value_in-value-requires-clause-begins : goal.value_in-value-requires-clause-begins
value_in-value-requires-clause-begins g c =
    let p = write_parts _ c.args.rest.now c.requires in
    let at = access_behind p.access _ _ c.slot_in-slot.ensures in
    let same = c.access_in-window.ensures p.kind p.offset p.width (32 ∷ p.field) at.1 in
    record {
      value = p.value;
      after = p.after;
      has = rw take_rest (value_behind _ c.args.rest.now p c.slot_in-slot.result.1.now
          c.access_in-window.result.2 at.1 same.2);
    }

pub value_in-value-requires-clause-long : goal.value_in-value-requires-clause-long
value_in-value-requires-clause-long g c =
    let ends = write_ends c.args.rest.now _ c.requires c.slot_in-slot.ensures c.access_in-window.ensures in
    rw take_rest (omega (arith, ends, length-drop 8 c.slot_in-slot.result.1.now))

pub slice_bounds-after-start : goal.slice_bounds-after-start
slice_bounds-after-start g c =
    omega (arith, write_ends c.args.rest.now _ c.requires c.slot_in-slot.ensures c.access_in-window.ensures)

pub returns : goal.returns
returns g c =
    let p = write_parts _ c.args.rest.now c.requires in
    let at = access_behind p.access _ _ c.slot_in-slot.ensures in
    let same = c.access_in-window.ensures p.kind p.offset p.width (32 ∷ p.field) at.1 in
    let has = value_behind _ c.args.rest.now p c.slot_in-slot.result.1.now
    c.access_in-window.result.2 at.1 same.2 in
    let value = c.value_in-value.ensures p.value p.after (rw take_rest has) in
    rw take_rest (
    write_taken _ c.args.rest.now p c.plain.result _
    (behind_value c.slot_in-slot.result.1.now c.access_in-window.result.2 p.value p.after has)
    (rw (at.0, same.0, same.1, same.2, value) at c.plain.ensures.event) c.plain.ensures.bytes
    )
