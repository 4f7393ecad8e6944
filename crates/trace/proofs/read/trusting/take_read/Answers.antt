use Rattle.std.proofs.Common.{◌∷◌, arith}
use Rattle.std.proofs.lemmas.List.{take_rest}
use Rattle.trace.proofs.TrustedFields.{access_past}
use Rattle.trace.proofs.Trusting.{access_begins, access_behind, read_parts, read_taken}
use Rattle.trace.proofs.read.trusting.take_read.Goals as goal

pub slot_in-slot-requires : goal.slot_in-slot-requires
slot_in-slot-requires g c = let p = read_parts _ c.args.rest.now c.requires in
    record { slot = p.slot; after = p.access.behind; has = p.access.has_slot }

pub access_in-window-requires : goal.access_in-window-requires
access_in-window-requires g c =
    (access_begins (read_parts _ c.args.rest.now c.requires).access _ _ c.slot_in-slot.ensures (omega arith)).0

pub slice_bounds-after-count : goal.slice_bounds-after-count
slice_bounds-after-count g c =
    omega (arith, (access_begins (read_parts _ c.args.rest.now c.requires).access _ _ c.slot_in-slot.ensures (omega arith)).1)

pub slice_bounds-after-start : goal.slice_bounds-after-start
slice_bounds-after-start g c =
    omega (arith, (access_begins (read_parts _ c.args.rest.now c.requires).access _ _ c.slot_in-slot.ensures (omega arith)).1)

pub returns : goal.returns
returns g c =
    let is = c.slot_in-slot.ensures in
    let p = read_parts _ c.args.rest.now c.requires in
    let at = access_behind p.access _ _ is in
    let same = c.access_in-window.ensures p.kind p.offset p.width (10 ∷ p.after) at.1 in
    rw take_rest (
    read_taken _ c.args.rest.now p c.plain.result _ (access_past at.1)
    (rw (at.0, same.0, same.1, same.2) at c.plain.ensures.event) c.plain.ensures.bytes
    )
