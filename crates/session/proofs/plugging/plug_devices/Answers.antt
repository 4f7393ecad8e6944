-- Each guest's slot has its devices.
use Rattle.std.proofs.Common.{◌≡◌, Some, length, refl, ◌∙◌}
use Rattle.std.specs.List.{slice_get}
use Rattle.std.proofs.lemmas.Option.{slice_get_read}
use Rattle.session.proofs.Plugged.{next_bare, next_disks, next_plugged}
use Rattle.session.proofs.plugging.plug_devices.Goals as goal

pub plug_all-requires-clause-bare : goal.plug_all-requires-clause-bare
plug_all-requires-clause-bare g c =
    next_bare c.args.guests.now _ _ c.loop-place.place c.requires.bare c.loop-place-test.true c.loop-place.invariant.0

pub plug_all-requires-clause-image_disks : goal.plug_all-requires-clause-image_disks
plug_all-requires-clause-image_disks g c =
    let guest = c.index-guests-place.result in
    next_disks c.args.guests.now c.args.board.now.slots c.loop-place.board.slots c.loop-place.place guest
    c.requires.bare c.requires.image_disks c.loop-place-test.true
    (slice_get_read c.args.guests.now (length c.args.guests.now) c.loop-place.place guest refl
    c.loop-place-test.true c.index-guests-place.is) c.loop-place.invariant.0

pub loop-place-preserved : goal.loop-place-preserved
loop-place-preserved g c =
    let guest = c.index-guests-place.result in
    let here : slice_get c.args.guests.now c.loop-place.place ≡ Some guest =
    slice_get_read c.args.guests.now (length c.args.guests.now) c.loop-place.place guest refl
    c.loop-place-test.true c.index-guests-place.is in (
      next_plugged c.args.guests.now c.args.board.now.slots c.loop-place.board.slots c.plug_all.new.board.slots
          c.loop-place.place guest c.requires.bare here c.loop-place.invariant.0 c.in_ok-plug_all.ensures.plugged,
      c.in_ok-plug_all.ensures.image ∙ c.loop-place.invariant.1,
    )
