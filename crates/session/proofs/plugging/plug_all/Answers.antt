-- The slot takes each device of the first places.
use Rattle.std.proofs.Common.{◌≡◌, ◌+◌, ◌∷◌, None, Some, drop, refl, ap, ◌∙◌, arith}
use Rattle.std.proofs.lemmas.List.{drop_more}
use Rattle.session.proofs.Plugged.{begun, good_place, one_plugged, takes}
use Rattle.session.proofs.plugging.plug_all.Goals as goal

pub loop-device-init : goal.loop-device-init
loop-device-init g c = (
  begun c.args.devices.now c.args.slot c.args.board.now.slots c.requires.bare c.requires.image_disks,
  c.requires.judged,
  refl,
)

-- the place that comes next has a device
next : (g : _) (c : goal.After-plug_one-arg-in-loop-device-1 g)
    → drop c.loop-device.device-index c.args.devices.now
    ≡ Some c.in-Some.spec ∷ drop (c.loop-device.device-index + 1) c.args.devices.now
next g c =
    drop_more c.args.devices.now c.loop-device.device-index None c.loop-device-test.true
    ∙ ap (λ place. place ∷ drop (c.loop-device.device-index + 1) c.args.devices.now) c.in-Some.is

pub plug_one-requires : goal.plug_one-requires
plug_one-requires g c =
    takes c.args.devices.now c.args.slot c.loop-device.device-index c.args.board.now.slots c.loop-device.board.slots
    c.loop-device.invariant.0 c.in-Some.spec (omega arith)
    (good_place _ _ c.in-Some.spec (next g c) c.loop-device.invariant.1).0 (next g c)

pub loop-device-preserved : goal.loop-device-preserved
loop-device-preserved g c =
    let next = drop_more c.args.devices.now c.loop-device.device-index None c.loop-device-test.true
    ∙ ap (λ place. place ∷ drop (c.loop-device.device-index + 1) c.args.devices.now) c.in-Some.is in (
      one_plugged c.args.devices.now c.args.slot c.loop-device.device-index c.args.board.now.slots
          c.loop-device.board.slots c.loop-device.invariant.0 c.in-Some.spec c.plug_one.new.board.slots next
          c.in_ok-plug_one.ensures.plugged,
      (good_place _ _ c.in-Some.spec next c.loop-device.invariant.1).1,
      c.in_ok-plug_one.ensures.image ∙ c.loop-device.invariant.2,
    )
