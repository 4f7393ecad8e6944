-- the slots of the guests so far have their devices
use Rattle.std.proofs.Common.{◌≡◌, take}
use Rattle.session.specs.Session.{plugged}
use Rattle.session.proofs.plugging.plug_devices.Given as goal

abbrev pub invariant-loop-place : goal.invariant-loop-place
invariant-loop-place g l =
    (l.board.slots ≡ plugged (take l.place l.guests) l.initial.board.slots)
    × (l.board.image ≡ l.initial.board.image)
