-- the slot has the devices of the places so far, and the others are good
use Rattle.std.proofs.Common.{◌≡◌, false, drop}
use Rattle.std.specs.List.{list_any}
use Rattle.session.specs.Refusing.{is_bad_device}
use Rattle.session.specs.Session.{before_none}
use Rattle.session.proofs.Plugged.{IsPlugging}
use Rattle.session.proofs.plugging.plug_all.Given as goal

abbrev pub invariant-loop-device : goal.invariant-loop-device
invariant-loop-device g l =
    IsPlugging l.devices l.slot l.device-index l.initial.board.slots l.board.slots
    × (list_any is_bad_device (before_none (drop l.device-index l.devices)) ≡ false)
    × (l.board.image ≡ l.initial.board.image)
