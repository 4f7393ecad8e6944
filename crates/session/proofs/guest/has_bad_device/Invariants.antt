-- one is bad if one of those from this place on is
use Rattle.std.proofs.Common.{◌≡◌, drop}
use Rattle.std.specs.List.{list_any}
use Rattle.session.specs.Refusing.{is_bad_device}
use Rattle.session.specs.Session.{before_none, devices_of}
use Rattle.session.proofs.guest.has_bad_device.Given as goal

abbrev pub invariant-loop-device : goal.invariant-loop-device
invariant-loop-device l =
    list_any is_bad_device (before_none (drop l.device-index l.fn.guest.devices))
    ≡ list_any is_bad_device (devices_of l.fn.guest)
