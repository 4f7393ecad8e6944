use Rattle.std.proofs.Common.{◌≡◌, false}
use Rattle.session.specs.Refusing.{has_bad_device}
use Rattle.board_ffi.proofs.Outlets.{all_guests}
use Rattle.board_ffi.proofs.slot.are_devices.Goals as goal

pub returns : goal.returns
returns c = all_guests (λ guest. has_bad_device guest ≡ false) c.args.slots.now _ c.no_slot_has_bad_device.ensures
