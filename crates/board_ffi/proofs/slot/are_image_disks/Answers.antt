use Rattle.std.proofs.Common.{◌≡◌, false}
use Rattle.session.specs.ImageDisks.{has_bad_image_disk}
use Rattle.board_ffi.proofs.Outlets.{all_guests}
use Rattle.board_ffi.proofs.slot.are_image_disks.Goals as goal

pub returns : goal.returns
returns c = all_guests (λ guest. has_bad_image_disk guest ≡ false) c.args.slots.now _ c.no_slot_has_bad_disk.ensures
