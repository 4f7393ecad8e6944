use Rattle.std.proofs.Common.{◌≤◌, ◌^◌}
use Rattle.board_ffi.proofs.Outlets.{all_guests}
use Rattle.board_ffi.proofs.slot.are_outlets.Goals as goal

pub returns : goal.returns
returns c = all_guests (λ guest. guest.outlet ≤ 2 ^ 24) c.args.slots.now _ c.no_slot_passes.ensures
