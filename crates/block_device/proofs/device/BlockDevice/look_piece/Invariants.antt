use Rattle.std.specs.Prelude.{◌-◌, All, length}
use Rattle.guest_memory.specs.Memory.{SameRange}
use Rattle.mmio_window.specs.Soundness.{IsSound}
use Rattle.block_device.specs.Tags.{TagIsHeld}
use Rattle.block_device.proofs.Bits.{first_free}
use Rattle.block_device.proofs.Looking.{IsLooking}
use Rattle.block_device.proofs.device.BlockDevice.look_piece.Given as goal

abbrev pub invariant-loop-tag : goal.invariant-loop-tag
invariant-loop-tag g l = record {
  looking : IsLooking l.self (record { memory = l.fn.mem; window = l.fn.window; tags = l.fn.flights }) l.fn.stage l.fn.budget
      l.stage l.left (record { memory = l.mem; window = l.window; tags = l.flights });
  each : All (TagIsHeld l.self.extent.count l.mem) l.flights;
  range : SameRange l.fn.mem l.mem;
  sound : IsSound l.mem l.window;
}

abbrev pub decreases-loop-tag : goal.decreases-loop-tag
decreases-loop-tag g l = length l.flights - first_free l.flights
