use Rattle.std.proofs.Common.{refl, sym, ◌∙◌}
use Rattle.board.specs.declared.event.DeviceEvent.TheVariants.{Read}
use Rattle.board.specs.Slot.{state_of}
use Rattle.board.proofs.Beside.{same_range}
use Rattle.board.proofs.FurtherDevices.{device_given, read_given}
use Rattle.board.proofs.slot.Slot.read_device.Goals as goal

pub returns-in-Some : goal.returns-in-Some
returns-in-Some g c = record {
  given = λ image health.
      device_given c.args.device (Read c.args.offset c.args.width) (state_of image c.args.self.now)
      (state_of image c.args.self.now) _ health refl (λ lacks. absurd (cc (lacks)))
      (read_given _ c.args.device c.args.offset c.args.width c.in-Some.value (state_of image c.args.self.now) health
      (rw (← c.self.view_is) (sym c.in-Some.is ∙ c.read.ensures)));
  rest = refl;
  range = same_range c.args.self.now.memory;
  there = λ is. absurd (cc (is));
  in_range = λ is. absurd (cc (is));
  no_memory = λ is. absurd (cc (is));
}
