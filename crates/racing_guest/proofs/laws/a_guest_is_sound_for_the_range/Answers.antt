use Rattle.racing_guest.proofs.Holding.{guest_still, sound_still}
use Rattle.racing_guest.proofs.laws.a_guest_is_sound_for_the_range.Goals as goal

pub returns : goal.returns
returns c = record { block = sound_still; guest = guest_still }
