use Rattle.guest_memory.proofs.Ranges.{is_inside-tells}
use Rattle.guest_memory.proofs.laws.a_range_is_tested.Goals as goal

pub returns : goal.returns
returns c = is_inside-tells
