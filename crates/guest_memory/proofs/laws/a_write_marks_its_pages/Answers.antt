use Rattle.guest_memory.proofs.Marks.{marks_put}
use Rattle.guest_memory.proofs.laws.a_write_marks_its_pages.Goals as goal

pub returns : goal.returns
returns c = marks_put
