use Rattle.guest_memory.specs.Marks.{MarksWrites}
use Rattle.guest_memory.proofs.Marks.{marks_both, marks_nothing, marks_put}
use Rattle.board.proofs.Writes.{event_left}
use Rattle.board.proofs.laws.an_event_marks_its_pages.Goals as goal

pub returns : goal.returns
returns g c = event_left MarksWrites (record { none = marks_nothing; both = marks_both; put = marks_put })
