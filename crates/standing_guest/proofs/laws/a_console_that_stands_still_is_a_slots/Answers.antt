use Rattle.standing_guest.proofs.Console.{console_typed, console_written, resize_gives}
use Rattle.standing_guest.proofs.NoRoom.{console_refused}
use Rattle.standing_guest.proofs.laws.a_console_that_stands_still_is_a_slots.Goals as goal

pub returns-clause-write : goal.returns-clause-write
returns-clause-write g c = console_written _

pub returns-clause-input : goal.returns-clause-input
returns-clause-input g c = console_typed _

pub returns-clause-resize : goal.returns-clause-resize
returns-clause-resize g c = λ m cols rows before after is. resize_gives _ m before after cols rows is

pub returns-clause-no_room : goal.returns-clause-no_room
returns-clause-no_room g c = console_refused _
