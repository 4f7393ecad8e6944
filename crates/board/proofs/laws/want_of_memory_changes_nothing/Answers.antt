use Rattle.board.proofs.Keeping.{byte_without_memory, read_without_memory}
use Rattle.board.proofs.laws.want_of_memory_changes_nothing.Goals as goal

pub returns-clause-read : goal.returns-clause-read
returns-clause-read g c = read_without_memory

pub returns-clause-emergency_write : goal.returns-clause-emergency_write
returns-clause-emergency_write g c = byte_without_memory
