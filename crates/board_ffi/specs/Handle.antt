-- What a handle holds: a session, or none.
use denote.RattleType.{RattleType}
use Rattle.std.specs.Prelude.{Option}
use Rattle.std.specs.contracts.alloc.Global as heap
use Rattle.std.specs.contracts.impls.GlobalAllocator.TheImpl.{ghosts}
use Rattle.session.specs.contracts.session.Session as session
use Rattle.session.specs.Session.{SessionState}

-- a session over the heap
abbrev pub session_row : RattleType
session_row = session.the_row heap.the_row ghosts

-- a session, or none
abbrev pub Held : Type 0
Held = Option SessionState
