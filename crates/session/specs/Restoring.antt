-- What a restore by a slice is answered, as the response to its event.
use Rattle.std.specs.Prelude.{Option, None, Some, Result, Ok, Err}
use Rattle.board.specs.declared.pause.Pause.{Pause}
use Rattle.board.specs.declared.reply.Reply.TheVariants as reply
use Rattle.board.specs.declared.saved.RestoreRefusal.{RestoreRefusal}
use Rattle.board.specs.declared.saved.RestoreRefusal.TheVariants.{BadSlot, Busy, Fault}
use Rattle.session.specs.declared.response.Response.{Response}
use Rattle.session.specs.declared.response.Response.TheVariants as response

-- a slot is busy where this service of it is paused, and where the event waits for what is in flight
abbrev pub busy_response : {A : Type 0} → Option Pause → Response A
busy_response None = response.Answered reply.Busy
busy_response (Some pause) = response.Busy

abbrev pub restore_response : {A : Type 0} → Option Pause → Result (Unit {0}) RestoreRefusal → Response A
restore_response paused (Ok done) = response.Answered reply.Done
restore_response paused (Err BadSlot) = response.Answered reply.BadSlot
restore_response paused (Err Busy) = busy_response paused
restore_response paused (Err (Fault why)) = response.Answered reply.BadState
