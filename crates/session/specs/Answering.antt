-- What a call answers, as the board's response to its event.
use Rattle.std.specs.Prelude.{◌≡◌, ◌⊎◌, ℕ, List, ⊤, Result, Ok, Err}
use Rattle.board.specs.declared.event.EventKind.{EventKind}
use Rattle.board.specs.declared.event.EventKind.TheVariants.{Write, Input, Device}
use Rattle.board.specs.declared.event.DeviceEvent.TheVariants as device
use Rattle.board.specs.declared.reply.Reply.{Reply}
use Rattle.board.specs.declared.reply.Reply.TheVariants as reply
use Rattle.board.specs.InPlace.{event_in}
use Rattle.board.specs.Replies.{MayReply}
use Rattle.session.specs.declared.turn_kind.TurnKind.{TurnKind}
use Rattle.session.specs.declared.turn_kind.TurnKind.TheVariants.{Begin, InPlace, Resume}
use Rattle.session.specs.declared.progress.Progress.{Progress}
use Rattle.session.specs.declared.progress.Progress.TheVariants as progress
use Rattle.session.specs.declared.response.Response.{Response}
use Rattle.session.specs.declared.response.Response.TheVariants as response
use Rattle.session.specs.declared.refusal.Refusal.{Refusal}
use Rattle.session.specs.declared.refusal.Refusal.TheVariants.{BadSlot, BadRange, BadDevice, NoRoom, Busy, Idle}
use Rattle.session.specs.declared.handed.Handed.{Handed}

-- The response that a refusal stands for. Where an outlet has no room the board has no memory for the output.
-- A slot is busy where a service of it is paused, and where the event waits for what is in flight.
abbrev pub RefusalMeans : {A : Type 0} → Refusal → Response A → Type 0
RefusalMeans BadSlot told = told ≡ response.Answered reply.BadSlot
RefusalMeans BadRange told = told ≡ response.Answered reply.BadRange
RefusalMeans BadDevice told = told ≡ response.Answered reply.BadDevice
RefusalMeans NoRoom told = told ≡ response.Answered reply.NoMemory
RefusalMeans Busy told = (told ≡ response.Busy) ⊎ (told ≡ response.Answered reply.Busy)
RefusalMeans Idle told = told ≡ response.Answered reply.Idle

-- and so an answer, where each value of it stands for one
abbrev pub Means : {A T : Type 0} → (T → Response A) → Result T Refusal → Response A → Type 0
Means wanted (Ok value) told = told ≡ wanted value
Means wanted (Err why) told = RefusalMeans why told

-- a response that refuses
abbrev pub IsRefusing : {A : Type 0} → Response A → Type 0
IsRefusing (response.Answered reply.BadSlot) = ⊤
IsRefusing (response.Answered reply.BadRange) = ⊤
IsRefusing (response.Answered reply.BadDevice) = ⊤
IsRefusing (response.Answered reply.NoMemory) = ⊤
IsRefusing (response.Answered reply.Busy) = ⊤
IsRefusing (response.Answered reply.Idle) = ⊤
IsRefusing response.Busy = ⊤
IsRefusing told = ⊥

-- or one that says that a write or what the host says is done, or that its service is paused
abbrev pub IsServing : {A : Type 0} → Response A → Type 0
IsServing (response.Answered reply.Done) = ⊤
IsServing response.More = ⊤
IsServing told = IsRefusing told

-- or one that says that the event is done
abbrev pub IsDoneOrRefusing : {A : Type 0} → Response A → Type 0
IsDoneOrRefusing (response.Answered reply.Done) = ⊤
IsDoneOrRefusing told = IsRefusing told

-- or one that says how many bytes were taken that were handed in or over, or that their service is paused
abbrev pub IsHanding : {A : Type 0} → Response A → Type 0
IsHanding (response.Answered (reply.Took taken)) = ⊤
IsHanding response.More = ⊤
IsHanding told = IsRefusing told

-- or one that says what a register gave
abbrev pub IsReading : {A : Type 0} → Response A → Type 0
IsReading (response.Answered (reply.Value value)) = ⊤
IsReading told = IsRefusing told

-- the response to a read of a window that gave this
abbrev pub value_response : {A : Type 0} → ℕ → Response A
value_response value = response.Answered (reply.Value value)

-- to an event that is done, and has nothing to tell
abbrev pub done_response : {A : Type 0} → Unit {0} → Response A
done_response done = response.Answered reply.Done

-- to one that has nothing to tell, but that its service is paused
abbrev pub served_response : {A : Type 0} → Progress → Response A
served_response progress.Done = response.Answered reply.Done
served_response progress.More = response.More
served_response progress.Asks = response.Answered reply.Done

-- to a read of memory that left these bytes
abbrev pub bytes_response : {A : Type 0} → List ℕ → Unit {0} → Response A
bytes_response bytes done = response.Answered (reply.Bytes bytes)

-- and to what is handed in, typed bytes, random ones or a frame, or over to the host, of which so many bytes were taken
abbrev pub handed_by : {A : Type 0} → ℕ → Progress → Response A
handed_by taken progress.Done = response.Answered (reply.Took taken)
handed_by taken progress.More = response.More
handed_by taken progress.Asks = response.Answered (reply.Took taken)

abbrev pub handed_response : {A : Type 0} → Handed → Response A
handed_response handed = handed_by handed.taken handed.progress

-- what is told of a service that went on: the end of it, which one that isn't paused has reached
abbrev pub went_on_to : {A : Type 0} → Response A → Result Progress Refusal
went_on_to (response.Answered reply.BadSlot) = Err BadSlot
went_on_to (response.Answered reply.NoMemory) = Err NoRoom
went_on_to (response.Answered answer) = Ok progress.Done
went_on_to response.More = Ok progress.More
went_on_to response.Busy = Err Busy
went_on_to response.Idle = Ok progress.Done

-- the replies that each event may get, of whichever slot
abbrev pub Suits : {A : Type 0} → EventKind A → Reply A → Type 0
Suits what reply.BadSlot = ⊤
Suits what answer = MayReply what answer

-- the responses
abbrev pub SuitsCall : {A : Type 0} → EventKind A → Response A → Type 0
SuitsCall what (response.Answered answer) = Suits what answer
SuitsCall (Write window offset width value) response.More = ⊤
SuitsCall (Input bytes) response.More = ⊤
SuitsCall (Device n (device.Write offset width value)) response.More = ⊤
SuitsCall (Device n (device.Supply bytes)) response.More = ⊤
SuitsCall (Device n (device.Receive frame)) response.More = ⊤
SuitsCall (Device n device.DropSent) response.More = ⊤
SuitsCall what response.More = ⊥
SuitsCall what response.Busy = ⊤
SuitsCall what response.Idle = ⊥

-- and those to a turn
abbrev pub SuitsTurn : {A : Type 0} → TurnKind A → Response A → Type 0
SuitsTurn {A} (Begin what) response = SuitsCall what.now response
SuitsTurn {A} (InPlace what) response = SuitsCall {A = A} (event_in what) response
SuitsTurn {A} Resume response = ⊤
