-- An event whose bytes its caller has in a slice.
use Rattle.board.specs.declared.event.DeviceEvent.{DeviceEvent}
use Rattle.board.specs.declared.event.DeviceEvent.TheVariants as device
use Rattle.board.specs.declared.event.EventKind.{EventKind}
use Rattle.board.specs.declared.event.EventKind.TheVariants as event
use Rattle.board.specs.declared.in_place.DeviceInPlace.{DeviceInPlace}
use Rattle.board.specs.declared.in_place.DeviceInPlace.TheVariants.{Write, Supply, DropSent, Receive}
use Rattle.board.specs.declared.in_place.InPlace.{InPlace}
use Rattle.board.specs.declared.in_place.InPlace.TheVariants.{Input, Device}

-- what is done to a further device by it
abbrev pub done_in : {A : Type 0} → DeviceInPlace → DeviceEvent A
done_in (Write offset width value) = device.Write offset width value
done_in (Supply bytes) = device.Supply bytes.now
done_in DropSent = device.DropSent
done_in (Receive frame) = device.Receive frame.now

-- the event that it is
abbrev pub event_in : {A : Type 0} → InPlace → EventKind A
event_in (Input bytes) = event.Input bytes.now
event_in (Device n what) = event.Device n (done_in what)
