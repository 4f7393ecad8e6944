-- When a queue may be put to another place.
use Rattle.std.specs.Prelude.{◌||◌, Bool}
use Rattle.racing_guest.specs.declared.reply.GuestQueue.{GuestQueue}
use Rattle.racing_guest.specs.Place.{has_flights}
use Rattle.racing_session.specs.Due.{is_due}
use Rattle.racing_session.specs.Session.{RacingSession}

-- whether a queue is at work: it is due, or chains of it are in flight
abbrev pub is_at_work : GuestQueue → RacingSession → Bool
is_at_work queue session = is_due queue session.due || has_flights queue session.guest
