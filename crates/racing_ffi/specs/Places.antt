-- What C is told of the place of a queue, and what putting it to another place comes to.
use Rattle.std.specs.Prelude.{◌≡◌, ◌↔◌, ◌⊎◌, ℕ, ◌==◌, if◌then◌else◌, false, Option, Some, None, IsTrue}
use Rattle.std.specs.Option.{option_and_then, option_map_or}
use Rattle.racing_guest.specs.declared.reply.GuestQueue.{GuestQueue}
use Rattle.racing_guest.specs.declared.reply.GuestQueue.TheVariants as queues
use Rattle.racing_guest.specs.declared.reply.GuestWindow.{GuestWindow}
use Rattle.racing_guest.specs.declared.reply.GuestWindow.TheVariants.{Block, Console}
use Rattle.racing_guest.specs.Guest.{RacingGuest}
use Rattle.racing_guest.specs.Place.{guest_moved, place_in}
use Rattle.racing_session.specs.Place.{is_at_work}
use Rattle.racing_session.specs.Session.{RacingSession}

-- the queues of a window have the standard's numbers (5.2.2, 5.3.2)
abbrev pub queue_of : GuestWindow → ℕ → Option GuestQueue
queue_of Block number = if number == 0 then Some queues.Block else None
queue_of Console number =
    if number == 0 then Some queues.Receive else (if number == 1 then Some queues.Transmit else None)

-- where the queue of this number stands, if there is one and its device may serve it
abbrev pub place_told : GuestWindow → ℕ → RacingSession → Option ℕ
place_told window number session = option_and_then (λ queue. place_in queue session.guest) (queue_of window number)

-- the guest with the queue of this number at this place, if it can be there
abbrev pub put_at : GuestWindow → ℕ → ℕ → RacingSession → Option RacingGuest
put_at window number place session = option_and_then (λ queue. guest_moved queue place session.guest) (queue_of window number)

-- The place is told; without one the number is 21. Nothing changes.
pub record TellsPlace (number place code : ℕ) (window : GuestWindow) (old new : RacingSession) : Type 0 where
  pub told : place_told window number old ≡ (if code == 0 then Some place else None)
  pub code_is : (code ≡ 0) ⊎ (code ≡ 21)
  pub kept : new ≡ old

-- The queue stands at the place. The number is 19 exactly where the queue is at work, and else 21 where it can't be there; then
-- nothing changes.
pub record PutsTo (number place code : ℕ) (window : GuestWindow) (old new : RacingSession) : Type 0 where
  pub moved : code ≡ 0 → put_at window number place old ≡ Some new.guest
  pub rest : new ≡ record old { guest = new.guest }
  pub busy : (code ≡ 19) ↔ IsTrue (option_map_or (λ queue. is_at_work queue old) (queue_of window number) false)
  pub idle : code ≡ 21 → put_at window number place old ≡ None
  pub code_is : (code ≡ 0) ⊎ ((code ≡ 19) ⊎ (code ≡ 21))
  pub kept : ¬ (code ≡ 0) → new ≡ old
