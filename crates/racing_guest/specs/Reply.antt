-- What a guest is answered, and what that says where nothing happens.
use Rattle.std.specs.Prelude.{◌≡◌, Bool, true, false}
use Rattle.chain.specs.declared.budget.Progress.{Progress}
use Rattle.chain.specs.declared.budget.Progress.TheVariants as progress
use Rattle.shared_memory.specs.Sightings.{Sightings}
use Rattle.racing_guest.specs.declared.reply.GuestQueue.{GuestQueue}
use Rattle.racing_guest.specs.declared.reply.Reply.{Reply}
use Rattle.racing_guest.specs.declared.reply.Reply.TheVariants.{Done, More, Busy, NoMemory}

-- where a service of this queue came so far
abbrev pub reply_of : GuestQueue → Progress → Reply
reply_of queue progress.Done = Done
reply_of queue progress.More = More queue

abbrev pub is_busy : Reply → Bool
is_busy Busy = true
is_busy reply = false

-- what is answered of a service of this queue, by how far it came, or where it found no room for what goes out
abbrev pub AnswersBy : Reply → GuestQueue → (Progress → Type 0) → Type 0 → Type 0
AnswersBy Done queue Serves NoRoom = Serves progress.Done
AnswersBy (More other) queue Serves NoRoom = (other ≡ queue) × Serves progress.More
AnswersBy Busy queue Serves NoRoom = ⊥
AnswersBy NoMemory queue Serves NoRoom = NoRoom

-- no device does anything
pub record NothingHappens {Device : Type 0} (old new : Sightings) (before after : Device) (so_far : Progress) : Type 0 where
  pub memory : new ≡ old
  pub device : after ≡ before
  pub done : so_far ≡ progress.Done
