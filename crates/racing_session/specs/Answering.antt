-- What a call tells.
use Rattle.std.specs.Prelude.{ℕ, ◌+◌, ◌^◌, ◌==◌, not, Bool, true, false, Result, Ok, Err}
use Rattle.block_device.specs.declared.operation.HostEvent.{HostEvent}
use Rattle.block_device.specs.declared.operation.HostEvent.TheVariants.{Complete, Drop, Hold, Release}
use Rattle.racing_guest.specs.declared.reply.Reply.{Reply}
use Rattle.racing_guest.specs.declared.reply.Reply.TheVariants as reply
use Rattle.racing_session.specs.declared.progress.Progress.{Progress}
use Rattle.racing_session.specs.declared.progress.Progress.TheVariants.{Done, More, Asks}
use Rattle.racing_session.specs.declared.progress.Refusal.{Refusal}
use Rattle.racing_session.specs.declared.progress.Refusal.TheVariants.{NoRoom, Busy}

-- what it came to, by whether a queue is due then, and whether operations began with it
abbrev pub progress_by : Bool → Bool → Progress
progress_by true asks = More
progress_by false true = Asks
progress_by false false = Done

-- what it is answered, by what its guest was
abbrev pub answer_by : Reply → Progress → Result Progress Refusal
answer_by reply.Done progress = Ok progress
answer_by (reply.More queue) progress = Ok progress
answer_by reply.Busy progress = Err Busy
answer_by reply.NoMemory progress = Err NoRoom

-- whether operations began with a call that ends none, by the tags in flight before and after it as sets of bits
abbrev pub has_asked : ℕ → ℕ → Bool
has_asked before after = not (before == after)

-- and with what the host says: a completion takes its tag out, which another operation may have then
abbrev pub has_asked_by : HostEvent → ℕ → ℕ → Bool
has_asked_by (Complete tag verdict) before after = not (after + 2 ^ tag == before)
has_asked_by Drop before after = false
has_asked_by Hold before after = false
has_asked_by Release before after = has_asked before after
