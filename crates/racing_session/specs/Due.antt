-- Which queues are to be served once more. Only `go_on` serves them, and then each is due that it leaves so.
use Rattle.std.specs.Prelude.{◌||◌, Bool, true, false}
use Rattle.chain.specs.declared.budget.Progress.{Progress}
use Rattle.chain.specs.declared.budget.Progress.TheVariants as progress
use Rattle.racing_guest.specs.declared.reply.GuestQueue.{GuestQueue}
use Rattle.racing_guest.specs.declared.reply.GuestQueue.TheVariants as queue
use Rattle.racing_guest.specs.declared.reply.Reply.{Reply}
use Rattle.racing_guest.specs.declared.reply.Reply.TheVariants.{Done, More, Busy, NoMemory}
use Rattle.racing_session.specs.declared.due.Due.{Due}

abbrev pub none_due : Due
none_due = record { block = false; receive = false; transmit = false }

abbrev pub is_any_due : Due → Bool
is_any_due due = due.block || due.receive || due.transmit

abbrev pub with_due : GuestQueue → Due → Due
with_due queue.Block due = record due { block = true }
with_due queue.Receive due = record due { receive = true }
with_due queue.Transmit due = record due { transmit = true }

-- Those behind a call that is answered so. Without room the transmit queue is due, once its host has taken output.
abbrev pub due_after : Reply → Due → Due
due_after (More queue) due = with_due queue due
due_after NoMemory due = with_due queue.Transmit due
due_after Done due = due
due_after Busy due = due

-- those behind a service of this queue that came so far
abbrev pub due_by : GuestQueue → Progress → Due → Due
due_by queue progress.More due = with_due queue due
due_by queue progress.Done due = due

-- whether a queue is
abbrev pub is_due : GuestQueue → Due → Bool
is_due queue.Block due = due.block
is_due queue.Receive due = due.receive
is_due queue.Transmit due = due.transmit
