-- A guest that runs on, as its host sees it, and what each call does, whatever the guest writes meanwhile.
use Rattle.std.specs.Prelude.{◌≡◌, ◌||◌, ℕ, Bool, true, false, List, [], Some, Result, length}
use Rattle.guest_memory.specs.declared.spec.RegionSpec.{RegionSpec}
use Rattle.guest_memory.specs.Faults.{zeroed_regions}
use Rattle.guest_memory.specs.Memory.{Memory, SameRange}
use Rattle.chain.specs.declared.budget.Progress as chain
use Rattle.mmio_window.specs.Interrupts.{interrupt_bits}
use Rattle.shared_memory.specs.Sightings.{Sightings, memory}
use Rattle.racing_memory.specs.Past.{sightings_of}
use Rattle.block_device.specs.declared.operation.HostEvent.{HostEvent}
use Rattle.racing_hosted_disk.specs.declared.look.LookLimits.{LookLimits}
use Rattle.block_device.specs.Tags.{taken_bits}
use Rattle.output_queue.specs.Waiting.{Waiting, none_waiting}
use Rattle.racing_guest.specs.declared.reply.GuestQueue.{GuestQueue}
use Rattle.racing_guest.specs.declared.reply.GuestQueue.TheVariants as queue
use Rattle.racing_guest.specs.declared.reply.GuestWindow.{GuestWindow}
use Rattle.racing_guest.specs.declared.reply.Reply.{Reply}
use Rattle.racing_guest.specs.declared.reply.Reply.TheVariants.{Done}
use Rattle.racing_guest.specs.Guest.{IsServedAgain, IsSoundGuest, IsTold, RacingGuest, TakesInput, WritesGuest, fresh_guest, service_limits}
use Rattle.racing_session.specs.declared.due.Due.{Due}
use Rattle.racing_session.specs.declared.progress.Progress.{Progress}
use Rattle.racing_session.specs.declared.progress.Refusal.{Refusal}
use Rattle.racing_session.specs.declared.spec.RacingSpec.{RacingSpec}
use Rattle.racing_session.specs.declared.told.Waits.{Waits}
use Rattle.racing_session.specs.Answering.{answer_by, has_asked, has_asked_by, progress_by}
use Rattle.racing_session.specs.Further.{Further, ServesDue, is_further_due, no_devices}
use Rattle.racing_session.specs.Due.{due_after, due_by, is_any_due, none_due}

-- A guest, the regions of its memory and the bits of its pages, if these are kept, what its console put out and nobody has taken yet,
-- which queues are due, the limits of each service, and its further devices.
pub record RacingSession : Type 0 where
  pub guest : RacingGuest
  pub regions : List RegionSpec
  pub pages : List Bool
  pub output : Waiting
  pub due : Due
  pub limits : LookLimits
  pub further : Further

-- as it is made: nothing waits, and nothing is due; a further device is added to it
abbrev pub new_session : RacingSpec → RacingSession
new_session spec = record {
  guest = fresh_guest spec.guest;
  regions = spec.regions;
  pages = [];
  output = none_waiting spec.outlet;
  due = none_due;
  limits = spec.limits;
  further = no_devices;
}

-- The memory of a session before a call looks at it: these bytes stand there, from its first address on. Each clause holds of
-- whatever bytes.
abbrev pub unseen : RacingSession → List ℕ → Sightings
unseen session stood = sightings_of (record {
  regions = session.regions;
  stood = record { bytes = stood; pages = session.pages };
  past = [];
})

-- Behind a call that saw its memory so the bits of the pages are that memory's: those that were set, and those of its devices' stores.
abbrev pub with_marks_of : Sightings → RacingSession → RacingSession
with_marks_of seen session = record session { pages = (memory seen).pages }

-- a memory of the session's regions, whatever stands there
abbrev pub IsMemoryOf : RacingSession → Memory → Type 0
IsMemoryOf session m = SameRange (zeroed_regions session.regions) m

-- What holds between two calls: the guest is sound for each such memory. So nothing that the host is told lies outside it, or
-- outside the guest's disk.
abbrev pub IsSoundSession : RacingSession → Type 0
IsSoundSession session = (m : Memory) → IsMemoryOf session m → IsSoundGuest m session.guest

-- the tags in flight of the disk as a set of bits
abbrev pub in_flight : RacingGuest → ℕ
in_flight guest = taken_bits guest.block.disk.tags

-- what waits for the guest and for its host
abbrev pub waits_of : RacingSession → Waits
waits_of session = record {
  block_irq = interrupt_bits session.guest.block.window.interrupts;
  console_irq = interrupt_bits session.guest.console.window.interrupts;
  output = length session.output.bytes;
}

-- the session with another guest, other output and other queues that are due: its regions and limits stay, and how much may wait
abbrev pub with_guest : RacingGuest → List ℕ → Due → RacingSession → RacingSession
with_guest guest bytes due session = record session {
  guest = guest;
  output = record session.output { bytes = bytes };
  due = due;
}

-- whether any queue is due
abbrev pub is_due_in : RacingSession → Bool
is_due_in session = is_any_due session.due || is_further_due session.further

-- what a call came to that isn't refused, by whether operations began
abbrev pub came_to : Bool → RacingSession → Progress
came_to asks session = progress_by (is_due_in session) asks

-- ---- registers

-- A write: the guest's, from a memory of the session's regions on. What it leaves is due beside what was.
pub record IsWritten (stood : List ℕ) (window : GuestWindow) (offset width value : ℕ) (old new : RacingSession)
    (answer : Result Progress Refusal) : Type 0 where
  pub reply : Reply
  pub seen : Sightings
  pub writes : WritesGuest window offset width value true old.limits (Some old.output.limit) (unseen old stood) seen
      old.guest new.guest old.output.bytes new.output.bytes reply
  pub rest : new ≡ with_marks_of seen (with_guest new.guest new.output.bytes (due_after reply old.due) old)
  pub answer_is : answer ≡ answer_by reply (came_to (has_asked (in_flight old.guest) (in_flight new.guest)) new)

-- ---- what is due

-- where a session stands between two services
pub record Between : Type 0 where
  pub guest : RacingGuest
  pub output : List ℕ
  pub seen : Sightings

-- a queue is served once more, if it is due
abbrev pub ServesIf : Bool → LookLimits → ℕ → GuestQueue → Between → Between → Reply → Type 0
ServesIf true limits limit queue before after reply = IsServedAgain true limits (Some limit) before.seen after.seen
    before.guest after.guest before.output after.output queue reply
ServesIf false limits limit queue before after reply = (after ≡ before) × (reply ≡ Done)

-- Each queue that is due is served once, one after another, those of the further devices last. What these services leave is due
-- then, and nothing else.
pub record GoesOn (stood : List ℕ) (old new : RacingSession) (answer : Result Progress Refusal) : Type 0 where
  pub looked : Between
  pub received : Between
  pub transmitted : Between
  pub reply_block : Reply
  pub reply_receive : Reply
  pub reply_transmit : Reply
  pub block : ServesIf old.due.block old.limits old.output.limit queue.Block
      (record { guest = old.guest; output = old.output.bytes; seen = unseen old stood }) looked reply_block
  pub receive : ServesIf old.due.receive old.limits old.output.limit queue.Receive looked received reply_receive
  pub transmit : ServesIf old.due.transmit old.limits old.output.limit queue.Transmit received transmitted reply_transmit
  pub seen : Sightings
  pub further : ServesDue (service_limits old.limits) transmitted.seen seen old.further new.further
  pub rest : new ≡ record (with_marks_of seen (with_guest transmitted.guest transmitted.output
      (due_after reply_transmit (due_after reply_receive (due_after reply_block none_due))) old)) { further = new.further }
  pub answer_is : answer ≡ answer_by reply_transmit (came_to (has_asked (in_flight old.guest) (in_flight new.guest)) new)

-- ---- what comes from outside

-- What is typed becomes pending, as much of it as fits, and the receive queue is served.
pub record IsTyped (stood bytes : List ℕ) (old new : RacingSession) (progress : Progress) : Type 0 where
  pub so_far : chain.Progress
  pub seen : Sightings
  pub takes : TakesInput bytes true old.limits (unseen old stood) seen old.guest new.guest so_far
  pub rest : new ≡ with_marks_of seen (with_guest new.guest old.output.bytes (due_by queue.Receive so_far old.due) old)
  pub progress_is : progress ≡ came_to false new

-- The host says something of the disk.
pub record IsSaid (stood : List ℕ) (said : HostEvent) (old new : RacingSession) (progress : Progress) : Type 0 where
  pub so_far : chain.Progress
  pub seen : Sightings
  pub tells : IsTold said true old.limits (unseen old stood) seen old.guest new.guest so_far
  pub rest : new ≡ with_marks_of seen (with_guest new.guest old.output.bytes (due_by queue.Block so_far old.due) old)
  pub progress_is : progress ≡ came_to (has_asked_by said (in_flight old.guest) (in_flight new.guest)) new
