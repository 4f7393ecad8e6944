-- Other memory for a guest while its devices go on: what becomes of its session, and why it is refused.
use Rattle.std.specs.Prelude.{◌≡◌, ◌||◌, ◌&&◌, Bool, true, false, List, []}
use Rattle.guest_memory.specs.Faults.{AreGood, IsRefusedAt, zeroed_regions}
use Rattle.guest_memory.specs.declared.spec.RegionSpec.{RegionSpec}
use Rattle.racing_guest.specs.declared.reply.GuestQueue.TheVariants as queue
use Rattle.racing_guest.specs.Memory.{guest_fits}
use Rattle.racing_guest.specs.Place.{has_flights}
use Rattle.racing_session.specs.declared.fault.MemoryRefusal.{MemoryRefusal}
use Rattle.racing_session.specs.declared.fault.MemoryRefusal.TheVariants.{Busy, BadLoan, Memory, QueueOutside}
use Rattle.device_list.specs.List.{are_at_work, devices_fit}
use Rattle.racing_session.specs.Judging.{AreWordsOf}
use Rattle.racing_session.specs.Session.{RacingSession, is_due_in}

-- The session over other regions: all else of it stays, but no bits of pages are kept any more. What stands in the regions is nobody's
-- to say, as of the memory before: each call begins `unseen`.
abbrev pub with_regions : List RegionSpec → RacingSession → RacingSession
with_regions regions session = record session { regions = regions; pages = [] }

-- whether a queue is due, or an operation of a disk is in flight
abbrev pub is_busy : RacingSession → Bool
is_busy session = is_due_in session || (has_flights queue.Block session.guest || are_at_work session.further.devices)

-- whether each ready queue could be made ready over these regions, whatever stands there
abbrev pub queues_fit : List RegionSpec → RacingSession → Bool
queues_fit regions session =
    guest_fits (zeroed_regions regions) session.guest && devices_fit (zeroed_regions regions) session.further.devices

-- the session may have these regions over these words
pub record MayHave (session : RacingSession) (regions : List RegionSpec) (words : List (List (Unit {0}))) : Type 0 where
  pub rests : is_busy session ≡ false
  pub lent : AreWordsOf regions words
  pub memory : AreGood regions
  pub queues : queues_fit regions session ≡ true

-- Why it may not. It is judged in this order, so at most one holds.
abbrev pub IsKeptFor : RacingSession → List RegionSpec → List (List (Unit {0})) → MemoryRefusal → Type 0
IsKeptFor session regions words Busy = is_busy session ≡ true
IsKeptFor session regions words BadLoan = (is_busy session ≡ false) × ¬ AreWordsOf regions words
IsKeptFor session regions words (Memory region fault) = (is_busy session ≡ false) × AreWordsOf regions words
    × IsRefusedAt regions region fault
IsKeptFor session regions words QueueOutside = (is_busy session ≡ false) × AreWordsOf regions words × AreGood regions
    × (queues_fit regions session ≡ false)
