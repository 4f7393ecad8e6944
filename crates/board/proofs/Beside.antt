-- An event in which the disk has no part: what it keeps of the slot.
use Rattle.std.proofs.Common.{◌≡◌, ◌≢◌, ℕ, List, [], Bool, false, Option, Some, None, refl, sym, ◌∙◌, ap, subst}
use Rattle.std.specs.Option.{option_map}
use Rattle.guest_memory.specs.Memory.{Memory, SameRange}
use Rattle.guest_memory.proofs.Ranges.{same_trans}
use Rattle.board.specs.declared.event.SlotWindow.{SlotWindow}
use Rattle.board.specs.declared.event.SlotWindow.TheVariants.{Block, Console}
use Rattle.sector_cache.specs.Disk.{Disk}
use Rattle.block_device.specs.declared.extent.Extent.{Extent}
use Rattle.block_device.specs.Extent.{StaysInExtent}
use Rattle.board.specs.declared.event.EventKind.{EventKind}
use Rattle.board.specs.declared.event.EventKind.TheVariants.{Write}
use Rattle.board.specs.declared.pause.Service.{Service}
use Rattle.board.specs.declared.pause.Service.TheVariants as service
use Rattle.hosted_disk.specs.Disk.{HostedDisk}
use Rattle.board.specs.Backing.{device_extent, held_disk, sectors_by}
use Rattle.board.specs.Flights.{KeepsFlights}
use Rattle.board.specs.Hosting.{block_beside, is_block_task}
use Rattle.board.specs.Machine.{with_write}
use Rattle.board.specs.Slot.{KeepsPlace, BoardSlot, IsUnnoted, SlotState, state_of}
use Rattle.board.proofs.Seats.{same_whole}
use Rattle.board.specs.Task.{Task, Serve}

-- it has as many sectors as its guest's disk
pub device_count : (host : Option HostedDisk) (extent : Extent)
    → (device_extent host extent).count ≡ sectors_by host extent.count
device_count None extent = refl
device_count (Some disk) extent = refl

-- the slot's window was written
abbrev pub IsWritten : SlotWindow → ℕ → ℕ → ℕ → BoardSlot → BoardSlot → Type 0
IsWritten window offset width value old new = (image : List ℕ)
    → state_of image new ≡ with_write window offset width value (state_of image old)

pub same_range : (m : Memory) → SameRange m m
same_range m = record { base = refl; size = refl; gaps = refl }

pub range_of : (m n : Memory) → n ≡ m → SameRange m n
range_of m n is = subst (λ (k : Memory). SameRange m k) (sym is) (same_range m)

-- what a slot keeps that is seen so afterwards
pub keeps_as : {A : Type 0} {what : EventKind A} (old new : BoardSlot) (state : SlotState)
    → state_of [] new ≡ state → state.block ≡ block_beside what old → state.host ≡ old.host
    → state.memory ≡ old.memory → KeepsPlace old new → KeepsFlights what old new
keeps_as old new state is block host memory place = record {
  block = λ free. ap (λ (s : SlotState). s.block) is ∙ block;
  host = ap (option_map (held_disk false)) (ap (λ (s : SlotState). s.host) is ∙ host);
  range = range_of old.memory new.memory (ap (λ (s : SlotState). s.memory) is ∙ memory);
  place = place;
}

pub written_keeps : {A : Type 0} (window : SlotWindow) (offset width value : ℕ) (old new : BoardSlot)
    → IsWritten window offset width value old new → KeepsPlace old new
    → KeepsFlights {A = A} (Write window offset width value) old new
written_keeps Block offset width value old new is place = keeps_as old new _ (is []) refl refl refl place
written_keeps Console offset width value old new is place = keeps_as old new _ (is []) refl refl refl place

-- what lies where it did twice, does
pub place_still : (old mid new : BoardSlot) → KeepsPlace old mid → KeepsPlace mid new → KeepsPlace old new
place_still old mid new first then = (then.0 ∙ first.0, then.1 ∙ first.1)

-- and so does what leaves the block device behind it
pub keeps_on : {A : Type 0} {what : EventKind A} (old mid new : BoardSlot) → KeepsFlights what old mid
    → new.block ≡ mid.block → new.host ≡ mid.host → SameRange mid.memory new.memory → KeepsPlace mid new
    → KeepsFlights what old new
keeps_on old mid new keeps block host range place = record {
  block = λ free. block ∙ keeps.block free;
  host = ap (option_map (held_disk false)) host ∙ keeps.host;
  range = same_trans old.memory mid.memory new.memory keeps.range range;
  place = place_still old mid new keeps.place place;
}

-- a task of the console is none of the block device
pub not_block : (task : Task) (which : Service) → task ≡ Serve which → which ≢ service.Block
    → false ≡ is_block_task task
not_block task service.Block is other = absurd (other refl)
not_block task service.Receive is other = rw is refl
not_block task service.Transmit is other = rw is refl
not_block task (service.Further n q) is other = rw is refl

-- what its service leaves to be noted is that of the event
pub unnoted_behind : (old mid new : BoardSlot) (before after : Disk) (failed : Bool) → KeepsPlace old mid
    → mid.disturbed ≡ old.disturbed
    → IsUnnoted mid new before after failed → IsUnnoted old new before after failed
unnoted_behind old mid new before after failed place disturbed h = record {
  stays = record {
    place = place_still old mid new place h.stays.place;
    image = subst (λ (e : Extent). StaysInExtent e before after) (same_whole old mid place) h.stays.image;
  };
  disturbed = h.disturbed ∙ disturbed;
  counted = h.counted;
}
