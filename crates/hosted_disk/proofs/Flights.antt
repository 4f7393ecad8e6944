-- What is in flight is held wherever the memory lies in the same range and the queue stays; and it is where nothing is.
use Rattle.std.proofs.Common.{◌≡◌, ℕ, Bool, true, false, List, Option, Some, None, refl}
use Rattle.std.specs.Prelude.{◌&&◌, IfSome}
use Rattle.guest_memory.specs.Memory.{Memory, SameRange}
use Rattle.mmio_window.specs.declared.queue.Queue.{Queue}
use Rattle.mmio_window.specs.declared.queue.Token.{Token}
use Rattle.mmio_window.specs.Queue.{AreAhead}
use Rattle.mmio_window.specs.Ready.{KeepsQueues, may_stop_queues}
use Rattle.mmio_window.specs.Window.{WindowState, queue_at}
use Rattle.mmio_window.specs.Writing.{written}
use Rattle.mmio_window.proofs.ReadyLemmas.{ready_queue_outlasts}
use Rattle.block_device.specs.Flights.{AreHeld, InFlight}
use Rattle.block_device.specs.Tags.{is_any, tokens_of}
use Rattle.block_device.proofs.Held.{idle_tags_held}
use Rattle.block_device.proofs.Holding.{all_same}
use Rattle.hosted_disk.specs.Disk.{HoldsFlights, HostedDisk, must_wait}

pub keeps_all : (w : WindowState) → KeepsQueues w w
keeps_all w = record { ready = λ q registers is some. is; served = λ q queue is. is; unserved = λ q is. is }

ahead_still : (w w' : WindowState) (tokens : List (Option Token)) (found : Option Queue) → KeepsQueues w w'
    → queue_at 0 w ≡ found → IfSome found (λ queue. AreAhead queue tokens)
    → IfSome (queue_at 0 w') (λ queue. AreAhead queue tokens)
ahead_still w w' tokens None keeps is ahead = rw (keeps.unserved 0 is) tt
ahead_still w w' tokens (Some queue) keeps is ahead = rw (keeps.served 0 queue is) ahead

pub held_still : (capacity : ℕ) (m m' : Memory) (w w' : WindowState) (tags : List (Option InFlight)) → SameRange m m'
    → KeepsQueues w w' → AreHeld capacity (record { memory = m; window = w; tags = tags })
    → AreHeld capacity (record { memory = m'; window = w'; tags = tags })
held_still capacity m m' w w' tags same keeps held = record {
  each = all_same capacity m m' tags same held.each;
  ahead = ahead_still w w' (tokens_of tags) (queue_at 0 w) keeps refl held.ahead;
}

-- ---- a disk

pub still_held : (m m' : Memory) (w w' : WindowState) (disk : HostedDisk) → SameRange m m' → KeepsQueues w w'
    → HoldsFlights m w disk → HoldsFlights m' w' disk
still_held m m' w w' disk same keeps held = held_still disk.device.extent.count m m' w w' disk.tags same keeps held

pub idle_held : (m : Memory) (w : WindowState) (disk : HostedDisk) → is_any disk.tags ≡ false → HoldsFlights m w disk
idle_held m w disk none = idle_tags_held disk.device.extent.count m w disk.tags none

-- a write that doesn't wait leaves what is in flight held
pub written_held : (offset width value : ℕ) (m : Memory) (w : WindowState) (disk : HostedDisk)
    → must_wait offset disk ≡ false → HoldsFlights m w disk → HoldsFlights m (written offset width value m w) disk
written_held offset width value m w disk free held =
    by_tags (is_any disk.tags) refl (may_stop_queues offset) refl free
  where
    by_tags : (any : Bool) → is_any disk.tags ≡ any → (stops : Bool) → may_stop_queues offset ≡ stops
        → (any && stops) ≡ false → HoldsFlights m (written offset width value m w) disk
    by_tags false none stops is free = idle_held m (written offset width value m w) disk none
    by_tags true some true is free = absurd (cc)
    by_tags true some false is free =
        still_held m m w (written offset width value m w) disk (record { base = refl; size = refl; gaps = refl })
        (ready_queue_outlasts offset width value m w is) held
