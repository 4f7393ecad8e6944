-- A disk that the host serves, as its slot's guest sees it.
use Rattle.std.proofs.Common.{◌≡◌, ℕ, Bool, true, false, List, Option, Some, None, refl, subst, sym, ap, ◌∙◌}
use Rattle.std.specs.Prelude.{IsSome}
use Rattle.std.specs.Bool.{OnTrue, OnFalse}
use Rattle.std.specs.Option.{option_map}
use Rattle.guest_memory.specs.Memory.{Memory}
use Rattle.mmio_window.specs.Window.{WindowState}
use Rattle.mmio_window.proofs.Devices.{KeepsDevice, KeepsDevice-self}
use Rattle.block_device.specs.declared.device.BlockDevice.{BlockDevice}
use Rattle.block_device.specs.declared.operation.HostEvent.{HostEvent}
use Rattle.block_device.specs.declared.operation.HostEvent.TheVariants.{Hold, Release}
use Rattle.block_device.specs.Flights.{HostedQueue}
use Rattle.hosted_disk.specs.Disk.{HostedDisk, LooksAtQueue, LooksUnless, queue_of}
use Rattle.hosted_disk.specs.Told.{DoesAsTold}
use Rattle.hosted_disk.proofs.Windows.{told_keeps}
use Rattle.board.specs.Backing.{DoesHosted, OwnDisk}
use Rattle.board.specs.Hosting.{own_in}
use Rattle.board.specs.Slot.{BoardSlot, state_of}
use Rattle.board.specs.Units.{DoesToDisk, Own}
use Rattle.board.proofs.Units.{behind_window}

-- what stands before an equation's sign: of the equation of a view the value by its parts
abbrev pub viewed : {A : Type 0} {x y : A} → x ≡ y → A
viewed {A} {x} {y} is = x

-- ---- as its slot has it

-- the slot as the board keeps it, with this memory, and with its own disk so behind this window
abbrev pub disk_put : BoardSlot → Memory → WindowState → OwnDisk → BoardSlot
disk_put slot m w own = record slot {
  memory = m;
  extent = own.extent;
  host = own.host;
  read_only = own.read_only;
  identity = own.identity;
  block = w;
}

-- what the disk does, the slot's own does
pub does_to_own : (Does : HostedDisk → Memory → Memory → WindowState → WindowState → HostedDisk → Type 0)
    (image : List ℕ) (slot : BoardSlot) (m : Memory) (w : WindowState) (new : OwnDisk)
    → new ≡ record (own_in slot) { host = new.host } → DoesHosted Does slot.memory m slot.block w slot.host new.host
    → DoesToDisk Does Own (state_of image slot) (state_of image (disk_put slot m w new))
does_to_own Does image slot m w new rest h = by_host slot.host new.host refl refl h
  where
    by_host : (old host : Option HostedDisk) → slot.host ≡ old → new.host ≡ host
        → DoesHosted Does slot.memory m slot.block w old host
        → DoesToDisk Does Own (state_of image slot) (state_of image (disk_put slot m w new))
    by_host None host was is h = absurd h
    by_host (Some disk) None was is h = absurd h
    by_host (Some disk) (Some after) was is h = record {
      before = behind_window slot.block disk;
      after = behind_window w after;
      there = ap (option_map (behind_window slot.block)) was;
      does = h;
      is = ap (λ (own : OwnDisk). state_of image (disk_put slot m w own))
          (rest ∙ ap (λ (k : Option HostedDisk). record (own_in slot) { host = k }) is);
    }

-- where it does it
pub told_to_own : (Does : HostedDisk → Memory → Memory → WindowState → WindowState → HostedDisk → Type 0)
    (done : Bool) (slot : BoardSlot) (m : Memory) (w : WindowState) (new : OwnDisk)
    → new ≡ record (own_in slot) { host = new.host }
    → OnTrue done (DoesHosted Does slot.memory m slot.block w slot.host new.host)
    → OnTrue done ((image : List ℕ) → DoesToDisk Does Own (state_of image slot) (state_of image (disk_put slot m w new)))
told_to_own Does true slot m w new rest h = λ image. does_to_own Does image slot m w new rest h
told_to_own Does false slot m w new rest h = tt

-- ---- its window stays that of its device

unless_keeps : (on_hold : Bool) (device : BlockDevice) (q q' : HostedQueue) → LooksUnless on_hold device q q'
    → KeepsDevice q.window q'.window
unless_keeps true device q q' h = told_keeps Hold device true q q' h
unless_keeps false device q q' h = told_keeps Release device false q q' h

still_keeps : (w w' : WindowState) → w' ≡ w → KeepsDevice w w'
still_keeps w w' is = subst (KeepsDevice w) (sym is) (KeepsDevice-self w)

does_keeps : (Does : HostedDisk → Memory → Memory → WindowState → WindowState → HostedDisk → Type 0)
    (old new : Option HostedDisk) (m m' : Memory) (w w' : WindowState)
    → ((disk after : HostedDisk) → Does disk m m' w w' after → KeepsDevice w w') → DoesHosted Does m m' w w' old new
    → KeepsDevice w w'
does_keeps Does None new m m' w w' keeps h = absurd h
does_keeps Does (Some disk) None m m' w w' keeps h = absurd h
does_keeps Does (Some disk) (Some after) m m' w w' keeps h = keeps disk after h

look_by : (host : Option HostedDisk) (own new : OwnDisk) (m m' : Memory) (w w' : WindowState) → own.host ≡ host
    → (IsSome own.host → DoesHosted LooksAtQueue m m' w w' own.host new.host)
    → (own.host ≡ None → (m' ≡ m) × ((w' ≡ w) × (new ≡ own))) → KeepsDevice w w'
look_by None own new m m' w w' is looks kept = still_keeps w w' (kept is).1.0
look_by (Some disk) own new m m' w w' is looks kept =
    does_keeps LooksAtQueue own.host new.host m m' w w'
    (λ disk after h. unless_keeps disk.on_hold disk.device (queue_of m w disk) (queue_of m' w' after) h.looks)
    (looks (subst (λ (k : Option HostedDisk). IsSome k) (sym is) refl))

pub look_keeps : (own new : OwnDisk) (m m' : Memory) (w w' : WindowState)
    → (IsSome own.host → DoesHosted LooksAtQueue m m' w w' own.host new.host)
    → (own.host ≡ None → (m' ≡ m) × ((w' ≡ w) × (new ≡ own))) → KeepsDevice w w'
look_keeps own new m m' w w' looks kept = look_by own.host own new m m' w w' refl looks kept

pub tell_keeps : (done : Bool) (said : HostEvent) (own new : OwnDisk) (m m' : Memory) (w w' : WindowState)
    → OnTrue done (DoesHosted (DoesAsTold said) m m' w w' own.host new.host)
    → OnFalse done ((m' ≡ m) × ((w' ≡ w) × (new ≡ own))) → KeepsDevice w w'
tell_keeps true said own new m m' w w' h kept =
    does_keeps (DoesAsTold said) own.host new.host m m' w w'
    (λ disk after h. told_keeps said disk.device disk.on_hold (queue_of m w disk) (queue_of m' w' after) h.queue) h
tell_keeps false said own new m m' w w' h kept = still_keeps w w' kept.1.0
