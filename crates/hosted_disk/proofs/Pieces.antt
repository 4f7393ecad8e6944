-- The pieces of a disk's service of its queue are that service, one after another.
use Rattle.std.proofs.Common.{◌≡◌, ◌≢◌, ◌⊎◌, ◌∙◌, ℕ, zero, suc, Bool, true, false, None, List, ◌++◌, refl, sym, ap, subst}
use Rattle.guest_memory.specs.Memory.{Memory}
use Rattle.chain.specs.declared.budget.Budget.{Budget}
use Rattle.chain.specs.declared.budget.Progress.{Progress}
use Rattle.chain.specs.declared.budget.Progress.TheVariants.{Done, More}
use Rattle.mmio_window.specs.declared.stage.Stage.{Stage}
use Rattle.mmio_window.specs.declared.stage.Stage.TheVariants.{First, Next}
use Rattle.mmio_window.specs.Window.{WindowState}
use Rattle.mmio_window.proofs.Devices.{KeepsDevice, KeepsDevice-self}
use Rattle.block_device.specs.declared.device.BlockDevice.{BlockDevice}
use Rattle.block_device.specs.Flights.{HostedQueue, InFlight, IsLook, LooksFrom}
use Rattle.block_device.proofs.Looking.{cut_by_limit, done_looks, look_joins}
use Rattle.hosted_disk.specs.Disk.{HostedDisk, LooksAtQueueTo, LooksUnless, LooksUnlessTo, ServesDisk, ServesDiskTo, queue_of}
use Rattle.hosted_disk.proofs.Windows.{piece_keeps}

-- Pieces of the disk's look came as far as this, and what goes on from here is one look with them. Its queue isn't on hold.
pub record IsLookedAt (disk : HostedDisk) (m m' : Memory) (w w' : WindowState) (now : HostedDisk) : Type 0 where
  pub goes_on : (asked : List InFlight) (new : HostedQueue)
      → LooksFrom disk.device Next (queue_of m' w' now) asked new → IsLook disk.device (queue_of m w disk) new
  pub free : disk.on_hold ≡ false
  pub is : now ≡ record disk { tags = now.tags }

abbrev pub DiskUnderWay : HostedDisk → ℕ → Memory → Memory → WindowState → WindowState → HostedDisk → Type 0
DiskUnderWay disk zero m m' w w' now = IsLookedAt disk m m' w w' now
DiskUnderWay disk (suc q) m m' w w' now = ⊥

-- ---- by whether the queue is on hold

once_unless : (on_hold : Bool) (device : BlockDevice) (stage : Stage) (budget : Budget) (old new : HostedQueue)
    → LooksUnlessTo on_hold device First budget Done old new → LooksUnless on_hold device old new
once_unless true device stage budget old new h = h.1
once_unless false device stage budget old new h =
    record { asked = h.asked; looks = done_looks device First budget old h.asked new h.looks }

record PausesThere (device : BlockDevice) (stage : Stage) (budget : Budget) (on_hold : Bool) (old mid : HostedQueue)
    : Type 0 where
  goes_on : (asked : List InFlight) (new : HostedQueue) → LooksFrom device Next mid asked new
      → (all : List InFlight) × LooksFrom device stage old all new
  free : on_hold ≡ false
  limit : (budget.chains ≢ None) ⊎ (budget.bytes ≢ None)

pauses_there : (on_hold : Bool) (device : BlockDevice) (stage : Stage) (budget : Budget) (old mid : HostedQueue)
    → LooksUnlessTo on_hold device stage budget More old mid → PausesThere device stage budget on_hold old mid
pauses_there true device stage budget old mid h = let done = h.0 in absurd (cc (done))
pauses_there false device stage budget old mid h = record {
  goes_on = λ asked new looks.
      (h.asked ++ asked, look_joins device stage budget old h.asked mid asked new h.looks looks);
  free = refl;
  limit = cut_by_limit device stage budget old h.asked mid h.looks;
}

-- ---- behind other pieces

-- the device and whether it is on hold are those of the start
behind : (stage : Stage) (budget : Budget) (progress : Progress) (disk now after : HostedDisk) (m m' : Memory)
    (w w' : WindowState) → now ≡ record disk { tags = now.tags }
    → LooksAtQueueTo stage budget progress now m m' w w' after
    → LooksUnlessTo disk.on_hold disk.device stage budget progress (queue_of m w now) (queue_of m' w' after)
behind stage budget progress disk now after m m' w w' is h =
    subst (λ (b : Bool). LooksUnlessTo b disk.device stage budget progress (queue_of m w now) (queue_of m' w' after))
    (ap (λ (d : HostedDisk). d.on_hold) is)
    (subst (λ (d : BlockDevice). LooksUnlessTo now.on_hold d stage budget progress (queue_of m w now) (queue_of m' w' after))
    (ap (λ (d : HostedDisk). d.device) is) h.looks)

still : (disk now after : HostedDisk) → now ≡ record disk { tags = now.tags }
    → after ≡ record now { tags = after.tags } → after ≡ record disk { tags = after.tags }
still disk now after is then = then ∙ ap (λ (d : HostedDisk). record d { tags = after.tags }) is

-- ---- a disk

pub disk_once : (budget : Budget) (disk : HostedDisk) (q : ℕ) (m m' : Memory) (w w' : WindowState) (after : HostedDisk)
    → ServesDiskTo First budget Done disk q m m' w w' after → ServesDisk disk q m m' w w' after
disk_once budget disk zero m m' w w' after h = record {
  looks = once_unless disk.on_hold disk.device First budget (queue_of m w disk) (queue_of m' w' after) h.looks;
  is = h.is;
}
disk_once budget disk (suc q) m m' w w' after h = h.1

pub disk_first : (budget : Budget) (disk : HostedDisk) (q : ℕ) (m m' : Memory) (w w' : WindowState) (after : HostedDisk)
    → ServesDiskTo First budget More disk q m m' w w' after → DiskUnderWay disk q m m' w w' after
disk_first budget disk zero m m' w w' after h =
    let there = pauses_there disk.on_hold disk.device First budget (queue_of m w disk) (queue_of m' w' after) h.looks in
    record {
      goes_on = λ asked new looks.
          (let all = there.goes_on asked new looks in record { asked = all.0; looks = all.1 });
      free = there.free;
      is = h.is;
    }
disk_first budget disk (suc q) m m' w w' after h = let done = h.0 in absurd (cc (done))

pub disk_again : (budget : Budget) (disk : HostedDisk) (q : ℕ) (m0 m1 m2 : Memory) (w0 w1 w2 : WindowState)
    (now after : HostedDisk) → DiskUnderWay disk q m0 m1 w0 w1 now
    → ServesDiskTo Next budget More now q m1 m2 w1 w2 after → DiskUnderWay disk q m0 m2 w0 w2 after
disk_again budget disk zero m0 m1 m2 w0 w1 w2 now after u h =
    let there = pauses_there disk.on_hold disk.device Next budget (queue_of m1 w1 now) (queue_of m2 w2 after)
    (behind Next budget More disk now after m1 m2 w1 w2 u.is h) in
    record {
      goes_on = λ asked new looks. (let all = there.goes_on asked new looks in u.goes_on all.0 new all.1);
      free = u.free;
      is = still disk now after u.is h.is;
    }
disk_again budget disk (suc q) m0 m1 m2 w0 w1 w2 now after u h = absurd u

pub disk_ended : (budget : Budget) (disk : HostedDisk) (q : ℕ) (m0 m1 m2 : Memory) (w0 w1 w2 : WindowState)
    (now after : HostedDisk) → DiskUnderWay disk q m0 m1 w0 w1 now
    → ServesDiskTo Next budget Done now q m1 m2 w1 w2 after → ServesDisk disk q m0 m2 w0 w2 after
disk_ended budget disk zero m0 m1 m2 w0 w1 w2 now after u h =
    let piece = behind Next budget Done disk now after m1 m2 w1 w2 u.is h in
    let looks = ended disk.on_hold u.free piece in
    record { looks = looks; is = still disk now after u.is h.is }
  where
    ended : (on_hold : Bool) → on_hold ≡ false
        → LooksUnlessTo on_hold disk.device Next budget Done (queue_of m1 w1 now) (queue_of m2 w2 after)
        → LooksUnless on_hold disk.device (queue_of m0 w0 disk) (queue_of m2 w2 after)
    ended true free piece = absurd (cc free)
    ended false free piece =
        u.goes_on piece.asked (queue_of m2 w2 after)
        (done_looks disk.device Next budget (queue_of m1 w1 now) piece.asked (queue_of m2 w2 after) piece.looks)
disk_ended budget disk (suc q) m0 m1 m2 w0 w1 w2 now after u h = absurd u

pub disk_by_limit : (stage : Stage) (budget : Budget) (disk : HostedDisk) (q : ℕ) (m m' : Memory) (w w' : WindowState)
    (after : HostedDisk) → ServesDiskTo stage budget More disk q m m' w w' after
    → (budget.chains ≢ None) ⊎ (budget.bytes ≢ None)
disk_by_limit stage budget disk zero m m' w w' after h =
    (pauses_there disk.on_hold disk.device stage budget (queue_of m w disk) (queue_of m' w' after) h.looks).limit
disk_by_limit stage budget disk (suc q) m m' w w' after h = let done = h.0 in absurd (cc (done))

pub disk_keeps : (stage : Stage) (budget : Budget) (progress : Progress) (disk : HostedDisk) (q : ℕ) (m m' : Memory)
    (w w' : WindowState) (after : HostedDisk) → ServesDiskTo stage budget progress disk q m m' w w' after
    → KeepsDevice w w'
disk_keeps stage budget progress disk zero m m' w w' after h =
    piece_keeps disk.on_hold disk.device stage budget progress (queue_of m w disk) (queue_of m' w' after) h.looks
disk_keeps stage budget progress disk (suc q) m m' w w' after h =
    subst (KeepsDevice w) (sym h.1.window) (KeepsDevice-self w)
