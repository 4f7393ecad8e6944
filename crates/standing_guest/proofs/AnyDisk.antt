-- What the device of a disk that its host serves does is done by that of a disk, whatever that has: a service, and its course.
use Rattle.std.proofs.Common.{◌≡◌, inl, inr, ℕ, Bool, Option, Some, None, List, ap, refl}
use Rattle.guest_memory.specs.Memory.{Memory}
use Rattle.chain.specs.declared.fault.Fault.{Fault}
use Rattle.chain.specs.Budget.{AreWithin, IsSpent, chains_of, left_after}
use Rattle.chain.specs.Pieces.{EndsWithin, GoesToEnd, IsInBudget, IsServiceWithin}
use Rattle.chain.specs.Service.{Course, Device, Ending, Given, IsService, Kind, Runs, Served, Site, open_site}
use Rattle.sector_cache.specs.Disk.{Disk}
use Rattle.mmio_window.specs.declared.queue.Queue.{Queue}
use Rattle.mmio_window.specs.Queue.{queue_kind}
use Rattle.mmio_window.specs.Pieces.{IsNotifiedWithin}
use Rattle.mmio_window.specs.Serving.{Notified, ending_of, site_at}
use Rattle.mmio_window.specs.Window.{WindowState}
use Rattle.block_device.specs.declared.device.BlockDevice.{BlockDevice}
use Rattle.block_device.specs.Asking.{unasked_device}
use Rattle.block_device.specs.Flights.{unlimited}
use Rattle.block_device.specs.Hosting.{hosted_device}
use Rattle.standing_guest.proofs.Simulating.{AnswersAlike, Simulates, all_too, moved, service_too, works_too}

-- ---- what is done without a budget is done within an unlimited one

each_within : {State : Type 0} (chains : List (Served State)) → AreWithin unlimited (chains_of chains)
each_within chains n below (inl spent) = cc
each_within chains n below (inr spent) = cc

some_left : {State : Type 0} (chains : List (Served State)) → ¬ IsSpent (left_after unlimited (chains_of chains))
some_left chains (inl spent) = cc
some_left chains (inr spent) = cc

all_within : {State : Type 0} (ending : Ending) (chains : List (Served State)) → IsInBudget unlimited ending (chains_of chains)
all_within ending chains = record { each = each_within chains; refused = λ e. some_left chains }

module _ {Ring State : Type 0} (kind : Kind Ring) (device : Device State) (old new : Site Ring State) (ending : Ending)
    (wanted : Bool) where
  ends_within : GoesToEnd kind device old new ending wanted → EndsWithin kind device unlimited old new ending wanted
  ends_within e = record { ends = e; within = all_within ending e.runs.chains }

  service_within : IsService kind device old new ending wanted → IsServiceWithin kind device unlimited old new ending wanted
  service_within s = record {
    service = s;
    within = λ opens.
        let runs : Runs kind device (open_site kind device old) ending s.last = rw opens at s.works in
        record {
          ends = record { last = s.last; runs = runs; closed = s.closed; wanted_is = s.wanted_is };
          within = all_within ending runs.chains;
        };
  }

-- ---- over any disk

module _ (device : BlockDevice) (disk : Disk) where
  abbrev IsDisk : Unit {0} → Disk → Type 0
  IsDisk s t = t ≡ disk

  over_any : (t : Disk) (readable : List ℕ) (w : ℕ) (given : Given (Unit {0})) → t ≡ disk
      → (hosted_device device).Gives tt readable w given → AnswersAlike (unasked_device device) IsDisk t readable w given
  over_any t readable w given is gives = record { state = t; gives = gives t; alike = is }

  over_disk : Simulates (hosted_device device) (unasked_device device) IsDisk
  over_disk = record {
    takes = λ s t alike. refl;
    gives = λ s t readable w given alike gives. over_any t readable w given alike gives;
  }

  pub course_over : (a b : Site Queue (Unit {0})) → Course queue_kind (hosted_device device) a b
      → Course queue_kind (unasked_device device) (moved a disk) (moved b disk)
  course_over a b c =
      let also = all_too queue_kind (hosted_device device) (unasked_device device) IsDisk over_disk c.chains a b disk refl
      c.serves in
      record { chains = also.chains; serves = rw also.alike at also.serves }

  module _ (met : Option Fault) (a b : Site Queue (Unit {0})) (wanted : Bool) where
    pub service_over : IsService queue_kind (hosted_device device) a b (ending_of met) wanted
        → IsServiceWithin queue_kind (unasked_device device) unlimited (moved a disk) (moved b disk) (ending_of met) wanted
    service_over s =
        let also = service_too queue_kind (hosted_device device) (unasked_device device) IsDisk over_disk met a b wanted disk
        refl s in
        service_within queue_kind (unasked_device device) (moved a disk) (moved b disk) (ending_of met) wanted
        (rw also.alike at also.service)

    pub end_over : GoesToEnd queue_kind (hosted_device device) a b (ending_of met) wanted
        → EndsWithin queue_kind (unasked_device device) unlimited (moved a disk) (moved b disk) (ending_of met) wanted
    end_over e =
        let also = works_too queue_kind (hosted_device device) (unasked_device device) IsDisk over_disk None met a e.last disk
        refl e.runs in
        let runs : Runs queue_kind (unasked_device device) (moved a disk) (ending_of met) (moved e.last disk) =
        rw also.alike at also.works in
        ends_within queue_kind (unasked_device device) (moved a disk) (moved b disk) (ending_of met) wanted (record {
          last = moved e.last disk;
          runs = runs;
          closed = ap (λ (site : Site Queue (Unit {0})). moved site disk) e.closed;
          wanted_is = e.wanted_is;
        })

  -- a notification, by the queue that the device may serve
  pub notified_over : (met : Option Fault) (found : Option Queue) (m n : Memory) (w w' : WindowState) (state : Unit {0})
      → Notified (hosted_device device) 0 found (ending_of met) m n w w' tt state
      → IsNotifiedWithin (unasked_device device) unlimited 0 found m n w w' disk disk
  notified_over met None m n w w' state done = record {
    ending = ending_of met;
    notified = (done.0, record { memory = done.1.memory; window = done.1.window; state = refl });
  }
  notified_over met (Some queue) m n w w' state done = record {
    ending = ending_of met;
    notified = record {
      last = done.last;
      wanted = done.wanted;
      service = service_over met (site_at m queue tt) (site_at n done.last tt) done.wanted done.service;
      window = done.window;
    };
  }
