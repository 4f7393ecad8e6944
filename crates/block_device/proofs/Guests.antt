-- The device as its guest knows it: where its extent lies, and how the image fares, are never seen.
use Rattle.std.proofs.Common.{◌≡◌, ℕ, zero, suc, Bool, Option, List, [], ◌∷◌, replicate, refl, sym, ap, subst, ◌∙◌}
use Rattle.std.specs.Prelude.{IfSome}
use Rattle.std.specs.Option.{option_map}
use Rattle.chain.specs.Service.{Given}
use Rattle.chain.proofs.Simulating.{DoesAs, Matches}
use Rattle.sector_cache.specs.Sector.{extent_of, with_sector}
use Rattle.sector_cache.specs.Disk.{Disk, written}
use Rattle.block_device.specs.declared.device.BlockDevice.{BlockDevice}
use Rattle.block_device.specs.declared.request.RequestStatus.{RequestStatus}
use Rattle.block_device.specs.declared.request.Request.{Request}
use Rattle.block_device.specs.declared.request.Request.TheVariants.{Rejected, Read, Write, Flush, GetId, WriteZeroes}
use Rattle.block_device.specs.Request.{request_of, payload_of}
use Rattle.block_device.specs.Extent.{SameSectors}
use Rattle.block_device.specs.Outcome.{Outcome, Finds, with_sectors, completed, Completes}
use Rattle.block_device.specs.Zeroes.{all_sectors, segments_in, zeroed_sectors}
use Rattle.block_device.specs.Device.{given_of, GivesBy, device_by, exact_device}

-- the device as one whose sectors are all that there are
abbrev pub guest_device : BlockDevice → BlockDevice
guest_device device = record device { extent = record { start = 0; count = device.extent.count } }

-- ---- where the extent lies is never seen

gives_anywhere : (Way : Request → List ℕ → Disk → Outcome → Type 0) (device : BlockDevice) (disk : Disk)
    (readable : List ℕ) (w : ℕ) (given : Given Disk) → GivesBy Way device disk readable w given
    → GivesBy Way (guest_device device) disk readable w given
gives_anywhere Way device disk readable zero given h = h
gives_anywhere Way device disk readable (suc room) given h = h

-- a device in the same state
abbrev pub Same : Disk → Disk → Type 0
Same s t = t ≡ s

pub does_anywhere : (Way : Request → List ℕ → Disk → Outcome → Type 0) (device : BlockDevice)
    → DoesAs (device_by Way device) (device_by Way (guest_device device)) Same
does_anywhere Way device = record {
  takes = λ s t same. refl;
  gives = λ s t readable w given same h. record {
    state = given.state;
    alike = refl;
    gives = subst (λ (d : Disk). GivesBy Way (guest_device device) d readable w given) (sym same)
        (gives_anywhere Way device s readable w given h);
  };
  lacks_memory = λ s t readable w same h. h;
}

-- ---- how the image fares is never seen

pub finds_same : (identity : List ℕ) (request : Request) (s t : Disk) (found : List ℕ) → SameSectors s t
    → Finds identity request s found → Finds identity request t found
finds_same identity (Rejected status) s t found same h = h
finds_same identity (Read sector count) s t found same h = record {
  size = h.size;
  contents = subst (λ (o : Option (List ℕ)). IfSome o (λ bytes. found ≡ extent_of bytes sector count))
      (sym same.contents) h.contents;
}
finds_same identity (Write sector count) s t found same h = h
finds_same identity Flush s t found same h = h
finds_same identity GetId s t found same h = h
finds_same identity (WriteZeroes segments) s t found same h = h

-- what a request does to the contents alone
pub same_by : (f : List ℕ → List ℕ) (s t : Disk) {n k : ℕ} {d e : Bool} → SameSectors s t
    → SameSectors
    (record { contents = option_map f s.contents; sector_count = s.sector_count; failures = n; dirty = d })
    (record { contents = option_map f t.contents; sector_count = t.sector_count; failures = k; dirty = e })
same_by f s t same = record { contents = ap (option_map f) same.contents; sectors = same.sectors }

pub zeroed_same : (sectors : List ℕ) (s t : Disk) → SameSectors s t
    → SameSectors (zeroed_sectors sectors s) (zeroed_sectors sectors t)
zeroed_same [] s t same = same
zeroed_same (sector ∷ sectors) s t same =
    let zeros : List ℕ = replicate 512 0 in
    zeroed_same sectors (written sector zeros s) (written sector zeros t)
    (same_by (λ bytes. with_sector bytes sector zeros) s t same)

-- what is told to the driver is the same, and so are the sectors afterwards
pub record SameOutcome (one other : Outcome) : Type 0 where
  pub disk : SameSectors one.disk other.disk
  pub found : other.found ≡ one.found
  pub status : other.status ≡ one.status

pub on_disks : {s t : Disk} {found : List ℕ} {status : RequestStatus} → SameSectors s t
    → SameOutcome (record { disk = s; found = found; status = status })
    (record { disk = t; found = found; status = status })
on_disks same = record { disk = same; found = refl; status = refl }

completed_same : (request : Request) (payload found : List ℕ) (s t : Disk) → SameSectors s t
    → SameOutcome (completed request payload found s) (completed request payload found t)
completed_same (Rejected status) payload found s t same = on_disks same
completed_same (Read sector count) payload found s t same = on_disks same
completed_same (Write sector count) payload found s t same =
    on_disks (same_by (λ bytes. with_sectors bytes sector payload) s t same)
completed_same Flush payload found s t same =
    on_disks (record { contents = same.contents; sectors = same.sectors })
completed_same GetId payload found s t same = on_disks same
completed_same (WriteZeroes segments) payload found s t same =
    let after = zeroed_same (all_sectors (segments_in payload)) s t same in
    on_disks (record { contents = after.contents; sectors = after.sectors })

same_written : (room : ℕ) (one other : Outcome) → SameOutcome one other
    → (given_of room one).written ≡ (given_of room other).written
same_written room one other same = rw (same.found, same.status) refl

-- what was written, with another state
abbrev given_with : Disk → List (Option ℕ) → Given Disk
given_with disk written = record { state = disk; written = written }

-- A request that ends so ends so over each other disk of the same sectors, with the same outcome.
pub record EndsAlike (Way : Request → List ℕ → Disk → Outcome → Type 0) (request : Request)
    (payload : List ℕ) (t : Disk) (outcome : Outcome) : Type 0 where
  pub other : Outcome
  pub is : Way request payload t other
  pub same : SameOutcome outcome other

abbrev pub SeesSectors : (Request → List ℕ → Disk → Outcome → Type 0) → Type 0
SeesSectors Way = (request : Request) (payload : List ℕ) (s t : Disk) (outcome : Outcome) → SameSectors s t
    → Way request payload s outcome → EndsAlike Way request payload t outcome

-- and so does a device that ends each request so
gives_same : (Way : Request → List ℕ → Disk → Outcome → Type 0) (device : BlockDevice) (s t : Disk)
    (readable : List ℕ) (w : ℕ) (given : Given Disk) → SeesSectors Way
    → SameSectors s t → GivesBy Way device s readable w given
    → Matches (device_by Way device) SameSectors t readable w given
gives_same Way device s t readable zero given sees same h = record {
  state = t;
  alike = subst (λ (d : Disk). SameSectors d t) (sym (ap (λ (g : Given Disk). g.state) h)) same;
  gives = ap (λ (written : List (Option ℕ)). given_with t written) (ap (λ (g : Given Disk). g.written) h);
}
gives_same Way device s t readable (suc room) given sees same h =
    let o = sees (request_of device readable room) (payload_of readable) s t h.outcome same h.is in
    record {
      state = o.other.disk;
      alike = subst (λ (d : Disk). SameSectors d o.other.disk)
          (sym (ap (λ (g : Given Disk). g.state) h.given_is)) o.same.disk;
      gives = record {
        outcome = o.other;
        is = o.is;
        given_is = ap (given_with o.other.disk) (ap (λ (g : Given Disk). g.written) h.given_is
            ∙ same_written room h.outcome o.other o.same);
      };
    }

pub device_same : (Way : Request → List ℕ → Disk → Outcome → Type 0) (device : BlockDevice)
    → SeesSectors Way → DoesAs (device_by Way device) (device_by Way device) SameSectors
device_same Way device sees = record {
  takes = λ s t same. refl;
  gives = λ s t readable w given same h. gives_same Way device s t readable w given sees same h;
  lacks_memory = λ s t readable w same h. h;
}

pub completes_same : (identity : List ℕ) → SeesSectors (Completes identity)
completes_same identity request payload s t outcome same h = record {
  other = completed request payload h.found t;
  is = record {
    found = h.found;
    finds = finds_same identity request s t h.found same h.finds;
    is = refl;
  };
  same = rw h.is (completed_same request payload h.found s t same);
}

pub exact_same : (device : BlockDevice) → DoesAs (exact_device device) (exact_device device) SameSectors
exact_same device =
    device_same (Completes device.identity) device (completes_same device.identity)
