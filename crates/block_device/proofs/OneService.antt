-- Over an image that tells its bytes, and doesn't fail, there is at most one service of a queue.
use Rattle.std.proofs.Common.{◌≡◌, ◌≢◌, ℕ, zero, suc, Bool, true, Some, List, [], ◌∷◌, replicate, refl, sym, ap, subst, ◌∙◌}
use Rattle.std.specs.Option.{option_map}
use Rattle.chain.specs.Service.{Given, Device, Ending, Refused, Site, IsService, HasAtMostOneAnswer}
use Rattle.chain.proofs.Servicing.{at_most_one_service, never_refused}
use Rattle.chain.proofs.Simulating.{DoesAs, ServedAs, moved, service_as}
use Rattle.sector_cache.specs.Disk.{Disk}
use Rattle.mmio_window.specs.declared.queue.Queue.{Queue}
use Rattle.mmio_window.specs.Queue.{queue_kind}
use Rattle.mmio_window.proofs.QueueKind.{has_at_most_one_chain}
use Rattle.block_device.specs.declared.device.BlockDevice.{BlockDevice}
use Rattle.block_device.specs.declared.request.Request.{Request}
use Rattle.block_device.specs.declared.request.Request.TheVariants.{Rejected, Read, Write, Flush, GetId, WriteZeroes}
use Rattle.block_device.specs.Request.{request_of, payload_of}
use Rattle.block_device.specs.Outcome.{Outcome, with_sectors, completed, Completes}
use Rattle.sector_cache.specs.Disk.{written}
use Rattle.sector_cache.specs.Sector.{with_sector}
use Rattle.block_device.specs.Device.{GivesBy, exact_device}
use Rattle.block_device.specs.Zeroes.{all_sectors, segments_in, zeroed_sectors}
use Rattle.block_device.proofs.Requests.{gives_once}

-- the disk tells its bytes
pub record HasContents (disk : Disk) : Type 0 where
  pub bytes : List ℕ
  pub is : disk.contents ≡ Some bytes

-- a chain is served exactly, and the disk tells its bytes
pub record GivesWithContents (device : BlockDevice) (disk : Disk) (readable : List ℕ) (w : ℕ)
    (given : Given Disk) : Type 0 where
  pub contents : HasContents disk
  pub gives : GivesBy (Completes device.identity) device disk readable w given

abbrev pub device_with_contents : BlockDevice → Device Disk
device_with_contents device = record {
  takes = λ disk. true;
  Gives = λ disk readable w given. GivesWithContents device disk readable w given;
  LacksMemory = λ disk readable w. ⊥;
}

pub once_with_contents : (device : BlockDevice) → HasAtMostOneAnswer (device_with_contents device)
once_with_contents device = record {
  given = λ disk readable w g h p q. gives_once device disk p.contents.bytes readable w g h
      p.contents.is p.gives q.gives;
}

zeroed_contents : (sectors : List ℕ) (disk : Disk) → HasContents disk
    → HasContents (zeroed_sectors sectors disk)
zeroed_contents [] disk t = t
zeroed_contents (sector ∷ sectors) disk t =
    let zeros : List ℕ = replicate 512 0 in
    zeroed_contents sectors (written sector zeros disk)
    (record {
      bytes = with_sector t.bytes sector zeros;
      is = ap (option_map (λ bytes. with_sector bytes sector zeros)) t.is;
    })

-- a request leaves the disk telling its bytes
completed_contents : (request : Request) (payload found : List ℕ) (disk : Disk) → HasContents disk
    → HasContents (completed request payload found disk).disk
completed_contents (Rejected status) payload found disk t = t
completed_contents (Read sector count) payload found disk t = t
completed_contents (Write sector count) payload found disk t =
    record {
      bytes = with_sectors t.bytes sector payload;
      is = ap (option_map (λ bytes. with_sectors bytes sector payload)) t.is;
    }
completed_contents Flush payload found disk t = record { bytes = t.bytes; is = t.is }
completed_contents GetId payload found disk t = t
completed_contents (WriteZeroes segments) payload found disk t =
    let after = zeroed_contents (all_sectors (segments_in payload)) disk t in
    record { bytes = after.bytes; is = after.is }

given_contents : (device : BlockDevice) (disk : Disk) (readable : List ℕ) (w : ℕ) (given : Given Disk)
    → GivesBy (Completes device.identity) device disk readable w given → HasContents disk
    → HasContents given.state
given_contents device disk readable zero given h t =
    record { bytes = t.bytes; is = ap (λ (g : Given Disk). g.state.contents) h ∙ t.is }
given_contents device disk readable (suc room) given h t =
    let after = completed_contents (request_of device readable room) (payload_of readable)
    h.is.found disk t in
    record {
      bytes = after.bytes;
      is = ap (λ (g : Given Disk). g.state.contents) h.given_is
          ∙ ap (λ (o : Outcome). o.disk.contents) h.is.is ∙ after.is;
    }

-- the same disk, which tells its bytes
pub record SameContents (s t : Disk) : Type 0 where
  pub same : s ≡ t
  pub contents : HasContents t

pub does_with_contents : (device : BlockDevice)
    → DoesAs (exact_device device) (device_with_contents device) SameContents
does_with_contents device = record {
  takes = λ s t alike. refl;
  gives = λ s t readable w given alike h.
      let here : GivesBy (Completes device.identity) device t readable w given =
      subst (λ (d : Disk). GivesBy (Completes device.identity) device d readable w given) alike.same h in
      record {
        state = given.state;
        alike = record {
          same = refl;
          contents = given_contents device t readable w given here alike.contents;
        };
        gives = record { contents = alike.contents; gives = here };
      };
  lacks_memory = λ s t readable w alike lacks. lacks;
}

service_with_contents : (device : BlockDevice) (old new : Site Queue Disk) (ending : Ending) (wanted : Bool)
    → HasContents old.state
    → IsService queue_kind (exact_device device) old new ending wanted
    → IsService queue_kind (device_with_contents device) old new ending wanted
service_with_contents device old new ending wanted contents s =
    let served : ServedAs queue_kind (exact_device device) (device_with_contents device) SameContents
    (does_with_contents device) (moved old old.state) new ending wanted =
    service_as queue_kind (exact_device device) (device_with_contents device) SameContents
    (does_with_contents device) old new old.state ending wanted
    (record { same = refl; contents = contents }) s in
    subst (λ (d : Disk). IsService queue_kind (device_with_contents device) old (moved new d) ending wanted)
    (sym served.alike.same) served.service

not_refused : (device : BlockDevice) (old new : Site Queue Disk) (ending : Ending) (wanted : Bool)
    → IsService queue_kind (exact_device device) old new ending wanted → ending ≢ Refused
not_refused device old new ending wanted s =
    never_refused queue_kind (exact_device device) old new ending wanted (λ disk readable w lacks. lacks) s

pub at_most_one_exact_service : (device : BlockDevice) (bytes : List ℕ) (old a b : Site Queue Disk)
    (e f : Ending) (v w : Bool) → old.state.contents ≡ Some bytes
    → IsService queue_kind (exact_device device) old a e v
    → IsService queue_kind (exact_device device) old b f w
    → (a ≡ b) × (e ≡ f) × (v ≡ w)
at_most_one_exact_service device bytes old a b e f v w contents x y =
    let t : HasContents old.state = record { bytes = bytes; is = contents } in
    let same = at_most_one_service queue_kind (device_with_contents device) has_at_most_one_chain
    (once_with_contents device) old a b e f v w
    (not_refused device old a e v x) (not_refused device old b f w y)
    (service_with_contents device old a e v t x) (service_with_contents device old b f w t y) in
    (same.site, same.ending, same.wanted)
