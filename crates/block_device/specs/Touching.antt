-- What a stop within a request, as a loss of power, may leave of the disk: any bytes in the sectors that the
-- request writes, be they old, new or torn. It touches no others.
use Rattle.std.specs.Prelude.{ℕ, zero, suc, ◌+◌, true, List, [], ◌∷◌, ◌++◌, length, map}
use Rattle.std.specs.List.{range_with_len}
use Rattle.chain.specs.Bytes.{readable_of, writable_of}
use Rattle.chain.specs.Service.{Device, Given, Served, Site, after}
use Rattle.sector_cache.specs.Disk.{Disk}
use Rattle.sector_cache.specs.Stop.{TouchesSectors}
use Rattle.mmio_window.specs.declared.queue.Queue.{Queue}
use Rattle.mmio_window.specs.Queue.{queue_kind}
use Rattle.block_device.specs.declared.device.BlockDevice.{BlockDevice}
use Rattle.block_device.specs.declared.extent.Extent.{Extent}
use Rattle.block_device.specs.declared.request.Request.{Request}
use Rattle.block_device.specs.declared.request.Request.TheVariants.{Write, WriteZeroes}
use Rattle.block_device.specs.Device.{GivesBy}
use Rattle.block_device.specs.Extent.{extent_disk}
use Rattle.block_device.specs.Outcome.{Ends}
use Rattle.block_device.specs.Request.{payload_of, request_of}
use Rattle.block_device.specs.Zeroes.{all_sectors, segments_in}

-- The sectors that a request writes (5.2.6): OUT those of its data, WRITE_ZEROES those of its segments.
abbrev pub written_sectors : Request → List ℕ → List ℕ
written_sectors (Write sector count) payload = range_with_len sector count
written_sectors (WriteZeroes segments) payload = all_sectors (segments_in payload)
written_sectors request payload = []

-- sectors of an extent, as sectors of the image
abbrev pub on_image : Extent → List ℕ → List ℕ
on_image extent sectors = map (λ sector. extent.start + sector) sectors

-- Those of a chain with these readable bytes and so many writable places: without one it is no request.
abbrev pub sectors_of_chain : BlockDevice → List ℕ → ℕ → List ℕ
sectors_of_chain device readable zero = []
sectors_of_chain device readable (suc room) =
    on_image device.extent (written_sectors (request_of device readable room) (payload_of readable))

module _ {I : Type 0} (disk : I → Disk) (moment : I → ℕ) (may_leave : I → List ℕ → Type 0)
    (left_since : I → ℕ → List ℕ → Type 0) where
  -- A chain is served over an image: as over its extent as a disk, whether or not the image fails, and at
  -- each moment only the sectors of its request are touched.
  pub record GivesOver (device : BlockDevice) (image : I) (readable : List ℕ) (w : ℕ)
      (given : Given I) : Type 0 where
    pub gives : GivesBy (Ends device.identity) device (extent_disk device.extent (disk image)) readable w
        (record { state = extent_disk device.extent (disk given.state); written = given.written })
    pub touches : TouchesSectors moment may_leave left_since
        (sectors_of_chain device readable w) image given.state

  -- the device over the image itself
  abbrev pub device_over : BlockDevice → Device I
  device_over device = record {
    takes = λ image. true;
    Gives = λ image readable w given. GivesOver device image readable w given;
    LacksMemory = λ image readable w. ⊥;
  }

  -- the sectors of chains that it serves one after another
  abbrev pub sectors_of_chains : BlockDevice → Site Queue I → List (Served I) → List ℕ
  sectors_of_chains device site [] = []
  sectors_of_chains device site (served ∷ later) =
      sectors_of_chain device (readable_of site.memory served.buffers) (length (writable_of served.buffers))
      ++ sectors_of_chains device (after queue_kind (device_over device) site served) later

-- ---- the same with the extent as a disk in the image's place

abbrev pub seen_site : {I : Type 0} → (disk : I → Disk) → BlockDevice → Site Queue I → Site Queue Disk
seen_site disk device site = record {
  memory = site.memory;
  ring = site.ring;
  state = extent_disk device.extent (disk site.state);
}

abbrev pub seen_chain : {I : Type 0} → (disk : I → Disk) → BlockDevice → Served I → Served Disk
seen_chain disk device served = record {
  buffers = served.buffers;
  entry = served.entry;
  given = record {
    state = extent_disk device.extent (disk served.given.state);
    written = served.given.written;
  };
}
