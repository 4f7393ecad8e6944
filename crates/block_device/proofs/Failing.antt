-- The device that may fail does the same over every disk of the same sectors, whatever failed there before.
use Rattle.std.proofs.Common.{inl, inr, ℕ, ◌*◌, List, [], ◌++◌, take, refl, sym, subst, ◌∙◌}
use Rattle.chain.proofs.Simulating.{DoesAs}
use Rattle.sector_cache.specs.Disk.{Disk, failed, written}
use Rattle.sector_cache.specs.Sector.{with_sector}
use Rattle.block_device.specs.declared.device.BlockDevice.{BlockDevice}
use Rattle.block_device.specs.declared.request.Request.TheVariants.{Rejected, Read, Write, Flush, GetId, WriteZeroes}
use Rattle.block_device.specs.declared.request.RequestStatus.TheVariants.{IoError}
use Rattle.block_device.specs.Device.{block_device}
use Rattle.block_device.specs.Extent.{SameSectors}
use Rattle.block_device.specs.Outcome.{Ends, Fails, filled, with_sectors}
use Rattle.block_device.specs.Zeroes.{all_sectors, segments_in, zeroed_sectors}
use Rattle.block_device.proofs.Guests.{SeesSectors, completes_same, device_same, finds_same, on_disks, same_by, zeroed_same}

same_failed : (s t : Disk) → SameSectors s t → SameSectors (failed s) (failed t)
same_failed s t same = record { contents = same.contents; sectors = same.sectors }

-- a request that fails, over another disk of the same sectors
fails_same : SeesSectors Fails
fails_same (Rejected status) payload s t outcome same h = absurd h
fails_same (Read sector count) payload s t outcome same h = record {
  other = record { disk = failed t; found = h.found; status = IoError };
  is = record {
    done = h.done;
    sooner = h.sooner;
    found = h.found;
    finds = finds_same [] (Read sector h.done) s t h.found same h.finds;
    is = refl;
  };
  same = rw h.is (on_disks (same_failed s t same));
}
fails_same (Write sector count) payload s t outcome same (inl h) =
    let bytes = take (512 * h.done) payload ++ h.torn in
    record {
      other = record { disk = failed (filled sector bytes t); found = []; status = IoError };
      is = inl (record { done = h.done; sooner = h.sooner; torn = h.torn; whole = h.whole; is = refl });
      same = rw h.is (on_disks (same_by (λ old. with_sectors old sector bytes) s t same));
    }
fails_same (Write sector count) payload s t outcome same (inr h) = record {
  other = record { disk = failed (filled sector payload t); found = []; status = IoError };
  is = inr refl;
  same = rw h (on_disks (same_by (λ old. with_sectors old sector payload) s t same));
}
fails_same Flush payload s t outcome same h = record {
  other = record { disk = failed t; found = []; status = IoError };
  is = refl;
  same = rw h (on_disks (same_failed s t same));
}
fails_same GetId payload s t outcome same h = absurd h
fails_same (WriteZeroes segments) payload s t outcome same (inl h) =
    let before = h.stopped.before in
    let sector = h.stopped.sector in
    let bytes = h.stopped.torn.left in
    let left : Disk = failed (written sector bytes (zeroed_sectors before t)) in
    let alike : SameSectors h.left left =
    subst (λ (d : Disk). SameSectors d left) (sym h.stopped.torn.torn)
    (same_by (λ old. with_sector old sector bytes) (zeroed_sectors before s) (zeroed_sectors before t)
    (zeroed_same before s t same)) in
    record {
      other = record { disk = left; found = []; status = IoError };
      is = inl (record {
        left = left;
        stopped = record {
          before = before;
          sector = sector;
          later = h.stopped.later;
          listed = h.stopped.listed;
          torn =
              record { left = bytes; whole = h.stopped.torn.whole; torn = refl };
        };
        is = refl;
      });
      same = rw h.is (on_disks alike);
    }
fails_same (WriteZeroes segments) payload s t outcome same (inr h) =
    let sectors = all_sectors (segments_in payload) in
    record {
      other = record { disk = failed (zeroed_sectors sectors t); found = []; status = IoError };
      is = inr refl;
      same = rw h (on_disks (same_failed (zeroed_sectors sectors s) (zeroed_sectors sectors t)
          (zeroed_same sectors s t same)));
    }

ends_same : (identity : List ℕ) → SeesSectors (Ends identity)
ends_same identity request payload s t outcome same (inl c) =
    let o = completes_same identity request payload s t outcome same c in
    record { other = o.other; is = inl o.is; same = o.same }
ends_same identity request payload s t outcome same (inr f) =
    let o = fails_same request payload s t outcome same f in
    record { other = o.other; is = inr o.is; same = o.same }

pub block_same : (device : BlockDevice) → DoesAs (block_device device) (block_device device) SameSectors
block_same device = device_same (Ends device.identity) device (ends_same device.identity)

pub sectors_same : (s : Disk) → SameSectors s s
sectors_same s = record { contents = refl; sectors = refl }

pub sectors_further : (r s t : Disk) → SameSectors r s → SameSectors s t → SameSectors r t
sectors_further r s t p q = record { contents = q.contents ∙ p.contents; sectors = q.sectors ∙ p.sectors }
