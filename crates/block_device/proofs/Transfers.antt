-- Sectors that were moved so far, and what the request is once they all are, or once the image fails.
use Rattle.std.proofs.Common.{◌≡◌, inl, inr, ℕ, ◌+◌, ◌*◌, ◌<◌, ◌≤◌, Option, None, Some, List, [], ◌++◌, length, map, take, drop, refl, sym, ap, ◌∙◌, arith, length-take, length-drop, length-append}
use Rattle.std.specs.Prelude.{IfSome, IsSomeAnd, OnErr, OnOk, Result, Ok, Err}
use Rattle.std.proofs.lemmas.List.{length-take-le, take_all, take-take, drop-drop}
use Rattle.std.proofs.lemmas.List.{length-map, map-append}
use Rattle.std.proofs.Math.Seq.{take-add}
use Rattle.guest_memory.specs.Memory.{Memory, SameRange}
use Rattle.chain.specs.declared.segment.Buffer.{Buffer}
use Rattle.chain.specs.Bytes.{readable_of, writable_of, scatter}
use Rattle.chain.specs.Service.{scattered}
use Rattle.chain.proofs.Partial.{scattered-run, scattered-then_run, scattered-nil}
use Rattle.sector_cache.specs.Sector.{extent_of, sector_of}
use Rattle.sector_cache.specs.Lending.{IsReadThrough}
use Rattle.sector_cache.specs.Disk.{Disk, IsWhole, IsTorn, Tells, failed, flushed, written, written_from}
use Rattle.block_device.specs.declared.device.BlockDevice.{BlockDevice}
use Rattle.block_device.specs.declared.extent.Extent.{Extent}
use Rattle.block_device.specs.declared.request.RequestStatus.TheVariants.{Success, IoError}
use Rattle.block_device.specs.declared.request.Request.TheVariants.{Read, Write}
use Rattle.block_device.specs.Extent.{IsWithin, extent_disk}
use Rattle.block_device.specs.Request.{payload_of, status_of}
use Rattle.block_device.specs.Outcome.{AreSectorContents, filled}
use Rattle.block_device.specs.Progress.{IsDone, IsWritten}
use Rattle.block_device.proofs.Endings.{flush_ends, nothing_found}
use Rattle.block_device.proofs.Extents.{filled-nil, written-filled, written-run, extent_disk-filled, KeepsOutside-filled, AreSectorContents-none, AreSectorContents-more, AreSectorContents-extent, take-sectors, written_from-filled}

-- the disk after a sector was lent, and after a read that failed
pub after_lent : {X E : Type 0} (result : Result X E) (x : X) (old new : Disk) → result ≡ Ok x
    → IsReadThrough result old new → new ≡ old
after_lent (Ok _) x old new is rests = rests.0
after_lent (Err _) x old new is rests = cc

pub after_refused : {X E : Type 0} (result : Result X E) (e : E) (old new : Disk) → result ≡ Err e
    → IsReadThrough result old new → new ≡ failed old
after_refused (Ok _) e old new is rests = cc
after_refused (Err _) e old new is rests = rests.1

-- these sectors were read from a sector of the disk on, and put in the first writable places
pub record IsReading (buffers : List Buffer) (old new : Memory) (disk disk' : Disk)
    (sector done : ℕ) : Type 0 where
  pub found : List ℕ
  pub finds : AreSectorContents disk sector done found
  pub memory : new ≡ scattered old (writable_of buffers) (map Some found)
  pub same : disk' ≡ disk
  pub range : SameRange old new

pub reading_start : (buffers : List Buffer) (m : Memory) (disk : Disk) (sector : ℕ)
    → IsReading buffers m m disk disk sector 0
reading_start buffers m disk sector = record {
  found = [];
  finds = AreSectorContents-none disk sector;
  memory = sym (scattered-nil m (writable_of buffers));
  same = refl;
  range = record { base = refl; size = refl; gaps = refl };
}

pub reading_more : (buffers : List Buffer) (old m new : Memory) (disk d d' : Disk) (sector done place : ℕ)
    (chunk : List ℕ) → IsReading buffers old m disk d sector done
    → length chunk ≡ 512 → IfSome d.contents (λ bytes. chunk ≡ sector_of bytes (sector + done)) → d' ≡ d
    → new ≡ scatter m (drop place (writable_of buffers)) chunk → place ≡ 512 * done → SameRange m new
    → IsReading buffers old new disk d' sector (done + 1)
reading_more buffers old m new disk d d' sector done place chunk r whole contents same put at range =
    let here : IfSome disk.contents (λ bytes. chunk ≡ sector_of bytes (sector + done)) =
    rw r.same at contents in
    let size : length (map Some r.found) ≡ place = length-map r.found Some ∙ r.finds.size ∙ sym at in
    record {
      found = r.found ++ chunk;
      finds = AreSectorContents-more disk sector done r.found chunk r.finds whole here;
      memory =
          put ∙ ap (λ m. scatter m (drop place (writable_of buffers)) chunk) r.memory
          ∙ scattered-then_run old (writable_of buffers) (map Some r.found) chunk place size
          ∙ ap (scattered old (writable_of buffers)) (sym (map-append Some r.found chunk));
      same = same ∙ r.same;
      range = record {
        base = range.base ∙ r.range.base;
        size = range.size ∙ r.range.size;
        gaps = range.gaps ∙ r.range.gaps;
      };
    }

-- all of them at once
pub reading_run : (buffers : List Buffer) (old new : Memory) (disk : Disk) (sector count : ℕ) (bytes : List ℕ)
    → length bytes ≡ 512 * count
    → Tells disk sector count bytes → new ≡ scatter old (writable_of buffers) bytes → SameRange old new
    → IsReading buffers old new disk disk sector count
reading_run buffers old new disk sector count bytes long contents put range = record {
  found = bytes;
  finds = record { size = long; contents = are_contents disk.contents contents };
  memory = put ∙ sym (scattered-run old (writable_of buffers) bytes);
  same = refl;
  range = range;
}
  where
    are_contents : (t : Option (List ℕ)) → IsSomeAnd t (λ b. bytes ≡ extent_of b sector count)
        → IfSome t (λ b. bytes ≡ extent_of b sector count)
    are_contents None never = absurd never
    are_contents (Some b) is = is

-- all are read
pub reading_done : {identity : List ℕ} (extent : Extent) (buffers : List Buffer) (old new : Memory)
    (disk disk' : Disk) (sector count done len : ℕ)
    → IsReading buffers old new disk disk' (extent.start + sector) done → done ≡ count → len ≡ 512 * count
    → sector + count ≤ extent.count
    → IsDone identity (Read sector count) buffers old new (extent_disk extent disk)
    (extent_disk extent disk') len Success
reading_done extent buffers old new disk disk' sector count done len r all size within =
    let finds : AreSectorContents (extent_disk extent disk) sector count r.found =
    AreSectorContents-extent extent disk sector count r.found within (rw all at r.finds) in
    record {
      found = r.found;
      ends = inl (record { found = r.found; finds = finds; is = rw r.same refl });
      len_is = size ∙ sym finds.size;
      memory = r.memory;
    }

-- the image fails
pub reading_fails : {identity : List ℕ} (extent : Extent) (buffers : List Buffer) (old new : Memory)
    (disk d disk' : Disk) (sector count done len : ℕ)
    → IsReading buffers old new disk d (extent.start + sector) done → done < count → len ≡ 512 * done
    → sector + count ≤ extent.count → disk' ≡ failed d
    → IsDone identity (Read sector count) buffers old new (extent_disk extent disk)
    (extent_disk extent disk') len IoError
reading_fails extent buffers old new disk d disk' sector count done len r sooner size within fails =
    let finds : AreSectorContents (extent_disk extent disk) sector done r.found =
    AreSectorContents-extent extent disk sector done r.found (omega arith) r.finds in
    record {
      found = r.found;
      ends = inr (record {
        done = done;
        sooner = sooner;
        found = r.found;
        finds = finds;
        is = rw (fails, r.same) refl;
      });
      len_is = size ∙ sym finds.size;
      memory = r.memory;
    }

-- the first sector of a part of the readable list is the sector there
pub first_sector : (part chunk readable : List ℕ) (place : ℕ)
    → part ≡ take (length part) (drop place readable)
    → 512 ≤ length part → chunk ≡ take 512 part → chunk ≡ take 512 (drop place readable)
first_sector part chunk readable place listed enough first =
    first ∙ ap (take 512) listed ∙ take-take 512 (length part) (drop place readable) enough

-- and so is a shorter part with the bytes behind it
pub gathered_sector : (part front rest readable : List ℕ) (place size : ℕ)
    → part ≡ take (length part) (drop place readable)
    → front ≡ part → rest ≡ take size (drop (place + length part) readable) → length part + size ≡ 512
    → front ++ rest ≡ take 512 (drop place readable)
gathered_sector part front rest readable place size listed copied read whole =
    let from = drop place readable in
    ap (λ bytes. bytes ++ rest) (copied ∙ listed)
    ∙ ap (λ bytes. take (length part) from ++ bytes) (read
    ∙ ap (take size) (sym (drop-drop (length part) place readable)))
    ∙ sym (take-add (length part) size from) ∙ ap (λ n. take n from) whole

-- these sectors were written from a sector of the disk on
pub record IsWriting (disk disk' : Disk) (sector : ℕ) (payload : List ℕ) (done : ℕ) : Type 0 where
  pub is : disk' ≡ filled sector (take (512 * done) payload) disk

pub writing_start : (disk : Disk) (sector : ℕ) (payload : List ℕ) → IsWriting disk disk sector payload 0
writing_start disk sector payload = record { is = filled-nil sector disk }

-- there are none
pub writing_none : (disk : Disk) (sector : ℕ) (payload : List ℕ) (count : ℕ) → count ≡ 0
    → IsWriting disk disk sector payload count
writing_none disk sector payload count none = rw none (writing_start disk sector payload)

-- some sectors more are written in place
pub writing_run : (disk d d' : Disk) (sector count done n : ℕ) (readable : List ℕ) → IsWhole disk
    → IsWriting disk d sector (payload_of readable) done
    → 0 < n → done + n ≤ count → length (payload_of readable) ≡ 512 * count
    → sector + done + n ≤ disk.sector_count
    → d' ≡ written_from (sector + done) (take (512 * n) (drop (16 + 512 * done) readable)) d
    → IsWriting disk d' sector (payload_of readable) (done + n)
writing_run disk d d' sector count done n readable is_whole w some within size inside put =
    let payload = payload_of readable in
    let chunk = take (512 * n) (drop (16 + 512 * done) readable) in
    let same : chunk ≡ take (512 * n) (drop (512 * done) payload) =
    ap (take (512 * n)) (ap (λ k. drop k readable) (omega arith)
    ∙ sym (drop-drop (512 * done) 16 readable)) in
    let whole : length chunk ≡ 512 * n =
    ap length same ∙ length-take-le (512 * n) (drop (512 * done) payload)
    (omega (arith, size, within, length-drop (512 * done) payload)) in
    let long : length (take (512 * done) payload) ≡ 512 * done =
    simp length-take (omega (arith, size, within)) in
    record {
      is =
          put ∙ ap (written_from (sector + done) chunk) w.is
          ∙ written_from-filled disk sector done n (take (512 * done) payload) chunk is_whole
          long whole some inside
          ∙ ap (λ bytes. filled sector bytes disk) (ap (λ c. take (512 * done) payload ++ c) same
          ∙ take-sectors payload done n);
    }

-- all of them at once
pub writing_all : (disk d' : Disk) (sector count : ℕ) (readable : List ℕ) → IsWhole disk
    → 0 < count → length (payload_of readable) ≡ 512 * count → sector + count ≤ disk.sector_count
    → d' ≡ written_from sector (payload_of readable) disk
    → IsWriting disk d' sector (payload_of readable) count
writing_all disk d' sector count readable is_whole some size inside put =
    let payload = payload_of readable in
    record {
      is =
          put ∙ ap (λ s. written_from s payload disk) (let e : sector ≡ sector + 0 = omega arith in e)
          ∙ ap (written_from (sector + 0) payload) (filled-nil sector disk)
          ∙ written_from-filled disk sector 0 count [] payload is_whole refl size some (omega (arith, inside))
          ∙ ap (λ bytes. filled sector bytes disk)
          (sym (take_all (512 * count) payload (omega (arith, size))));
    }

-- or one sector
pub writing_more : (disk d d' : Disk) (sector count done : ℕ) (readable chunk : List ℕ) → IsWhole disk
    → IsWriting disk d sector (payload_of readable) done
    → done < count → length (payload_of readable) ≡ 512 * count → sector + done < disk.sector_count
    → chunk ≡ take 512 (drop (16 + 512 * done) readable) → d' ≡ written (sector + done) chunk d
    → IsWriting disk d' sector (payload_of readable) (done + 1)
writing_more disk d d' sector count done readable chunk is_whole w sooner size inside read put =
    let whole : length chunk ≡ 512 = ap length read
    ∙ simp (length-take, length-drop) (omega (arith, sooner, size, length-drop 16 readable)) in
    writing_run disk d d' sector count done 1 readable is_whole w (omega arith) (omega (arith, sooner)) size
    (omega (arith, inside))
    (put ∙ written-run (sector + done) chunk d whole
    ∙ ap (λ bytes. written_from (sector + done) bytes d) read)

-- the image fails at a sector
pub writing_fails : (device : BlockDevice) (buffers : List Buffer) (m : Memory)
    (disk d disk' : Disk) (sector count done : ℕ) → IsWhole disk → IsWithin disk.sector_count device.extent
    → IsWriting disk d (device.extent.start + sector) (payload_of (readable_of m buffers)) done → done < count
    → sector + count ≤ device.extent.count
    → length (payload_of (readable_of m buffers)) ≡ 512 * count
    → IsTorn (device.extent.start + sector + done) d disk'
    → IsWritten device (Write sector count) buffers m IoError disk disk'
writing_fails device buffers m disk d disk' sector count done is_whole lies w sooner within size t =
    let extent = device.extent in
    let front = take (512 * done) (payload_of (readable_of m buffers)) in
    let long : length front ≡ 512 * done = simp length-take (omega arith) in
    let all : disk' ≡ failed (filled (extent.start + sector) (front ++ t.left) disk) =
    t.torn ∙ ap (λ d. failed (written (extent.start + sector + done) t.left d)) w.is
    ∙ ap failed (written-filled disk (extent.start + sector) done front t.left is_whole long
    t.whole (omega arith)) in
    let fits : 512 * sector + length (front ++ t.left) ≤ 512 * extent.count =
    omega (arith, length-append front t.left, long, t.whole) in
    let seen : extent_disk extent disk' ≡ failed (filled sector (front ++ t.left) (extent_disk extent disk)) =
    ap (extent_disk extent) all
    ∙ ap failed (extent_disk-filled extent disk sector (front ++ t.left) is_whole lies fits) in record {
      done = nothing_found (Write sector count) buffers m (extent_disk extent disk) (extent_disk extent disk')
          IoError (inr (inl (record {
            done = done;
            sooner = sooner;
            torn = t.left;
            whole = t.whole;
            is = rw seen refl;
          })));
      calls = record {
        counted = ap (λ (d : Disk). d.failures) all;
        outside = KeepsOutside-filled extent disk disk' sector (front
            ++ t.left) is_whole lies fits (ap (λ (d : Disk). d.contents) all)
            (ap (λ (d : Disk). d.sector_count) all);
      };
    }

-- all are written, and the flush has come out
pub writing_ends : {E : Type 0} (device : BlockDevice) (buffers : List Buffer) (m : Memory)
    (disk d disk' : Disk) (sector count done : ℕ) (result : Result (Unit {0}) E)
    → IsWhole disk → IsWithin disk.sector_count device.extent
    → IsWriting disk d (device.extent.start + sector) (payload_of (readable_of m buffers)) done
    → done ≡ count → sector + count ≤ device.extent.count
    → length (payload_of (readable_of m buffers)) ≡ 512 * count
    → OnOk result (disk' ≡ flushed d) → OnErr result (disk' ≡ failed d)
    → IsWritten device (Write sector count) buffers m (status_of result) disk disk'
writing_ends device buffers m disk d disk' sector count done result is_whole lies w all within size ok err =
    let extent = device.extent in
    let payload = payload_of (readable_of m buffers) in
    let so_far : d ≡ filled (extent.start + sector) payload disk =
    w.is ∙ ap (λ bytes. filled (extent.start + sector) bytes disk)
    (take_all (512 * done) payload (omega (arith, size, all))) in
    let fits : 512 * sector + length payload ≤ 512 * extent.count = omega (arith, size, within) in
    flush_ends device (Write sector count) buffers m disk d (filled sector payload (extent_disk extent disk))
    (ap (extent_disk extent) so_far ∙ extent_disk-filled extent disk sector payload is_whole lies fits)
    (ap (λ (d : Disk). d.failures) so_far)
    (KeepsOutside-filled extent disk d sector payload is_whole lies fits
    (ap (λ (d : Disk). d.contents) so_far) (ap (λ (d : Disk). d.sector_count) so_far))
    disk' result ok err (inl (record { found = []; finds = refl; is = refl })) (inr (inr refl))
