-- Sectors that were zeroed so far, and what the request is once they all are, or once the image fails.
use Rattle.std.proofs.Common.{◌≡◌, inl, inr, ℕ, zero, suc, ◌+◌, ◌-◌, ◌*◌, ◌^◌, ◌<◌, ◌≤◌, Bool, true, false, ◌&&◌, List, [], ◌∷◌, ◌++◌, length, take, drop, get_or, replicate, refl, sym, ap, ◌∙◌, arith, subst, append_assoc, append-nil}
use Rattle.std.specs.List.{AllByRecursion, list_all, range_with_len}
use Rattle.std.specs.Prelude.{Contains, OnErr, OnOk, Result}
use Rattle.std.proofs.lemmas.Bool.Decides.{nat_tests}
use Rattle.std.proofs.lemmas.List.{length-replicate, take-append-drop, take_more}
use Rattle.std.proofs.lemmas.List.Elements.{Contains-append_left, Contains-append_right}
use Rattle.std.proofs.lemmas.List.Sums.{AllPass-from_list_all}
use Rattle.guest_memory.specs.Memory.{Memory}
use Rattle.chain.specs.declared.segment.Buffer.{Buffer}
use Rattle.chain.specs.Bytes.{readable_of}
use Rattle.sector_cache.specs.Disk.{Disk, IsWhole, IsTorn, failed, flushed, written}
use Rattle.block_device.specs.declared.device.BlockDevice.{BlockDevice}
use Rattle.block_device.specs.declared.extent.Extent.{Extent}
use Rattle.block_device.specs.declared.request.RequestStatus.TheVariants.{IoError}
use Rattle.block_device.specs.declared.request.Request.TheVariants.{WriteZeroes}
use Rattle.block_device.specs.declared.segments.WriteZeroesSegment.{WriteZeroesSegment}
use Rattle.block_device.specs.Extent.{IsWithin, extent_disk}
use Rattle.block_device.specs.Request.{payload_of, status_of}
use Rattle.block_device.specs.Outcome.{filled}
use Rattle.block_device.specs.Progress.{IsWritten}
use Rattle.block_device.specs.Zeroes.{IsStopped, IsZeroed, StopsZeroing, all_sectors, has_sectors_within, sectors_of, segments_in, zeroed_sectors}
use Rattle.block_device.proofs.Endings.{flush_ends, nothing_found}
use Rattle.block_device.proofs.Extents.{extent_disk-filled, KeepsOutside-filled, KeepsOutside-same, lies_still, dirty_after-chunk, outside_trans, same_disk, written-run}

abbrev zeros : List ℕ
zeros = replicate 512 0

-- ---- lists of sectors

-- a run of numbers in two parts
range-split : (a n k : ℕ) → range_with_len a (n + k) ≡ range_with_len a n ++ range_with_len (a + n) k
range-split a zero k =
    let none : 0 + k ≡ k = omega arith in
    let here : a ≡ a + 0 = omega arith in
    ap (range_with_len a) none ∙ ap (λ b. range_with_len b k) here
range-split a (suc n) k =
    let more : suc n + k ≡ suc (n + k) = omega arith in
    let on : a + 1 + n ≡ a + suc n = omega arith in
    ap (range_with_len a) more
    ∙ ap (λ l. a ∷ l) (range-split (a + 1) n k
    ∙ ap (λ b. range_with_len (a + 1) n ++ range_with_len b k) on)

-- those of a run
pub run-below : (a n capacity : ℕ) → a + n ≤ capacity
    → AllByRecursion (λ sector. sector < capacity) (range_with_len a n)
run-below a zero capacity le = tt
run-below a (suc n) capacity le = (omega arith, run-below (a + 1) n capacity (omega arith))

below-append : (capacity : ℕ) (xs ys : List ℕ) → AllByRecursion (λ sector. sector < capacity) xs
    → AllByRecursion (λ sector. sector < capacity) ys
    → AllByRecursion (λ sector. sector < capacity) (xs ++ ys)
below-append capacity [] ys p q = q
below-append capacity (x ∷ xs) ys p q = (p.0, below-append capacity xs ys p.1 q)

one-below : (capacity : ℕ) (segment : WriteZeroesSegment) → has_sectors_within capacity segment ≡ true
    → AllByRecursion (λ sector. sector < capacity) (sectors_of segment)
one-below capacity segment fits =
    run-below segment.sector segment.count capacity (grind (arith, nat_tests, fits))

-- two tests that both pass
pub both : (a b : Bool) → (a && b) ≡ true → (a ≡ true) × (b ≡ true)
both true true e = (refl, refl)
both true false e = cc
both false b e = cc

-- the sectors of segments that lie on a disk do
pub all-below : (capacity : ℕ) (segments : List WriteZeroesSegment)
    → list_all (has_sectors_within capacity) segments ≡ true
    → AllByRecursion (λ sector. sector < capacity) (all_sectors segments)
all-below capacity [] fit = tt
all-below capacity (segment ∷ segments) fit =
    let parts = both (has_sectors_within capacity segment)
    (list_all (has_sectors_within capacity) segments) fit in
    below-append capacity (sectors_of segment) (all_sectors segments) (one-below capacity segment parts.0)
    (all-below capacity segments parts.1)

-- and so does each front of them, and the next one
pub front-below : (capacity : ℕ) (before : List ℕ) (sector : ℕ) (later : List ℕ)
    → AllByRecursion (λ s. s < capacity) (before ++ sector ∷ later)
    → AllByRecursion (λ s. s < capacity) before × (sector < capacity)
front-below capacity [] sector later p = (tt, p.0)
front-below capacity (x ∷ before) sector later p = let rest = front-below capacity before sector later p.1 in
    ((p.0, rest.0), rest.1)

-- ---- zeroing, one sector after another

zeroed-append : (xs ys : List ℕ) (disk : Disk)
    → zeroed_sectors (xs ++ ys) disk ≡ zeroed_sectors ys (zeroed_sectors xs disk)
zeroed-append [] ys disk = refl
zeroed-append (x ∷ xs) ys disk = zeroed-append xs ys (written x zeros disk)

pub zeroed-failures : (sectors : List ℕ) (disk : Disk)
    → (zeroed_sectors sectors disk).failures ≡ disk.failures
zeroed-failures [] disk = refl
zeroed-failures (sector ∷ sectors) disk = zeroed-failures sectors (written sector zeros disk)

pub stopped-failures : (sectors : List ℕ) (old new : Disk) → IsStopped sectors old new
    → new.failures ≡ old.failures + 1
stopped-failures sectors old new s =
    ap (λ (d : Disk). d.failures) s.torn.torn ∙ ap (λ n. n + 1) (zeroed-failures s.before old)

-- a sector written is a run of one sector
written-filled_once : (disk : Disk) (sector : ℕ) (new : List ℕ) → length new ≡ 512
    → written sector new disk ≡ filled sector new disk
written-filled_once disk sector new whole =
    written-run sector new disk whole
    ∙ same_disk disk.sector_count disk.failures _ _ true _ refl
    (dirty_after-chunk [] new disk.dirty (omega (arith, whole)))

-- the extent of a disk of which a sector within it was written
extent_disk-written : (extent : Extent) (disk : Disk) (sector : ℕ) (new : List ℕ) → IsWhole disk
    → IsWithin disk.sector_count extent → sector < extent.count → length new ≡ 512
    → extent_disk extent (written (extent.start + sector) new disk)
    ≡ written sector new (extent_disk extent disk)
extent_disk-written extent disk sector new is_whole lies below whole =
    ap (extent_disk extent) (written-filled_once disk (extent.start + sector) new whole)
    ∙ extent_disk-filled extent disk sector new is_whole lies (omega arith)
    ∙ sym (written-filled_once (extent_disk extent disk) sector new whole)

pub zeroing_start : (extent : Extent) (disk : Disk) → IsZeroed extent [] disk disk
zeroing_start extent disk = record { seen = refl; outside = KeepsOutside-same extent disk disk refl refl }

-- one sector more
pub zeroing_more : (extent : Extent) (old d d' : Disk) (sectors : List ℕ) (sector place : ℕ)
    → IsZeroed extent sectors old d → IsWhole d → IsWithin old.sector_count extent
    → sector < extent.count → place ≡ extent.start + sector → d' ≡ written place zeros d
    → IsZeroed extent (sectors ++ sector ∷ []) old d'
zeroing_more extent old d d' sectors sector place z whole lies below at put =
    let long : length zeros ≡ 512 = length-replicate {A = ℕ} 512 0 in
    let lies_d : IsWithin d.sector_count extent = lies_still extent old d z.outside lies in
    let is : d' ≡ written (extent.start + sector) zeros d = put ∙ ap (λ n. written n zeros d) at in
    let run : d' ≡ filled (extent.start + sector) zeros d = is
    ∙ written-filled_once d (extent.start + sector) zeros long in
    record {
      seen =
          ap (extent_disk extent) is ∙ extent_disk-written extent d sector zeros whole lies_d below long
          ∙ ap (written sector zeros) z.seen
          ∙ sym (zeroed-append sectors (sector ∷ []) (extent_disk extent old));
      outside = outside_trans extent old d d' z.outside
          (KeepsOutside-filled extent d d' sector zeros whole lies_d (omega (arith, long))
          (ap (λ (d : Disk). d.contents) run) (ap (λ (d : Disk). d.sector_count) run));
    }

-- the image fails at a sector
pub zeroing_stops : (extent : Extent) (old d d' : Disk) (all sectors later : List ℕ) (sector place : ℕ)
    → IsZeroed extent sectors old d → IsWhole d → IsWithin old.sector_count extent
    → sector < extent.count → place ≡ extent.start + sector → all ≡ sectors ++ sector ∷ later
    → IsTorn place d d' → StopsZeroing extent all old d'
zeroing_stops extent old d d' all sectors later sector place z whole lies below at listed t =
    let lies_d : IsWithin d.sector_count extent = lies_still extent old d z.outside lies in
    let is : d' ≡ failed (written (extent.start + sector) t.left d) = t.torn
    ∙ ap (λ n. failed (written n t.left d)) at in
    let run : d' ≡ failed (filled (extent.start + sector) t.left d) = is
    ∙ ap failed (written-filled_once d (extent.start + sector) t.left t.whole) in record {
      stopped = record {
        before = sectors;
        sector = sector;
        later = later;
        listed = listed;
        torn = record {
          left = t.left;
          whole = t.whole;
          torn =
              ap (extent_disk extent) is
              ∙ ap failed (extent_disk-written extent d sector t.left whole lies_d below t.whole)
              ∙ ap (λ d. failed (written sector t.left d)) z.seen;
        };
      };
      outside = outside_trans extent old d d' z.outside
          (KeepsOutside-filled extent d d' sector t.left whole lies_d (omega (arith, t.whole))
          (ap (λ (d : Disk). d.contents) run) (ap (λ (d : Disk). d.sector_count) run));
    }

-- ---- the sectors of one segment

-- the sectors of a run so far, and one more
pub run-more : (a n : ℕ) → range_with_len a (n + 1) ≡ range_with_len a n ++ (a + n) ∷ []
run-more a n = range-split a n 1

-- and those behind it
pub run-at : (a n count : ℕ) → n < count → range_with_len a count ≡ range_with_len a n
    ++ (a + n) ∷ range_with_len (a + n + 1) (count - n - 1)
run-at a n count below =
    let whole : count ≡ n + suc (count - n - 1) = omega arith in
    ap (range_with_len a) whole ∙ range-split a n (suc (count - n - 1))

-- ---- the sectors of several segments

flat-append : (xs ys : List WriteZeroesSegment) → all_sectors (xs ++ ys) ≡ all_sectors xs ++ all_sectors ys
flat-append [] ys = refl
flat-append (x ∷ xs) ys = ap (λ l. sectors_of x ++ l) (flat-append xs ys)
    ∙ sym (append_assoc (sectors_of x) (all_sectors xs) (all_sectors ys))

-- a list of segments at an index, as a loop over it comes by
module _ (segments : List WriteZeroesSegment) (n : ℕ) (blank : WriteZeroesSegment)
    (below : n < length segments)
  where
    abbrev here : WriteZeroesSegment
    here = get_or segments n blank

    abbrev done : List ℕ
    done = all_sectors (take n segments)

    abbrev rest : List ℕ
    rest = all_sectors (drop (n + 1) segments)

    sectors-more : all_sectors (take (n + 1) segments) ≡ done ++ sectors_of here
    sectors-more =
        ap all_sectors (take_more segments n blank below) ∙ flat-append (take n segments) (here ∷ [])
        ∙ ap (λ l. done ++ l) (append-nil (sectors_of here))

    sectors-at : all_sectors segments ≡ done ++ (sectors_of here ++ rest)
    sectors-at =
        ap all_sectors (sym (take-append-drop (n + 1) segments))
        ∙ flat-append (take (n + 1) segments) (drop (n + 1) segments) ∙ ap (λ l. l ++ rest) sectors-more
        ∙ append_assoc done (sectors_of here) rest

    -- its sectors are among all
    pub segment-listed : (sector : ℕ) → Contains (sectors_of here) sector
        → Contains (all_sectors segments) sector
    segment-listed sector among =
        subst (λ (sectors : List ℕ). Contains sectors sector) (sym sectors-at)
        (Contains-append_right done (sectors_of here ++ rest) sector
        (Contains-append_left (sectors_of here) rest sector among))

    -- it lies on the disk, as all do
    pub segment_within : (capacity : ℕ) → list_all (has_sectors_within capacity) segments ≡ true
        → here.sector + here.count ≤ capacity
    segment_within capacity all =
        let fits : has_sectors_within capacity here ≡ true =
        AllPass-from_list_all (has_sectors_within capacity) segments all n blank below in
        grind (arith, nat_tests, fits)

    pub segment_addressable : (capacity : ℕ) → list_all (has_sectors_within capacity) segments ≡ true
        → 512 * capacity < 2 ^ 64 → 512 * here.sector < 2 ^ 64
    segment_addressable capacity all disk =
        let fits = segment_within capacity all in omega (arith, fits, disk)

    pub segment_few : (capacity : ℕ) → list_all (has_sectors_within capacity) segments ≡ true
        → here.count ≤ 65536
    segment_few capacity all =
        let fits : has_sectors_within capacity here ≡ true =
        AllPass-from_list_all (has_sectors_within capacity) segments all n blank below in
        grind (arith, nat_tests, fits)

    module _ (extent : Extent) (old d d' : Disk) (z : IsZeroed extent done old d) where
      -- one segment more
      pub zeroing_joins : IsZeroed extent (sectors_of here) d d'
          → IsZeroed extent (all_sectors (take (n + 1) segments)) old d'
      zeroing_joins more = record {
        seen =
            more.seen ∙ ap (zeroed_sectors (sectors_of here)) z.seen
            ∙ sym (zeroed-append done (sectors_of here) (extent_disk extent old))
            ∙ ap (λ l. zeroed_sectors l (extent_disk extent old)) (sym sectors-more);
        outside = outside_trans extent old d d' z.outside more.outside;
      }

      -- the image fails in it
      segment_stops : StopsZeroing extent (sectors_of here) d d'
          → StopsZeroing extent (all_sectors segments) old d'
      segment_stops stops =
          let s = stops.stopped in
          record {
            stopped = record {
              before = done ++ s.before;
              sector = s.sector;
              later = s.later ++ rest;
              listed =
                  sectors-at ∙ ap (λ l. done ++ (l ++ rest)) s.listed
                  ∙ ap (λ l. done ++ l) (append_assoc s.before (s.sector ∷ s.later) rest)
                  ∙ sym (append_assoc done s.before (s.sector ∷ (s.later ++ rest)));
              torn = record {
                left = s.torn.left;
                whole = s.torn.whole;
                torn =
                    s.torn.torn
                    ∙ ap (λ d. failed (written s.sector s.torn.left d)) (ap (zeroed_sectors s.before) z.seen
                    ∙ sym (zeroed-append done s.before (extent_disk extent old)));
              };
            };
            outside = outside_trans extent old d d' z.outside stops.outside;
          }

-- ---- the request

-- these segments of it were zeroed so far
module _ (device : BlockDevice) (buffers : List Buffer) (m : Memory) (disk d disk' : Disk)
    (segments : List WriteZeroesSegment) (n : ℕ)
    (z : IsZeroed device.extent (all_sectors (take n segments)) disk d)
    (are : segments ≡ segments_in (payload_of (readable_of m buffers)))
  where
    abbrev shown : Disk → Disk
    shown disk = extent_disk device.extent disk

    -- the image fails in the next one
    pub zeroes_stopped : (blank : WriteZeroesSegment) → n < length segments
        → StopsZeroing device.extent (sectors_of (get_or segments n blank)) d disk'
        → IsWritten device (WriteZeroes (length segments)) buffers m IoError disk disk'
    zeroes_stopped blank below stops =
        let s = segment_stops segments n blank below device.extent disk d disk' z stops in
        record {
          done = nothing_found (WriteZeroes (length segments)) buffers m (shown disk) (shown disk') IoError
              (inr (inl (record {
                left = shown disk';
                stopped = subst (λ l. IsStopped (all_sectors l) (shown disk) (shown disk')) are s.stopped;
                is = refl;
              })));
          calls = record {
            counted = stopped-failures (all_sectors segments) (shown disk) (shown disk') s.stopped;
            outside = s.outside;
          };
        }

    -- all of them are zeroed, and the flush has come out
    pub zeroes_end : {E : Type 0} (result : Result (Unit {0}) E) → take n segments ≡ segments
        → OnOk result (disk' ≡ flushed d) → OnErr result (disk' ≡ failed d)
        → IsWritten device (WriteZeroes (length segments)) buffers m (status_of result) disk disk'
    zeroes_end result all ok err =
        let sectors : List ℕ = all_sectors (segments_in (payload_of (readable_of m buffers))) in
        let seen : shown d ≡ zeroed_sectors sectors (shown disk) =
        z.seen ∙ ap (λ l. zeroed_sectors (all_sectors l) (shown disk)) (all ∙ are) in
        flush_ends device (WriteZeroes (length segments)) buffers m disk d
        (zeroed_sectors sectors (shown disk)) seen
        (ap (λ (d : Disk). d.failures) seen ∙ zeroed-failures sectors (shown disk)) z.outside
        disk' result ok err (inl (record { found = []; finds = refl; is = refl })) (inr (inr refl))
