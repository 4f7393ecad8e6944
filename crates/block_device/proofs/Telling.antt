-- What the host is told of a request: that it fits, that the runs of a WRITE_ZEROES are those of its
-- segments, and that nothing of it lies outside.
use Rattle.std.proofs.Common.{◌≡◌, ℕ, ◌+◌, ◌*◌, ◌/◌, ◌<◌, ◌≤◌, Bool, true, false, cond, List, [], ◌∷◌, ◌++◌, length, map, take, get_or, refl, sym, ap, subst, ◌∙◌, arith, append-nil, length-drop}
use Rattle.std.specs.Prelude.{All, nat_lt}
use Rattle.std.specs.List.{filter, list_all}
use Rattle.std.proofs.lemmas.Bool.{lt-ltb, le-ltb}
use Rattle.std.proofs.lemmas.Bool.Decides.{nat_tests}
use Rattle.std.proofs.lemmas.Grind.{common_steps}
use Rattle.std.proofs.lemmas.List.{length-map, length-take-le, map-append, take_more}
use Rattle.std.proofs.lemmas.List.Elements.{All-cons, All-filter, All-nil, filter-append}
use Rattle.std.proofs.lemmas.List.FromFn.{length-map-range_with_len}
use Rattle.std.proofs.lemmas.List.Sums.{count_by-le-length, length-filter}
use Rattle.guest_memory.specs.Memory.{Memory}
use Rattle.chain.specs.declared.segment.Buffer.{Buffer}
use Rattle.chain.specs.declared.segment.Segment.{Segment}
use Rattle.chain.specs.Buffers.{Good}
use Rattle.chain.specs.Bytes.{len_of, readable_of, segments_of, writable_of}
use Rattle.chain.specs.Runs.{has_bytes}
use Rattle.chain.proofs.Cutting.{runs_few, runs_inside}
use Rattle.chain.proofs.Directions.{All-segments_of, length-addresses_of}
use Rattle.block_device.specs.declared.device.BlockDevice.{BlockDevice}
use Rattle.block_device.specs.declared.operation.Operation.{Operation}
use Rattle.block_device.specs.declared.request.RequestStatus.TheVariants.{IoError}
use Rattle.block_device.specs.declared.request.Request.{Request}
use Rattle.block_device.specs.declared.request.Request.TheVariants.{Rejected, Read, Write, Flush, GetId, WriteZeroes}
use Rattle.block_device.specs.declared.segments.WriteZeroesSegment.{WriteZeroesSegment}
use Rattle.block_device.specs.Asking.{asks_image, has_segments}
use Rattle.block_device.specs.Operation.{HasPlaces, IsToldToHost, LiesInside, OnDisk, disk_run, disk_runs, operation_of, runs_by, runs_for, runs_with, zeroes_in}
use Rattle.block_device.specs.Progress.{IsServable}
use Rattle.block_device.specs.Request.{payload_of, request_of, sector_in, type_of, typed_request}
use Rattle.block_device.specs.Zeroes.{are_segments, has_sectors_within, segment_at, segments_in}
use Rattle.block_device.proofs.RequestCases.{request_by_cases}
use Rattle.block_device.proofs.Zeroing.{both}

-- ---- no request has more segments than may be

abbrev pub HasFew : Request → Type 0
HasFew (WriteZeroes segments) = segments ≤ 32
HasFew request = Unit {0}

pub few_segments : (device : BlockDevice) (readable : List ℕ) (room : ℕ) (request : Request)
    → request ≡ request_of device readable room → HasFew request
few_segments device readable room request is =
    subst HasFew (sym is) (request_by_cases HasFew device readable room (λ status. tt) (λ fit. tt) (λ fit. tt) tt
    (λ long. tt) (λ fit within. few (length (payload_of readable)) fit))
  where
    few : (len : ℕ) → are_segments len ≡ true → len / 16 ≤ 32
    few len fit = grind (arith, nat_tests, common_steps)

-- ---- its places are there

-- what is written was behind a whole header
header_whole : (device : BlockDevice) (readable : List ℕ) (room sector count : ℕ) (short : Bool)
    → nat_lt (length readable) 16 ≡ short
    → Write sector count ≡ cond short (Rejected IoError)
    (typed_request device (type_of readable) (sector_in readable) (payload_of readable) room)
    → 16 ≤ length readable
header_whole device readable room sector count true e is = cc
header_whole device readable room sector count false e is = grind (arith, nat_tests, e)

pub places : (device : BlockDevice) (readable : List ℕ) (room : ℕ) (buffers : List Buffer) (request : Request)
    → length readable ≡ len_of false buffers → length (writable_of buffers) ≡ room + 1
    → request ≡ request_of device readable room
    → IsServable device.extent.count request (payload_of readable) room → asks_image request ≡ true
    → HasPlaces device.extent.count buffers request
places device readable room buffers (Rejected status) long all is s asks = cc
places device readable room buffers (Read sector count) long all is s asks =
    (s.0, omega (arith, s.1, all, length-addresses_of true buffers))
places device readable room buffers (Write sector count) long all is s asks =
    let whole = header_whole device readable room sector count (nat_lt (length readable) 16) refl is in
    (s.0, omega (arith, s.1, whole, length-drop 16 readable, long))
places device readable room buffers Flush long all is s asks = refl
places device readable room buffers GetId long all is s asks = cc
places device readable room buffers (WriteZeroes segments) long all is s asks = refl

-- ---- the runs of a WRITE_ZEROES

-- these are the runs of the first segments
pub record AreRuns (segments : List WriteZeroesSegment) (n : ℕ) (runs : List Segment) : Type 0 where
  pub are : runs ≡ disk_runs (take n segments)

runs-more : (segments : List WriteZeroesSegment) (n : ℕ) (blank : WriteZeroesSegment) → n < length segments
    → disk_runs (take (n + 1) segments)
    ≡ disk_runs (take n segments) ++ disk_runs (get_or segments n blank ∷ [])
runs-more segments n blank below =
    let here = get_or segments n blank in
    ap disk_runs (take_more segments n blank below)
    ∙ ap (filter has_bytes) (map-append disk_run (take n segments) (here ∷ []))
    ∙ filter-append has_bytes (map disk_run (take n segments)) (disk_run here ∷ [])

pub runs_put : (segments : List WriteZeroesSegment) (n : ℕ) (blank : WriteZeroesSegment)
    (runs new : List Segment)
    → n < length segments → AreRuns segments n runs → 0 < (get_or segments n blank).count
    → new ≡ runs ++ disk_run (get_or segments n blank) ∷ [] → AreRuns segments (n + 1) new
runs_put segments n blank runs new below h some put =
    let here = get_or segments n blank in
    let one : disk_runs (here ∷ []) ≡ disk_run here ∷ [] =
    rw (lt-ltb 0 (512 * here.count) (omega (arith, some))) refl in
    record {
      are = put ∙ ap (λ l. runs ++ l) (sym one) ∙ ap (λ l. l ++ disk_runs (here ∷ [])) h.are
          ∙ sym (runs-more segments n blank below);
    }

pub runs_passed : (segments : List WriteZeroesSegment) (n : ℕ) (blank : WriteZeroesSegment)
    (runs : List Segment)
    → n < length segments → AreRuns segments n runs → (get_or segments n blank).count ≤ 0
    → AreRuns segments (n + 1) runs
runs_passed segments n blank runs below h none =
    let here = get_or segments n blank in
    let one : disk_runs (here ∷ []) ≡ [] = rw (le-ltb 0 (512 * here.count) (omega (arith, none))) refl in
    record {
      are = sym (append-nil runs) ∙ ap (λ l. runs ++ l) (sym one) ∙ ap (λ l. l ++ disk_runs (here ∷ [])) h.are
          ∙ sym (runs-more segments n blank below);
    }

few_of : (segments : List WriteZeroesSegment) → length (disk_runs segments) ≤ length segments
few_of segments =
    omega (
      arith,
      length-filter has_bytes (map disk_run segments),
      count_by-le-length has_bytes (map disk_run segments),
      length-map segments disk_run,
    )

pub runs_few_before : (segments : List WriteZeroesSegment) (n : ℕ) (runs : List Segment)
    → n ≤ length segments → AreRuns segments n runs → length runs ≤ n
runs_few_before segments n runs some h =
    omega (arith, ap length h.are, few_of (take n segments), length-take-le n segments some)

-- of a request with segments the runs are theirs
pub zeroes_are : (zeroes : List Segment) (request : Request) (buffers : List Buffer) → has_segments request ≡ true
    → runs_with zeroes request buffers ≡ zeroes
zeroes_are zeroes (Rejected status) buffers some = cc
zeroes_are zeroes (Read sector count) buffers some = cc
zeroes_are zeroes (Write sector count) buffers some = cc
zeroes_are zeroes Flush buffers some = cc
zeroes_are zeroes GetId buffers some = cc
zeroes_are zeroes (WriteZeroes segments) buffers some = refl

-- a WRITE_ZEROES left them
pub runs_left : (zeroes kept : List Segment) (request : Request) (buffers : List Buffer)
    → (has_segments request ≡ true → kept ≡ zeroes)
    → runs_with kept request buffers ≡ runs_with zeroes request buffers
runs_left zeroes kept (Rejected status) buffers left = refl
runs_left zeroes kept (Read sector count) buffers left = refl
runs_left zeroes kept (Write sector count) buffers left = refl
runs_left zeroes kept Flush buffers left = refl
runs_left zeroes kept GetId buffers left = refl
runs_left zeroes kept (WriteZeroes segments) buffers left = left refl

pub told_runs : (device : BlockDevice) (m : Memory) (buffers : List Buffer) (request : Request) (kept : List Segment)
    → IsToldToHost device m buffers request kept → runs_with kept request buffers ≡ runs_for request m buffers
told_runs device m buffers request kept told =
    let zeroes = zeroes_in (payload_of (readable_of m buffers)) in
    runs_left zeroes kept request buffers (λ some. told.zeroes some ∙ zeroes_are zeroes request buffers some)

-- ---- nothing lies outside

on_disk : (capacity : ℕ) (segment : WriteZeroesSegment) → has_sectors_within capacity segment ≡ true
    → OnDisk capacity (disk_run segment)
on_disk capacity segment fits = let h : segment.sector + segment.count ≤ capacity =
    grind (arith, nat_tests, fits) in omega (arith, h)

all_on_disk : (capacity : ℕ) (segments : List WriteZeroesSegment)
    → list_all (has_sectors_within capacity) segments ≡ true → All (OnDisk capacity) (map disk_run segments)
all_on_disk capacity [] fit = All-nil (OnDisk capacity)
all_on_disk capacity (segment ∷ segments) fit =
    let parts = both (has_sectors_within capacity segment)
    (list_all (has_sectors_within capacity) segments) fit in
    All-cons (OnDisk capacity) (disk_run segment) (map disk_run segments) (on_disk capacity segment parts.0)
    (all_on_disk capacity segments parts.1)

pub zeroes_on_disk : (capacity : ℕ) (request : Request) (payload : List ℕ) (room : ℕ)
    → IsServable capacity request payload room → has_segments request ≡ true
    → All (OnDisk capacity) (zeroes_in payload)
zeroes_on_disk capacity (Rejected status) payload room s some = cc
zeroes_on_disk capacity (Read sector count) payload room s some = cc
zeroes_on_disk capacity (Write sector count) payload room s some = cc
zeroes_on_disk capacity Flush payload room s some = cc
zeroes_on_disk capacity GetId payload room s some = cc
zeroes_on_disk capacity (WriteZeroes segments) payload room s some =
    All-filter has_bytes (OnDisk capacity) (map disk_run (segments_in payload))
    (all_on_disk capacity (segments_in payload) s.1)

inside_by : (capacity : ℕ) (m : Memory) (buffers : List Buffer) (request : Request) (readable : List ℕ) (stable : Bool)
    (room : ℕ) → Good m buffers → IsServable capacity request (payload_of readable) room → HasFew request
    → asks_image request ≡ true
    → LiesInside capacity m (operation_of stable request) (runs_by request readable buffers)
inside_by capacity m buffers (Rejected status) readable stable room good s few asks = cc
inside_by capacity m buffers (Read sector count) readable stable room good s few asks = record {
  disk = omega (arith, s.0);
  lie = runs_inside m (segments_of true buffers) 0 (512 * count) (All-segments_of m true buffers good.inside);
  few = omega (arith, runs_few true buffers 0 (512 * count), good.few);
}
inside_by capacity m buffers (Write sector count) readable stable room good s few asks = record {
  disk = omega (arith, s.0);
  lie = runs_inside m (segments_of false buffers) 16 (16 + 512 * count)
      (All-segments_of m false buffers good.inside);
  few = omega (arith, runs_few false buffers 16 (16 + 512 * count), good.few);
}
inside_by capacity m buffers Flush readable stable room good s few asks =
    record { disk = omega arith; lie = refl; few = omega arith }
inside_by capacity m buffers GetId readable stable room good s few asks = cc
inside_by capacity m buffers (WriteZeroes segments) readable stable room good s few asks =
    let payload = payload_of readable in
    record {
      disk = omega arith;
      lie = zeroes_on_disk capacity (WriteZeroes segments) payload room s refl;
      few = omega (
        arith,
        few_of (segments_in payload),
        length-map-range_with_len (segment_at payload) 0
            (length payload / 16),
        s.0,
        few,
      );
    }

-- what is told of a chain that asks, which was judged by these readable bytes
pub told_inside : (device : BlockDevice) (m : Memory) (buffers : List Buffer) (request : Request) (readable : List ℕ)
    (stable : Bool) (room : ℕ) (operation : Operation) (runs : List Segment) → Good m buffers
    → request ≡ request_of device readable room
    → IsServable device.extent.count request (payload_of readable) room → asks_image request ≡ true
    → operation ≡ operation_of stable request → runs ≡ runs_by request readable buffers
    → LiesInside device.extent.count m operation runs
told_inside device m buffers request readable stable room operation runs good is servable asks told are =
    rw (told, are) (inside_by device.extent.count m buffers request readable stable room good servable
    (few_segments device readable room request is) asks)
