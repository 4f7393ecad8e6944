-- A request that was read, and its segments, which are read and then judged.
use Rattle.std.proofs.Common.{◌≡◌, ℕ, ◌+◌, ◌-◌, ◌/◌, ◌≤◌, Bool, true, false, not, cond, List, [], ◌∷◌, ◌++◌, length, map, take, drop, refl, sym, ap, subst, ◌∙◌, arith, nat_lt, length-drop}
use Rattle.std.specs.List.{list_all, range_with_len}
use Rattle.std.proofs.lemmas.Bool.Decides.{nat_tests}
use Rattle.std.proofs.lemmas.List.{take-take, take_all}
use Rattle.std.proofs.lemmas.List.FromFn.{length-map-range_with_len, map-range_with_len_more}
use Rattle.guest_memory.specs.Memory.{Memory}
use Rattle.chain.specs.declared.segment.Buffer.{Buffer}
use Rattle.chain.specs.Bytes.{readable_of}
use Rattle.byteorder.specs.Endian.{little_number}
use Rattle.block_device.specs.declared.device.BlockDevice.{BlockDevice}
use Rattle.block_device.specs.declared.request.Request.{Request}
use Rattle.block_device.specs.declared.segments.WriteZeroesSegment.{WriteZeroesSegment}
use Rattle.block_device.specs.declared.request.Request.TheVariants.{Rejected, WriteZeroes}
use Rattle.block_device.specs.declared.request.RequestStatus.{RequestStatus}
use Rattle.block_device.specs.declared.request.RequestStatus.TheVariants.{IoError, Unsupported}
use Rattle.block_device.specs.Asking.{IsAsked, IsRejected, HasUnreadSegments}
use Rattle.block_device.specs.Request.{AreJudged, AreRead, payload_of, request_of, sector_in, type_of, typed_request, write_zeroes_request_of}
use Rattle.block_device.specs.Zeroes.{are_segments, has_known_flags, has_sectors_within, segment_at, segments_in}

-- a header that lies in one part of the readable list
pub header_in : (part header readable : List ℕ) → part ≡ take (length part) readable → 16 ≤ length part
    → header ≡ take 16 part → header ≡ take 16 readable
header_in part header readable listed enough first =
    first ∙ ap (take 16) listed ∙ take-take 16 (length part) readable enough

-- the fields of a header that was read
pub kind_read : (header readable : List ℕ) (kind : ℕ) → header ≡ take 16 readable
    → kind ≡ little_number 4 header → kind ≡ type_of readable
kind_read header readable kind read is = is ∙ ap (little_number 4) read

pub sector_read : (header readable : List ℕ) (sector : ℕ) → header ≡ take 16 readable
    → sector ≡ little_number 8 (drop 8 header) → sector ≡ sector_in readable
sector_read header readable sector read is = is ∙ ap (λ h. little_number 8 (drop 8 h)) read

-- the second field, at the end of a header
pub last_field : (header : List ℕ) (sector : ℕ) → length header ≡ 16
    → sector ≡ little_number 8 (take 8 (drop 8 header)) → sector ≡ little_number 8 (drop 8 header)
last_field header sector long is =
    is ∙ ap (little_number 8) (take_all 8 (drop 8 header) (omega (arith, long, length-drop 8 header)))

-- the request of a whole header, by its type
pub request_by_type : (device : BlockDevice) (readable : List ℕ) (room kind sector : ℕ)
    (request : Request) → 16 ≤ length readable → kind ≡ type_of readable → sector ≡ sector_in readable
    → request ≡ typed_request device kind sector (payload_of readable) room
    → request ≡ request_of device readable room
request_by_type device readable room kind sector request enough same_kind same_sector is =
    let payload = payload_of readable in
    let short : nat_lt (length readable) 16 ≡ false = grind (arith, nat_tests) in
    is ∙ ap (λ k. typed_request device k sector payload room) same_kind
    ∙ ap (λ s. typed_request device (type_of readable) s payload room) same_sector
    ∙ rw short refl

-- what is behind the header
pub payload_size : (readable : List ℕ) (len : ℕ) → length readable ≡ len
    → length (payload_of readable) ≡ len - 16
payload_size readable len size = length-drop 16 readable ∙ ap (λ n. n - 16) size

pub same_segment : (a b c d e f : ℕ) → a ≡ d → b ≡ e → c ≡ f
    → ◌≡◌ {A = WriteZeroesSegment} (record { sector = a; count = b; flags = c })
    (record { sector = d; count = e; flags = f })
same_segment a b c d e f p q r = rw (p, q, r) refl

-- the first segments of a payload, which were read so far
abbrev pub first_segments : List ℕ → ℕ → List WriteZeroesSegment
first_segments payload n = map (segment_at payload) (range_with_len 0 n)

pub count_first : (payload : List ℕ) (n : ℕ) (read : List WriteZeroesSegment)
    → read ≡ first_segments payload n → length read ≡ n
count_first payload n read are = ap length are ∙ length-map-range_with_len (segment_at payload) 0 n

-- one more
pub segments_more : (payload : List ℕ) (index : ℕ) (read more : List WriteZeroesSegment)
    (segment : WriteZeroesSegment) → read ≡ first_segments payload index → segment ≡ segment_at payload index
    → more ≡ read ++ segment ∷ [] → more ≡ first_segments payload (index + 1)
segments_more payload index read more segment are is put =
    put ∙ ap (λ l. l ++ segment ∷ []) are ∙ ap (λ s. first_segments payload index ++ s ∷ []) is
    ∙ sym (map-range_with_len_more (segment_at payload) 0 index index (omega arith))

count_of : (payload : List ℕ) (segments : List WriteZeroesSegment) → segments ≡ segments_in payload
    → length segments ≡ length payload / 16
count_of payload segments are =
    ap length are ∙ length-map-range_with_len (segment_at payload) 0 (length payload / 16)

-- by the two tests that they must pass
by_tests : (len : ℕ) (read_only fit known within : Bool) → read_only ≡ false → fit ≡ true
    → cond read_only (Rejected IoError)
    (cond (not fit) (Rejected IoError)
    (cond (not known) (Rejected Unsupported)
    (cond (not within) (Rejected IoError) (WriteZeroes (len / 16)))))
    ≡ cond (not known) (Rejected Unsupported) (cond (not within) (Rejected IoError) (WriteZeroes (len / 16)))
by_tests len read_only fit known within e f = rw (e, f) refl

module _ (device : BlockDevice) (payload : List ℕ) (segments : List WriteZeroesSegment)
    (read : AreRead device payload segments) where
  judged_by : (known within : Bool) → known ≡ list_all has_known_flags segments
      → within ≡ list_all (has_sectors_within device.extent.count) segments
      → write_zeroes_request_of device payload
      ≡ cond (not known) (Rejected Unsupported)
      (cond (not within) (Rejected IoError) (WriteZeroes (length payload / 16)))
  judged_by known within flags sectors =
      by_tests (length payload) device.read_only (are_segments (length payload))
      (list_all has_known_flags (segments_in payload))
      (list_all (has_sectors_within device.extent.count) (segments_in payload)) read.writable read.fit
      ∙ rw (flags, sectors, read.are) refl

  -- a flag of one isn't known
  pub judged_unknown : list_all has_known_flags segments ≡ false
      → write_zeroes_request_of device payload ≡ Rejected Unsupported
  judged_unknown flags =
      judged_by false (list_all (has_sectors_within device.extent.count) segments) (sym flags) refl

  -- a sector of one is behind the disk's last one
  pub judged_outside : list_all has_known_flags segments ≡ true
      → list_all (has_sectors_within device.extent.count) segments ≡ false
      → write_zeroes_request_of device payload ≡ Rejected IoError
  judged_outside flags sectors = judged_by true false (sym flags) (sym sectors)

  -- they pass all tests
  pub judged_are : list_all has_known_flags segments ≡ true
      → list_all (has_sectors_within device.extent.count) segments ≡ true → AreJudged device payload segments
  judged_are flags sectors =
      let count = count_of payload segments read.are in
      record {
        are = read.are;
        size = grind (arith, nat_tests, read.fit, count);
        few = grind (arith, nat_tests, read.fit, count);
        within = sectors;
        request = ap WriteZeroes count ∙ sym (judged_by true true (sym flags) (sym sectors));
      }

-- a chain whose segments were judged asks the image
pub judged_asks : (device : BlockDevice) (m : Memory) (buffers : List Buffer) (len : ℕ)
    (segments : List WriteZeroesSegment) → HasUnreadSegments device m buffers len
    → AreJudged device (payload_of (readable_of m buffers)) segments
    → IsAsked device m buffers (WriteZeroes (length segments))
judged_asks device m buffers len segments unread judged = record {
  room = unread.room;
  all = unread.all;
  is = judged.request ∙ sym unread.zeroes.is;
  servable = (
    judged.size,
    subst (λ l. list_all (has_sectors_within device.extent.count) l ≡ true) judged.are judged.within,
  );
  asks = refl;
}

-- or can't be served
pub judged_rejected : (device : BlockDevice) (m : Memory) (buffers : List Buffer) (len : ℕ)
    (status : RequestStatus) → HasUnreadSegments device m buffers len
    → write_zeroes_request_of device (payload_of (readable_of m buffers)) ≡ Rejected status
    → IsRejected device m buffers status
judged_rejected device m buffers len status unread is =
    record { room = unread.room; all = unread.all; is = sym (unread.zeroes.is ∙ is) }
