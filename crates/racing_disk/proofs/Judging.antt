-- A request that was judged by one copy of its readable list.
use Rattle.std.proofs.Common.{◌≡◌, ◌∙◌, ◌⊎◌, inl, inr, ℕ, zero, suc, ◌+◌, ◌≤◌, ◌<◌, false, Bool, List, [], ◌∷◌, ◌++◌, length, take, drop, refl, sym, ap, subst, arith, nat_lt, length-drop}
use Rattle.std.specs.Prelude.{true}
use Rattle.std.proofs.lemmas.Bool.Decides.{nat_tests}
use Rattle.std.proofs.lemmas.List.{drop_at, length-take-le, take-append-drop, take_all, take_at}
use Rattle.byteorder.specs.Endian.{little_number}
use Rattle.chain.specs.declared.segment.Buffer.{Buffer}
use Rattle.chain.specs.declared.segment.Segment.{Segment}
use Rattle.chain.specs.Buffers.{Good}
use Rattle.chain.specs.Bytes.{addresses_of, len_of, readable_of}
use Rattle.chain.proofs.Directions.{length-addresses_of, length-readable_of}
use Rattle.shared_memory.specs.Sightings.{Sightings, Loads, memory}
use Rattle.shared_memory.proofs.Sightings.{loads_none, loads_range}
use Rattle.block_device.specs.declared.device.BlockDevice.{BlockDevice}
use Rattle.block_device.specs.declared.request.Request.{Request}
use Rattle.block_device.specs.declared.request.Request.TheVariants.{Rejected}
use Rattle.block_device.specs.declared.request.RequestStatus.TheVariants.{IoError}
use Rattle.block_device.specs.declared.segments.WriteZeroesSegment.{WriteZeroesSegment}
use Rattle.block_device.specs.Asking.{HasHeader, IsKnown, IsZeroes}
use Rattle.block_device.specs.Operation.{zeroes_in}
use Rattle.block_device.specs.Request.{AreRead, payload_of, write_zeroes_request_of}
use Rattle.block_device.specs.Zeroes.{are_segments}
use Rattle.shared_memory.specs.Bytes.{AreBytesSeen}
use Rattle.chain_handler.proofs.Seeing.{bytes_count, bytes_later, bytes_sooner, readable_seen, seen_append}
use Rattle.chain_handler.proofs.Still.{good_same}
use Rattle.racing_disk.specs.Copying.{HasPayload, IsCopy, IsHeader}
use Rattle.racing_disk.specs.Segments.{HasSegments}
use Rattle.racing_disk.specs.Judging.{IsJudged, IsZeroing}

-- ---- what is behind the header, as it stands at one access

bytes_drop : (a b : Sightings) (n : ℕ) (addrs bytes : List ℕ) → AreBytesSeen a b addrs bytes
    → AreBytesSeen a b (drop n addrs) (drop n bytes)
bytes_drop a b zero addrs bytes seen = seen
bytes_drop a b (suc n) [] [] seen = tt
bytes_drop a b (suc n) [] (x ∷ bytes) seen = absurd seen
bytes_drop a b (suc n) (at ∷ addrs) [] seen = absurd seen
bytes_drop a b (suc n) (at ∷ addrs) (x ∷ bytes) seen = bytes_drop a b n addrs bytes seen.1

pub payload_seen : (s : Sightings) (buffers : List Buffer) → Good (memory s) buffers
    → AreBytesSeen s s (drop 16 (addresses_of false buffers)) (drop 16 (readable_of (memory s) buffers))
payload_seen s buffers good =
    bytes_drop s s 16 (addresses_of false buffers) (readable_of (memory s) buffers) (readable_seen s buffers good)

-- ---- a header, and what is behind it

module _ (races : Bool) (a b c : Sightings) (buffers : List Buffer) (len kind sector : ℕ) (first : Loads races a b)
    (later : Loads races b c) (all : len_of false buffers ≡ len) (enough : 16 ≤ len) (h : IsHeader a b buffers kind sector)
    (payload : List ℕ) (behind : AreBytesSeen b c (drop 16 (addresses_of false buffers)) payload) where
  abbrev pub readable : List ℕ
  readable = h.bytes ++ payload

  header_long : length h.bytes ≡ 16
  header_long =
      bytes_count a b (take 16 (addresses_of false buffers)) h.bytes h.copy
      ∙ length-take-le 16 (addresses_of false buffers) (omega (arith, length-addresses_of false buffers, all, enough))

  pub one_copy : IsCopy a c buffers readable
  one_copy =
      let addrs = addresses_of false buffers in
      subst (λ (l : List ℕ). AreBytesSeen a c l readable) (take-append-drop 16 addrs)
      (seen_append a c (take 16 addrs) (drop 16 addrs) h.bytes payload
      (bytes_later races a b c (take 16 addrs) h.bytes later h.copy)
      (bytes_sooner races a b c (drop 16 addrs) payload first behind))

  pub begins : HasHeader kind sector len readable
  begins =
      let front : h.bytes ≡ take 16 readable = sym (take_at h.bytes payload 16 header_long) in
      record {
        kind_is = h.kind_is ∙ ap (little_number 4) front;
        sector_is = h.sector_is ∙ ap (λ l. little_number 8 (drop 8 l)) front;
        long = bytes_count a c (addresses_of false buffers) readable one_copy ∙ length-addresses_of false buffers ∙ all;
      }

  pub payload_is : payload_of readable ≡ payload
  payload_is = drop_at h.bytes payload 16 header_long

-- its request is known by that
pub known_judged : (device : BlockDevice) (races : Bool) (a b : Sightings) (buffers : List Buffer) (room len kind sector : ℕ)
    (request : Request) (runs : List Segment) → Good (memory a) buffers → Loads races a b → len_of false buffers ≡ len
    → 16 ≤ len → IsHeader a b buffers kind sector
    → ((bytes : List ℕ) → HasHeader kind sector len bytes → IsKnown device bytes room request)
    → IsJudged device a b buffers room request runs
known_judged device races a b buffers room len kind sector request runs good loads all enough h known =
    let good_then : Good (memory b) buffers = good_same (memory a) (memory b) buffers (loads_range races a b loads) good in
    let payload = drop 16 (readable_of (memory b) buffers) in
    let behind = payload_seen b buffers good_then in
    let later = none in
    let readable = h.bytes ++ payload in
    let is : IsKnown device readable room request =
    known readable (begins races a b b buffers len kind sector loads later all enough h payload behind) in
    record {
      readable = readable;
      copy = one_copy races a b b buffers len kind sector loads later all enough h payload behind;
      judged = record {
        is = is.is;
        servable = is.servable;
        zeroes = λ some. absurd (cc (some, is.plain));
      };
    }
  where
    none : Loads races b b
    none = loads_none races b

-- it is a WRITE_ZEROES
pub zeroes_judged : (device : BlockDevice) (races : Bool) (a b c : Sightings) (buffers : List Buffer) (room len kind sector behind : ℕ)
    (request : Request) (runs : List Segment) → Loads races a b → Loads races b c → len_of false buffers ≡ len
    → 16 ≤ len → IsHeader a b buffers kind sector
    → ((bytes : List ℕ) → HasHeader kind sector len bytes → IsZeroes device bytes room behind)
    → HasPayload b c buffers (λ payload. IsZeroing device payload request runs)
    → IsJudged device a c buffers room request runs
zeroes_judged device races a b c buffers room len kind sector _ request runs first later all enough h known p =
    let readable = h.bytes ++ p.payload in
    let begun = begins races a b c buffers len kind sector first later all enough h p.payload p.copy in
    let behind : payload_of readable ≡ p.payload =
    payload_is races a b c buffers len kind sector first later all enough h p.payload p.copy in
    record {
      readable = readable;
      copy = one_copy races a b c buffers len kind sector first later all enough h p.payload p.copy;
      judged = record {
        is = p.is.is ∙ sym ((known readable begun).is ∙ ap (write_zeroes_request_of device) behind);
        servable = rw behind (p.is.servable room);
        zeroes = λ some. p.is.zeroes some ∙ ap zeroes_in (sym behind);
      };
    }

-- there is no whole header
pub short_judged : (device : BlockDevice) (a : Sightings) (buffers : List Buffer) (room len : ℕ) (runs : List Segment)
    → Good (memory a) buffers → len_of false buffers ≡ len → len < 16
    → IsJudged device a a buffers room (Rejected IoError) runs
short_judged device a buffers room len runs good all few =
    let readable = readable_of (memory a) buffers in
    let short : nat_lt (length readable) 16 ≡ true =
    grind (arith, nat_tests, length-readable_of (memory a) buffers good.inside, all, few) in
    record {
      readable = readable;
      copy = readable_seen a buffers good;
      judged = record { is = rw short refl; servable = tt; zeroes = λ some. cc };
    }

-- ---- what is behind the header

module _ (old new : Sightings) (buffers : List Buffer) (len : ℕ) where
  behind_count : len_of false buffers ≡ 16 + len → length (drop 16 (addresses_of false buffers)) ≡ len
  behind_count all =
      omega (arith, length-drop 16 (addresses_of false buffers), length-addresses_of false buffers, all)

  -- so many places are all of them
  pub behind_all : (n : ℕ) (payload : List ℕ) → len_of false buffers ≡ 16 + len → n ≡ len
      → AreBytesSeen old new (take n (drop 16 (addresses_of false buffers))) payload
      → AreBytesSeen old new (drop 16 (addresses_of false buffers)) payload
  behind_all n payload all same seen =
      let addrs = drop 16 (addresses_of false buffers) in
      subst (λ (l : List ℕ). AreBytesSeen old new l payload)
      (take_all n addrs (omega (arith, behind_count all, same))) seen

  pub behind_long : (payload : List ℕ) → len_of false buffers ≡ 16 + len
      → AreBytesSeen old new (drop 16 (addresses_of false buffers)) payload → length payload ≡ len
  behind_long payload all seen =
      bytes_count old new (drop 16 (addresses_of false buffers)) payload seen ∙ behind_count all

-- ---- a WRITE_ZEROES that is rejected by its length, or since nothing may be written

refused : (device : BlockDevice) (payload : List ℕ) (read_only fit : Bool) → device.read_only ≡ read_only
    → are_segments (length payload) ≡ fit → (read_only ≡ true) ⊎ (fit ≡ false)
    → write_zeroes_request_of device payload ≡ Rejected IoError
refused device payload true fit e f which = rw e refl
refused device payload false false e f which = rw (e, f) refl
refused device payload false true e f (inl ro) = cc
refused device payload false true e f (inr none) = cc

pub no_segments : (device : BlockDevice) (s : Sightings) (buffers : List Buffer) (len : ℕ) → Good (memory s) buffers
    → len_of false buffers ≡ 16 + len → (device.read_only ≡ true) ⊎ (are_segments len ≡ false)
    → HasPayload s s buffers (λ payload. write_zeroes_request_of device payload ≡ Rejected IoError)
no_segments device s buffers len good all which =
    let payload = drop 16 (readable_of (memory s) buffers) in
    let seen = payload_seen s buffers good in
    let long : length payload ≡ len = behind_long s s buffers len payload all seen in
    record {
      payload = payload;
      copy = seen;
      is = refused device payload device.read_only (are_segments len) refl (ap are_segments long) which;
    }

-- ---- one whose segments were copied

pub judged_payload : (old new : Sightings) (buffers : List Buffer) (device : BlockDevice) (len : ℕ)
    (segments : List WriteZeroesSegment) (fit : Bool) (Is : List ℕ → Type 0) → device.read_only ≡ false → fit ≡ are_segments len
    → fit ≡ true → HasPayload old new buffers (λ payload. HasSegments len payload segments)
    → ((payload : List ℕ) → AreRead device payload segments → Is payload) → HasPayload old new buffers Is
judged_payload old new buffers device len segments fit Is writable tested passed h judged = record {
  payload = h.payload;
  copy = h.copy;
  is = judged h.payload (record {
    are = h.is.are;
    writable = writable;
    fit = ap are_segments h.is.long ∙ sym tested ∙ passed;
  });
}
